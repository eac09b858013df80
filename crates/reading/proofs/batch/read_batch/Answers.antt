-- `read_batch` reads the header, the jobs, the delays and what the edition has after them; the first refusal is the file's.
use mathlib.Core.Path.{◌∙◌}
use native.Mathlib.Omega.{arith}
use Rattle.model.specs.Batch.{blank_job, blank_delay}
use Rattle.model.specs.Open.{job, delay}
use Rattle.frame_read.proofs.Told.{told_ok, told_err}
use Rattle.further_read.specs.Further.{further_told}
use Rattle.reading.specs.Read.{one_told, all_told}
use Rattle.reading.proofs.Told.{told_is, exit_told, then_refused, items_at}
use Rattle.reading.proofs.FileLaws.{first_at, header_refused, jobs_refused, delays_refused, rest_refused, file_read}
use Rattle.reading.proofs.batch.read_batch.Goals as goal

-- the header is refused
pub returns-in_err-edition : goal.returns-in_err-edition
unfolding one_told
returns-in_err-edition c = exit_told _ _ c.from_residual.ensures.1 ∙ header_refused c.args.file.now _ (then_refused _ _ _ (told_err _ c.in_err-edition.ensures))

pub read_all-requires : goal.read_all-requires
read_all-requires c = let f = first_at _ _ _ _ _ (told_ok c.in_ok-edition.ensures) in
    (omega arith, (f.inside, omega (arith, f.jobs)))

-- the jobs are refused
pub returns-in_err-jobs : goal.returns-in_err-jobs
unfolding all_told
returns-in_err-jobs c = let f = first_at _ _ _ _ _ (told_ok c.in_ok-edition.ensures) in
    exit_told _ _ c.from_residual-in_err-jobs.ensures.1 ∙ jobs_refused _ _ _ _ _ f _ (then_refused _ _ _ (rw c.from.ensures at (told_err _ c.in_err-jobs.ensures)))

pub read_all-requires-2 : goal.read_all-requires-2
unfolding blank_job
read_all-requires-2 c = let f = first_at _ _ _ _ _ (told_ok c.in_ok-edition.ensures) in
    let i = items_at job c.args.file.now 24 blank_job c.in_ok-edition.n c.in_ok-edition.after_header f.inside c.in_ok-jobs.jobs c.in_ok-jobs.after_jobs (rw c.from.ensures at (told_ok c.in_ok-jobs.ensures)) in
    (omega arith, (i.inside, omega (arith, f.delays)))

-- the delays are refused
pub returns-in_err-delays : goal.returns-in_err-delays
unfolding all_told blank_job
returns-in_err-delays c = let f = first_at _ _ _ _ _ (told_ok c.in_ok-edition.ensures) in
    let i = items_at job c.args.file.now 24 blank_job c.in_ok-edition.n c.in_ok-edition.after_header f.inside c.in_ok-jobs.jobs c.in_ok-jobs.after_jobs (rw c.from.ensures at (told_ok c.in_ok-jobs.ensures)) in
    exit_told _ _ c.from_residual-in_err-delays.ensures.1 ∙ delays_refused _ _ _ _ _ f _ _ i _ (then_refused _ _ _ (rw c.from-2.ensures at (told_err _ c.in_err-delays.ensures)))

pub read_rest-requires : goal.read_rest-requires
unfolding blank_job blank_delay
read_rest-requires c = let f = first_at _ _ _ _ _ (told_ok c.in_ok-edition.ensures) in
    let i = items_at job c.args.file.now 24 blank_job c.in_ok-edition.n c.in_ok-edition.after_header f.inside c.in_ok-jobs.jobs c.in_ok-jobs.after_jobs (rw c.from.ensures at (told_ok c.in_ok-jobs.ensures)) in
    let j = items_at (delay c.in_ok-edition.n) c.args.file.now 128 blank_delay c.in_ok-edition.m c.in_ok-jobs.after_jobs i.inside c.in_ok-delays.delays c.in_ok-delays.end (rw c.from-2.ensures at (told_ok c.in_ok-delays.ensures)) in
    (j.inside, f.jobs)

-- what the edition has after them is refused
pub returns-in_err-windows : goal.returns-in_err-windows
unfolding further_told blank_job blank_delay
returns-in_err-windows c = let f = first_at _ _ _ _ _ (told_ok c.in_ok-edition.ensures) in
    let i = items_at job c.args.file.now 24 blank_job c.in_ok-edition.n c.in_ok-edition.after_header f.inside c.in_ok-jobs.jobs c.in_ok-jobs.after_jobs (rw c.from.ensures at (told_ok c.in_ok-jobs.ensures)) in
    let j = items_at (delay c.in_ok-edition.n) c.args.file.now 128 blank_delay c.in_ok-edition.m c.in_ok-jobs.after_jobs i.inside c.in_ok-delays.delays c.in_ok-delays.end (rw c.from-2.ensures at (told_ok c.in_ok-delays.ensures)) in
    exit_told _ _ c.from_residual-in_err-windows.ensures.1 ∙ rest_refused _ _ _ _ _ f _ _ i _ _ j _ (then_refused _ _ _ (told_err _ c.in_err-windows.ensures))

-- all are read
pub returns : goal.returns
unfolding blank_job blank_delay
returns c = let f = first_at _ _ _ _ _ (told_ok c.in_ok-edition.ensures) in
    let i = items_at job c.args.file.now 24 blank_job c.in_ok-edition.n c.in_ok-edition.after_header f.inside c.in_ok-jobs.jobs c.in_ok-jobs.after_jobs (rw c.from.ensures at (told_ok c.in_ok-jobs.ensures)) in
    let j = items_at (delay c.in_ok-edition.n) c.args.file.now 128 blank_delay c.in_ok-edition.m c.in_ok-jobs.after_jobs i.inside c.in_ok-delays.delays c.in_ok-delays.end (rw c.from-2.ensures at (told_ok c.in_ok-delays.ensures)) in
    rw c.from-3.ensures (told_is ∙ file_read _ _ _ _ _ f _ _ i _ _ j _ (told_ok c.in_ok-windows.ensures))
