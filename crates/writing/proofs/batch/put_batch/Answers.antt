-- `put_batch` puts the parts of the text one behind the other.
use mathlib.Core.Path.{refl, ap, ◌∙◌}
use mathlib.Core.List.{◌++◌, append_assoc}
use native.Mathlib.Omega.{arith}
use borrow.Author.Rules.{rules}
use Rattle.lines.specs.Write.{overwritten}
use lib.ListN.{length-append}
use Rattle.model.specs.Common.{joined}
use Rattle.model.specs.Batch.{delays_of}
use Rattle.model.specs.Window.{window_text, window_lines}
use Rattle.model.specs.Rest.{rest_text, rest_lines}
use Rattle.model.specs.Format.{header_line, job_line, jobs_of, delay_line, further_of, further_text, batch_file}
use Rattle.frame_put.proofs.Lengths.{header_length}
use Rattle.writing.proofs.Texts.{delays_length, batch_length, front_none, front_more}
use Rattle.writing.proofs.batch.put_batch.Goals as goal

pub overflow_cast-batch : goal.overflow_cast-batch
unfolding batch_file further_text further_of
overflow_cast-batch c = search rules

pub put_header-jobs-requires : goal.put_header-jobs-requires
unfolding batch_file further_text further_of
put_header-jobs-requires c = omega (arith, batch_length c.args.batch)

pub put_jobs-delays-requires : goal.put_jobs-delays-requires
unfolding batch_file further_text further_of
put_jobs-delays-requires c = record { bounded = c.requires.bounded; batch_in_bounds = omega (arith, batch_length c.args.batch) }

pub put_delays-windows-requires : goal.put_delays-windows-requires
unfolding batch_file further_text further_of
put_delays-windows-requires c = (c.requires.bounded.delays, omega (arith, batch_length c.args.batch))

pub put_windows-rests-requires : goal.put_windows-rests-requires
unfolding batch_file further_text further_of
put_windows-rests-requires c = (c.requires.bounded.jobs, omega (arith, batch_length c.args.batch))

pub put_rests-requires : goal.put_rests-requires
unfolding batch_file further_text further_of
put_rests-requires c = omega (arith, batch_length c.args.batch)

pub shape_of-buffer : goal.shape_of-buffer
unfolding batch_file further_text further_of
shape_of-buffer c = search rules

pub returns : goal.returns
unfolding batch_file further_text further_of
returns c = let b = c.args.batch in
    let size = batch_length b in
    let length-head = header_length b.edition b.n b.m in
    let length-delays = delays_length b in
    let head = header_line b.edition b.n b.m in
    let jobs = joined job_line (jobs_of b) in
    let delays = joined delay_line (delays_of b) in
    let windows = joined window_text (window_lines b) in
    let rests = joined rest_text (rest_lines b) in
    let two-long = length-append head jobs in
    let three-long = length-append (head ++ jobs) delays in
    let one = front_more head (front_none _) (omega arith) length-head c.put_header-jobs.ensures.0 c.put_header-jobs.ensures.1 in
    let two = front_more jobs one (omega arith) refl c.put_jobs-delays.ensures.0 c.put_jobs-delays.ensures.1 in
    let three = front_more delays two (omega arith) length-delays c.put_delays-windows.ensures.0 c.put_delays-windows.ensures.1 in
    let four = front_more windows three (omega arith) refl c.put_windows-rests.ensures.0 c.put_windows-rests.ensures.1 in
    let five = front_more rests four (omega (arith, length-append ((head ++ jobs) ++ delays) windows)) refl c.put_rests.ensures.0 c.put_rests.ensures.1 in
    (omega arith, five.buffer_is ∙ ap (overwritten _ 0) (append_assoc ((head ++ jobs) ++ delays) windows rests ∙ append_assoc (head ++ jobs) delays (windows ++ rests) ∙ append_assoc head jobs (delays ++ (windows ++ rests))))
