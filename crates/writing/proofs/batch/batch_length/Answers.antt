-- Each turn of `batch_length` adds the length of one job line to that of the other lines.
use Prim.Native.Nat.{◌<◌}
use mathlib.Core.Path.{◌≡◌, ap, sym, ◌∙◌}
use native.Mathlib.Omega.{arith}
use lib.ListN.{length}
use lib.Seq.{length-take-le}
use Rattle.std.proofs.lemmas.List.{get_or-take}
use Rattle.model.specs.Common.{count, joined}
use Rattle.frame_put.proofs.Pieces.{pieces, pieces_length}
use Rattle.writing.proofs.Texts.{job_piece, jobs_text, read_length, batch_length}
use Rattle.writing.proofs.batch.batch_length.Goals as goal

pub loop-job-init : goal.loop-job-init
unfolding pieces joined count
loop-job-init c = record { is = omega arith; most = omega arith }

-- one job line more
pub loop-job-preserved : goal.loop-job-preserved
loop-job-preserved c = let batch = c.args.batch in
    let i = c.loop-job.job-index in
    let all : length batch.jobs ≡ 24 = c.well_formed.0.1.1.1.1.1.0.1.0.1 in
    let less : i < c.from-n.result = omega (arith, length-take-le c.from-n.result batch.jobs (omega arith)) in
    let ticks = rw (get_or-take c.from-n.result batch.jobs i _ less) at c.from.ensures in
    record { is = omega (arith, ticks, pieces_length (job_piece batch) i, read_length batch i); most = omega arith }

-- all of them
pub returns : goal.returns
returns c = let batch = c.args.batch in
    let all : length batch.jobs ≡ 24 = c.well_formed.0.1.1.1.1.1.0.1.0.1 in
    let end : c.loop-job.job-index ≡ batch.n = omega (arith, length-take-le c.from-n.result batch.jobs (omega arith)) in
    omega (arith, batch_length batch, ap length (jobs_text batch ∙ ap (pieces (job_piece batch)) (sym end)))
