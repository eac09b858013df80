-- Each turn of `put_jobs` puts one job line behind those before it.
use Prim.Native.Nat.{◌<◌}
use mathlib.Core.Path.{◌≡◌, ap, ◌∙◌}
use native.Mathlib.Omega.{arith}
use lib.ListN.{length}
use lib.Seq.{length-take-le}
use Rattle.std.proofs.lemmas.List.{get_or-take}
use Rattle.lines.specs.Write.{overwritten}
use Rattle.frame_put.proofs.Pieces.{filled_none, filled_room, filled_more, filled_all}
use Rattle.writing.proofs.Texts.{jobs_text, read_line_lem, read_ticks, read_length}
use Rattle.writing.proofs.batch.put_jobs.Goals as goal

pub loop-job-init : goal.loop-job-init
loop-job-init c = filled_none _ _ _

pub put_job-next-requires : goal.put_job-next-requires
put_job-next-requires c = let batch = c.args.batch in
    let i = c.loop-job.job-index in
    let all : length batch.jobs ≡ 24 = c.well_formed.1.1.0.1.1.1.1.1.0.1.0.1 in
    let less : i < c.from-n.result = omega (arith, length-take-le c.from-n.result batch.jobs (omega arith)) in
    let room = filled_room _ _ _ batch.n (omega (arith, ap length (jobs_text batch))) c.loop-job.invariant (omega arith) in
    rw (get_or-take c.from-n.result batch.jobs i _ less) (
      omega (arith, read_ticks batch i, c.requires.bounded.ticks_each i (omega arith)),
      omega (arith, read_length batch i, room),
    )

pub loop-job-preserved : goal.loop-job-preserved
loop-job-preserved c = let batch = c.args.batch in
    let i = c.loop-job.job-index in
    let all : length batch.jobs ≡ 24 = c.well_formed.1.1.0.1.1.1.1.1.0.1.0.1 in
    let less : i < c.from-n.result = omega (arith, length-take-le c.from-n.result batch.jobs (omega arith)) in
    let put = rw (get_or-take c.from-n.result batch.jobs i _ less) at c.put_job-next.ensures in
    filled_more _ _ _ batch.n (omega (arith, ap length (jobs_text batch))) c.loop-job.invariant (omega arith)
    (read_length batch i)
    put.0
    (put.1 ∙ ap (overwritten _ _) (read_line_lem batch i))

pub shape_of-buffer : goal.shape_of-buffer
shape_of-buffer c = c.loop-job.invariant.same_length

pub returns : goal.returns
returns c = let batch = c.args.batch in
    let all : length batch.jobs ≡ 24 = c.well_formed.1.1.0.1.1.1.1.1.0.1.0.1 in
    filled_all _ _ _ batch.n _ c.loop-job.invariant (omega (arith, length-take-le c.from-n.result batch.jobs (omega arith))) (jobs_text batch)
