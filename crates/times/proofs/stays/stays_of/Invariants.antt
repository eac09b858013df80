-- `stays_of` meets its contract. The loop's invariant: the first i places have the stays of the first i jobs.
use mathlib.Core.Path.{◌≡◌}
use Rattle.model.specs.Batch.{job_of}
use Rattle.model.specs.Plan.{stay}
use Rattle.times.specs.Fill.{filled}
use Rattle.times.proofs.stays.stays_of.Given as goal

abbrev pub invariant-loop-i : goal.invariant-loop-i
invariant-loop-i l = l.stays ≡ filled (λ i. stay (job_of l.batch i)) 24 l.i
