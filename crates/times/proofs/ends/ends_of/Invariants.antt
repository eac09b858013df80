-- `ends_of` meets its contract. The loop's invariant: the first i places have the ends of the first i jobs.
use mathlib.Core.Path.{◌≡◌}
use Rattle.times.specs.Fill.{filled}
use Rattle.times.proofs.EndsLaws.{window_in}
use Rattle.times.proofs.ends.ends_of.Given as goal

abbrev pub invariant-loop-i : goal.invariant-loop-i
invariant-loop-i l = (l.earliest ≡ filled (λ k. (window_in l.batch.windows k).earliest) 24 l.i) × (l.latest ≡ filled (λ k. (window_in l.batch.windows k).latest) 24 l.i)
