-- `plan::latency_of` meets its contract. The invariant: the largest finish of the first i jobs.
use mathlib.Core.Path.{◌≡◌}
use Rattle.times.specs.Latency.{latency_of}
use Rattle.judging.proofs.plan.latency_of.Given as goal

abbrev pub invariant-loop-i : goal.invariant-loop-i
invariant-loop-i l = l.latest ≡ latency_of l.stays l.starts l.i
