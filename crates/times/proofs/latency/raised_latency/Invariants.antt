-- `raised_latency` meets its contract. The loop's invariant: the largest of the latency and the finishes of the first i places.
use mathlib.Core.Path.{◌≡◌}
use Prim.Native.Nat.{max}
use Rattle.times.specs.Latency.{latency_of}
use Rattle.times.proofs.latency.raised_latency.Given as goal

abbrev pub invariant-loop-i : goal.invariant-loop-i
invariant-loop-i l = l.latest ≡ max l.latency (latency_of l.stays l.starts l.i)
