-- `lifted` meets its contract. The loop's invariant: the first j places are filled.
use mathlib.Core.Path.{◌≡◌}
use Prim.Native.Nat.{◌+◌}
use lib.ListN.{get_or}
use Rattle.times.specs.Fill.{filled}
use Rattle.rounds.proofs.rounds.lifted.Given as goal

abbrev pub invariant-loop-j : goal.invariant-loop-j
invariant-loop-j l = l.high ≡ filled (λ k. get_or l.old k 0 + 1000) 24 l.j
