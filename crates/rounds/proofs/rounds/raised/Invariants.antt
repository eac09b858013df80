-- `raised` meets its contract. The loop's invariant: the first j places are filled.
use mathlib.Core.Path.{◌≡◌}
use Prim.Native.Nat.{◌+◌, max}
use lib.ListN.{get_or}
use Rattle.times.specs.Fill.{filled}
use Rattle.rounds.specs.Rounds.{sum_at}
use Rattle.rounds.proofs.rounds.raised.Given as goal

abbrev pub invariant-loop-j : goal.invariant-loop-j
invariant-loop-j l =
    l.more ≡ filled (λ k. max (get_or l.new k 0) (max (max (sum_at l.table l.high k l.i) (sum_at l.table l.high k (l.i + 1))) (max (sum_at l.table l.high k (l.i + 2)) (sum_at l.table l.high k (l.i + 3))))) 24 l.j
