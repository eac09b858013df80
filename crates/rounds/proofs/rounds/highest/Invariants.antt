-- `highest` meets its contract. The loop's invariant: the first j places are filled.
use mathlib.Core.Path.{◌≡◌}
use Prim.Native.Nat.{max}
use lib.ListN.{get_or}
use Rattle.times.specs.Fill.{filled}
use Rattle.rounds.proofs.rounds.highest.Given as goal

abbrev pub invariant-loop-j : goal.invariant-loop-j
invariant-loop-j l = l.starts ≡ filled (λ k. max (get_or l.old k 0) (get_or l.new k 0)) 24 l.j
