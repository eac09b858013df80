-- `search::answer::give_starts` meets its contract: after k copies the list is k starts and then its old rest.
use mathlib.Core.Path.{◌≡◌}
use mathlib.Core.List.{◌++◌}
use lib.ListN.{length, take, drop}
use Rattle.search.proofs.answer.give_starts.Given as goal

abbrev pub invariant-loop-k : goal.invariant-loop-k
invariant-loop-k l = (length l.list ≡ length l.initial.list) × (l.list ≡ take l.k l.starts ++ drop l.k l.initial.list)
