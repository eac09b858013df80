-- `back::go_back` meets its contract. While turns of side 1 are dropped, what going back leaves of the rest is what it leaves of all.
use Rattle.node.proofs.BackLaws.{Dropping}
use Rattle.node.proofs.back.go_back.Given as goal

abbrev pub invariant-loop-last : goal.invariant-loop-last
invariant-loop-last l = Dropping l.initial.turns l.depth l.turns l.last
