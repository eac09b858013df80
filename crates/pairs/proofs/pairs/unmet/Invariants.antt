-- `pairs::unmet` meets its contract. The invariant: of whatever codes these are the pairs, the starts meet none of those before pair q.
use Rattle.pairs.proofs.PassedLaws.{Passing}
use Rattle.pairs.proofs.pairs.unmet.Given as goal

abbrev pub invariant-loop-q : goal.invariant-loop-q
invariant-loop-q l = Passing l.pairs l.starts l.q l.low
