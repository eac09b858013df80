-- `list::add_pair` meets its contract. The invariant: what is left of the distances completes the pair.
use Rattle.clashes.proofs.PairLaws.{Pairing}
use Rattle.clashes.proofs.list.add_pair.Given as goal

abbrev pub invariant-loop-k : goal.invariant-loop-k
invariant-loop-k l = Pairing l.first.low l.first.end l.first.masks l.second l.base l.initial.clashes l.clashes l.k
