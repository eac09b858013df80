-- `pairs::find_pairs` meets its contract. The invariant: the pairs of the first k codes.
use Rattle.pairs.proofs.PairedLaws.{Pairing}
use Rattle.pairs.proofs.pairs.find_pairs.Given as goal

abbrev pub invariant-loop-k : goal.invariant-loop-k
invariant-loop-k l = Pairing l.codes l.pairs l.k
