-- `path::read_path` meets its contract. The invariant: the first k places are read.
use Rattle.soundness.proofs.PathLaws.{Read}
use Rattle.soundness.proofs.path.read_path.Given as goal

abbrev pub invariant-loop-k : goal.invariant-loop-k
invariant-loop-k l = Read l.path l.count l.turns l.marks l.k
