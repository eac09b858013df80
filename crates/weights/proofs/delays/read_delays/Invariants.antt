-- `read_delays` meets its contract: the delays of the columns are the batch's, and in each turn those below k have passed and are coded, and those from k on decide.
use Rattle.weights.proofs.DelaysLaws.{ReadTo}
use Rattle.weights.proofs.delays.read_delays.Given as goal

abbrev pub invariant-loop-k : goal.invariant-loop-k
invariant-loop-k l = ReadTo l.batch.n l.columns l.m l.list l.k
