-- `heaviest_of` meets its contract. The loop's invariant: the first k places have the codes that the table has for the first k delays.
use mathlib.Core.Path.{◌≡◌}
use Rattle.weights.specs.Inequality.{nth, listed}
use Rattle.starts.specs.Table.{lowered}
use Rattle.starts.proofs.heaviest.heaviest_of.Given as goal

abbrev pub invariant-loop-k : goal.invariant-loop-k
invariant-loop-k l = l.heaviest ≡ listed (λ k. lowered l.table (nth l.delays k)) 128 l.k
