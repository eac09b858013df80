-- The demands and the requests that landed, of what the calls of src/lib.rt return: what their statements suppose of a result is that call's contract, word for word.
use Rattle.promises.specs.Demands.{Demands}
use Rattle.promises.specs.Judging.{Q1}
use Rattle.promises.specs.Finish.{Q3}
use Rattle.promises.specs.Windows.{Q4}
use Rattle.promises.specs.Rests.{Q5}
use Rattle.promises.proofs.Demands.{demands}
use Rattle.promises.proofs.Judging.{q1}
use Rattle.promises.proofs.Finish.{q3}
use Rattle.promises.proofs.Windows.{q4}
use Rattle.promises.proofs.Rests.{q5}

pub promised : Demands × Q1 × Q3 × Q4 × Q5
promised = (demands, q1, q3, q4, q5)
