-- `code_of` meets its contract: a weight within its limits is at most 1,000.
use Rattle.weights.proofs.CodeLaws.{coded_is}
use Rattle.weights.proofs.delays.code_of.Goals as goal

pub returns : goal.returns
returns c = coded_is _ c.requires
