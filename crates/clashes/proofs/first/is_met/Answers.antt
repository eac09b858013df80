-- `first::is_met` meets its contract: two sums in place of a difference and a signed distance.
use Rattle.clashes.proofs.FirstLaws.{code_met}
use Rattle.clashes.proofs.first.is_met.Goals as goal

pub returns : goal.returns
returns c = code_met _ _ _ _ _ c.from-x.ensures c.from.ensures c.from-2.ensures
