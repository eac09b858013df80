-- `stay_of` meets its contract: the last tick that is not empty decides.
use Rattle.times.proofs.StaysLaws.{stay_last, stay_none}
use Rattle.times.proofs.stays.stay_of.Goals as goal

pub returns-in-Some : goal.returns-in-Some
returns-in-Some c = let h = c.in-Some.ensures in stay_last c.args.job _ c.from.ensures c.in-Some.last h.0 h.1 h.2

pub returns-in-None : goal.returns-in-None
returns-in-None c = stay_none c.args.job _ c.from.ensures c.in-None.ensures
