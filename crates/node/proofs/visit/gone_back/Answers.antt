-- `visit::gone_back` meets its contract: either no turn is left, or the last one left is on side 1 now.
use mathlib.Core.Path.{refl}
use Rattle.node.proofs.NodeLaws.{returned_ended, returned_on}
use Rattle.node.proofs.visit.gone_back.Goals as goal

pub go_back-requires : goal.go_back-requires
go_back-requires c = c.requires.path.0

-- no turn is left
pub returns-in_default : goal.returns-in_default
returns-in_default c = returned_ended _ _ _ c.requires.steps _ c.in_default.ensures

-- the last one left has its inequality stored
pub returns : goal.returns
returns c = returned_on _ _ _ c.requires.steps _ _ c.in-Some.ensures _ _ _ refl c.from.ensures c.turn_inequality.ensures
