-- `visit::bound_of` meets its contract, by the cases of best.
use mathlib.Core.Path.{◌∙◌}
use Rattle.node.proofs.NodeLaws.{bound_is}
use Rattle.node.proofs.visit.bound_of.Goals as goal

pub returns : goal.returns
returns c = c.unwrap_or.ensures ∙ bound_is _
