-- `rest::close_masks` meets its contract. The invariant: the masks of the differences so far are in their places, and all others are 0.
use mathlib.Core.Path.{refl}
use borrow.Author.Rules.{rules}
use Rattle.tables.proofs.RestLaws.{closing_none, closing_more, closing_end}
use Rattle.tables.proofs.rest.close_masks.Goals as goal

pub loop-e-init : goal.loop-e-init
loop-e-init c = closing_none _ _ _ refl

-- one difference more
pub loop-e-preserved : goal.loop-e-preserved
loop-e-preserved c = closing_more _ _ _ _ _ _ (search rules) c.loop-e.invariant (search rules) (search rules) c.abs_diff.ensures c.close_at.ensures

pub returns-after-loop-e : goal.returns-after-loop-e
returns-after-loop-e c h = closing_end _ _ _ _ c.requires c.loop-e.invariant (search rules)
