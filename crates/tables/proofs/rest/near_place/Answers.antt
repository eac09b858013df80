-- `rest::near_place` meets its contract. The invariant: the mask holds the stations of the first a ticks.
use borrow.Author.Rules.{rules}
use Rattle.tables.proofs.RestLaws.{near_none, near_more}
use Rattle.tables.proofs.rest.near_place.Goals as goal

pub loop-a-init : goal.loop-a-init
loop-a-init c rests h = near_none rests _ _

pub loop-a-preserved : goal.loop-a-preserved
loop-a-preserved c rests h = near_more rests _ _ _ _ _ h (search rules) (search rules) (c.loop-a.invariant rests h)
