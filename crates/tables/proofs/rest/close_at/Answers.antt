-- `rest::close_at` meets its contract. The invariant: of the first s stations the mask holds those for which the ticks are too close.
use Rattle.tables.proofs.RestLaws.{shifted, close_none, close_in, close_out}
use Rattle.tables.proofs.rest.close_at.Goals as goal
use Rattle.tables.proofs.rest.close_at.Goals.{then-gap-from, else-gap-from}

pub loop-s-init : goal.loop-s-init
loop-s-init c = close_none _ _

pub loop-s-preserved : goal.loop-s-preserved
loop-s-preserved c = let i = c.loop-s.invariant in elim c.if-gap-from.branch [
  | then-gap-from w ↦ rw (w.mask-is, shifted c.loop-s.s c.loop-s-test.true) (close_in _ _ _ _ _ i c.from.ensures w.if-gap-from.true)
  | else-gap-from w ↦ rw w.mask-is (close_out _ _ _ _ _ i c.from.ensures w.if-gap-from.false)
]
