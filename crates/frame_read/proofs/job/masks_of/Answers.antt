-- `masks_of` fills the array from its start, one mask a turn.
use mathlib.Core.Path.{refl}
use Rattle.model.specs.Common.{pad}
use Rattle.frame_read.proofs.Wides.{masks_more, masks_all}
use Rattle.frame_read.proofs.job.masks_of.Goals as goal

pub loop-a-init : goal.loop-a-init
unfolding pad
loop-a-init c = refl

pub loop-a-preserved : goal.loop-a-preserved
loop-a-preserved c = masks_more _ _ _ _ _ c.requires.0 c.requires.1 c.loop-a-test.true c.loop-a.invariant c.wide.ensures

pub returns : goal.returns
returns c = masks_all c.args.frame.now _ _ _ c.requires.0 c.loop-a-test.false c.loop-a.invariant
