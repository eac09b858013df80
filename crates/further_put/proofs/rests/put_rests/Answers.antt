-- Each turn of `put_rests` puts one station's line, or nothing, behind the lines before it.
use mathlib.Core.Path.{refl, ap}
use native.Mathlib.Omega.{arith}
use lib.ListN.{length}
use Rattle.frame_put.proofs.Pieces.{filled_none, filled_room, filled_more, filled_all}
use Rattle.further_put.proofs.Texts.{rests_text}
use Rattle.further_put.proofs.rests.put_rests.Goals as goal

pub loop-s-init : goal.loop-s-init
loop-s-init c = filled_none _ _ _

-- there is room for a line
pub put_rested-next-requires : goal.put_rested-next-requires
put_rested-next-requires c = let batch = c.args.batch in
    filled_room _ _ _ 16 (omega (arith, ap length (rests_text batch))) c.loop-s.invariant (omega arith)

-- one line more
pub loop-s-preserved : goal.loop-s-preserved
loop-s-preserved c = let batch = c.args.batch in
    let put = c.put_rested-next.ensures in
    filled_more _ _ _ 16 (omega (arith, ap length (rests_text batch))) c.loop-s.invariant (omega arith) refl put.0 put.1

pub shape_of-buffer : goal.shape_of-buffer
shape_of-buffer c = c.loop-s.invariant.same_length

-- all of them
pub returns : goal.returns
returns c = filled_all _ _ _ 16 _ c.loop-s.invariant (omega arith) (rests_text _)
