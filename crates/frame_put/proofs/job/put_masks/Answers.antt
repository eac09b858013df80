-- Each turn of `put_masks` puts one mask behind those before it.
use Prim.Native.Nat.{◌<◌}
use mathlib.Core.Path.{◌≡◌, ap}
use native.Mathlib.Omega.{arith}
use borrow.Author.Rules.{rules}
use lib.ListN.{length}
use lib.Seq.{length-take-le}
use Rattle.std.proofs.lemmas.List.{get_or-take}
use Rattle.frame_put.proofs.Pieces.{filled_none, filled_more, filled_all}
use Rattle.frame_put.proofs.Lengths.{two_length}
use Rattle.frame_put.proofs.Masks.{masks_text, masks_size}
use Rattle.frame_put.proofs.job.put_masks.Goals as goal

pub loop-mask-init : goal.loop-mask-init
loop-mask-init c = filled_none _ _ _

pub put_two-next-requires : goal.put_two-next-requires
put_two-next-requires c = let job = c.args.job in
    let all : length job.masks ≡ 16 = search rules in
    omega (arith, length-take-le c.from-ticks.result job.masks (omega arith), masks_size job c.loop-mask.mask-index)

pub loop-mask-preserved : goal.loop-mask-preserved
loop-mask-preserved c = let job = c.args.job in
    let put = c.put_two-next.ensures in
    let all : length job.masks ≡ 16 = search rules in
    let less : c.loop-mask.mask-index < job.ticks = omega (arith, length-take-le c.from-ticks.result job.masks (omega arith)) in
    filled_more _ _ _ job.ticks (omega (arith, masks_size job job.ticks)) c.loop-mask.invariant less
    (two_length _)
    put.0
    (rw (get_or-take c.from-ticks.result job.masks c.loop-mask.mask-index 0 (omega arith)) at put.1)

pub shape_of-buffer : goal.shape_of-buffer
shape_of-buffer c = c.loop-mask.invariant.same_length

pub returns : goal.returns
returns c = let job = c.args.job in
    let all_masks : length job.masks ≡ 16 = search rules in
    let end : c.loop-mask.mask-index ≡ job.ticks = omega (arith, length-take-le c.from-ticks.result job.masks (omega arith)) in
    let all = filled_all _ _ _ job.ticks _ c.loop-mask.invariant end (masks_text job) in
    (omega (arith, all.0, masks_size job job.ticks, ap length (masks_text job)), all.1)
