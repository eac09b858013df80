-- Each turn of `put_windows` puts one job's line, or nothing, behind the lines before it.
use mathlib.Core.Path.{◌≡◌, ap, sym, ◌∙◌}
use Prim.Native.Nat.{◌<◌}
use native.Mathlib.Omega.{arith}
use lib.ListN.{length}
use lib.Seq.{length-take-le}
use Rattle.std.proofs.lemmas.List.{get_or-take}
use Rattle.lines.specs.Write.{overwritten}
use Rattle.frame_put.proofs.Pieces.{filled_none, filled_room, filled_more, filled_all}
use Rattle.further_put.proofs.Texts.{windows_text, read_window_lem}
use Rattle.further_put.proofs.windows.put_windows.Goals as goal

pub loop-i-init : goal.loop-i-init
loop-i-init c = filled_none _ _ _

-- there is room for a line
pub put_lined-next-requires : goal.put_lined-next-requires
put_lined-next-requires c = let batch = c.args.batch in
    let i = c.loop-i.i in
    let all : length batch.windows ≡ 24 = c.well_formed.1.1.0.1.1.1.1.1.1.1.0.1.0.1 in
    let less : i < c.from-n.result = omega (arith, length-take-le c.from-n.result batch.windows (omega arith)) in
    let room = filled_room _ _ _ batch.n (omega (arith, ap length (windows_text batch))) c.loop-i.invariant (omega arith) in
    rw (get_or-take c.from-n.result batch.windows i _ less) (omega (arith, ap length (read_window_lem batch i), room))

-- one line more
pub loop-i-preserved : goal.loop-i-preserved
loop-i-preserved c = let batch = c.args.batch in
    let i = c.loop-i.i in
    let all : length batch.windows ≡ 24 = c.well_formed.1.1.0.1.1.1.1.1.1.1.0.1.0.1 in
    let less : i < c.from-n.result = omega (arith, length-take-le c.from-n.result batch.windows (omega arith)) in
    let put = rw (get_or-take c.from-n.result batch.windows i _ less) at c.put_lined-next.ensures in
    filled_more _ _ _ batch.n (omega (arith, ap length (windows_text batch))) c.loop-i.invariant (omega arith)
    (ap length (sym (read_window_lem batch i)))
    put.0
    (put.1 ∙ ap (overwritten _ _) (read_window_lem batch i))

pub shape_of-buffer : goal.shape_of-buffer
shape_of-buffer c = c.loop-i.invariant.same_length

-- all of them
pub returns : goal.returns
returns c = let batch = c.args.batch in
    let all : length batch.windows ≡ 24 = c.well_formed.1.1.0.1.1.1.1.1.1.1.0.1.0.1 in
    filled_all _ _ _ batch.n _ c.loop-i.invariant (omega (arith, length-take-le c.from-n.result batch.windows (omega arith))) (windows_text batch)
