-- `put_rested` puts the line of a station that rests.
use mathlib.Core.Path.{ap, sym, ◌∙◌}
use native.Mathlib.Omega.{arith}
use borrow.Author.Rules.{rules}
use lib.ListN.{length}
use Rattle.lines.specs.Write.{overwritten}
use Rattle.lines.proofs.Puts.{put_nothing}
use Rattle.frame_put.specs.Rest.{rest_as}
use Rattle.frame_put.proofs.Lengths.{rest_length}
use Rattle.further_put.specs.Rests.{rest_piece}
use Rattle.further_put.proofs.Texts.{line_some, line_none}
use Rattle.further_put.proofs.rests.put_rested.Goals as goal

-- no line
pub returns-then-ticks-eq0 : goal.returns-then-ticks-eq0
unfolding rest_piece
returns-then-ticks-eq0 c = let s = c.args in
    let e = line_none s.ticks (rest_as s.station s.ticks) c.if-ticks-eq0.true in
    (omega (arith, ap length e), sym (put_nothing _ _) ∙ ap (overwritten _ _) (sym e))

pub put_rest-requires : goal.put_rest-requires
unfolding rest_piece
put_rest-requires c = let s = c.args in
    omega (arith, ap length (line_some s.ticks (rest_as s.station s.ticks) c.if-ticks-eq0.false), rest_length s.station s.ticks)

pub shape_of-buffer : goal.shape_of-buffer
unfolding rest_piece
shape_of-buffer c = search rules

-- the line
pub returns : goal.returns
unfolding rest_piece
returns c = let s = c.args in
    let put = c.put_rest.ensures in
    let e = line_some s.ticks (rest_as s.station s.ticks) c.if-ticks-eq0.false in
    (omega (arith, put.0, ap length e, rest_length s.station s.ticks), put.1 ∙ ap (overwritten _ _) (sym e))
