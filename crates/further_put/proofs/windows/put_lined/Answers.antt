-- `put_lined` puts the line of a place that has one.
use mathlib.Core.Path.{ap, sym, ◌∙◌}
use native.Mathlib.Omega.{arith}
use borrow.Author.Rules.{rules}
use lib.ListN.{length}
use Rattle.lines.specs.Write.{overwritten}
use Rattle.lines.proofs.Puts.{put_nothing}
use Rattle.frame_put.specs.Window.{window_as}
use Rattle.frame_put.proofs.Lengths.{window_length}
use Rattle.further_put.specs.Windows.{window_piece}
use Rattle.further_put.proofs.Texts.{line_some, line_none}
use Rattle.further_put.proofs.windows.put_lined.Goals as goal

-- no line
pub returns-then-window-eq0 : goal.returns-then-window-eq0
unfolding window_piece
returns-then-window-eq0 c = let s = c.args in
    let e = line_none s.window.lined (window_as s.job s.window) c.if-window-eq0.true in
    (omega (arith, ap length e), sym (put_nothing _ _) ∙ ap (overwritten _ _) (sym e))

pub put_window-requires : goal.put_window-requires
unfolding window_piece
put_window-requires c = let s = c.args in
    omega (arith, ap length (line_some s.window.lined (window_as s.job s.window) c.if-window-eq0.false), window_length s.job s.window)

pub shape_of-buffer : goal.shape_of-buffer
unfolding window_piece
shape_of-buffer c = search rules

-- the line
pub returns : goal.returns
unfolding window_piece
returns c = let s = c.args in
    let put = c.put_window.ensures in
    let e = line_some s.window.lined (window_as s.job s.window) c.if-window-eq0.false in
    (omega (arith, put.0, ap length e, window_length s.job s.window), put.1 ∙ ap (overwritten _ _) (sym e))
