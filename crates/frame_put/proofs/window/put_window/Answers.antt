-- `put_window` puts the parts of its line one behind the other.
use native.Mathlib.Omega.{arith}
use borrow.Author.Rules.{rules}
use Rattle.model.specs.Line.{two}
use Rattle.model.specs.Window.{window_text}
use Rattle.lines.proofs.Puts.{put_digits, put_line}
use Rattle.frame_put.specs.Window.{window_as}
use Rattle.frame_put.proofs.window.put_window.Goals as goal

pub put_pair-earliest-requires : goal.put_pair-earliest-requires
unfolding window_as window_text two
put_pair-earliest-requires c = search rules

pub put_two-latest-requires : goal.put_two-latest-requires
unfolding window_as window_text two
put_two-latest-requires c = search rules

pub put_two-end-requires : goal.put_two-end-requires
unfolding window_as window_text two
put_two-end-requires c = search rules

pub put_end-requires : goal.put_end-requires
unfolding window_as window_text two
put_end-requires c = search rules

pub shape_of-buffer : goal.shape_of-buffer
unfolding window_as window_text two
shape_of-buffer c = search rules

pub returns : goal.returns
unfolding window_as window_text two
returns c = let first = c.put_pair-earliest.ensures in
    let second = c.put_two-latest.ensures in
    let third = c.put_two-end.ensures in
    let end = c.put_end.ensures in
    let earliest = put_digits _ _ _ _ (omega arith) first.0 first.1 second.1 in
    let bytes = put_digits _ _ _ _ (omega arith) (omega arith) earliest third.1 in
    (search rules, put_line _ _ _ (omega arith) (omega arith) bytes end.1)
