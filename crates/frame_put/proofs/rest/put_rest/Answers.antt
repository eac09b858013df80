-- `put_rest` puts the parts of its line one behind the other.
use native.Mathlib.Omega.{arith}
use borrow.Author.Rules.{rules}
use Rattle.model.specs.Rest.{rest_text}
use Rattle.lines.proofs.Puts.{put_digits, put_line}
use Rattle.frame_put.specs.Rest.{rest_as}
use Rattle.frame_put.proofs.rest.put_rest.Goals as goal

pub put_pair-number-requires : goal.put_pair-number-requires
unfolding rest_as rest_text
put_pair-number-requires c = search rules

pub put_byte-end-requires : goal.put_byte-end-requires
unfolding rest_as rest_text
put_byte-end-requires c = search rules

pub put_end-requires : goal.put_end-requires
unfolding rest_as rest_text
put_end-requires c = search rules

pub shape_of-buffer : goal.shape_of-buffer
unfolding rest_as rest_text
shape_of-buffer c = search rules

pub returns : goal.returns
unfolding rest_as rest_text
returns c = let first = c.put_pair-number.ensures in
    let second = c.put_byte-end.ensures in
    let end = c.put_end.ensures in
    let bytes = put_digits _ _ _ _ (omega arith) first.0 first.1 second.1 in
    (search rules, put_line _ _ _ (omega arith) (omega arith) bytes end.1)
