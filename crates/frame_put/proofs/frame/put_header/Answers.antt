-- `put_header` puts the parts of its line one behind the other.
use native.Mathlib.Omega.{arith}
use borrow.Author.Rules.{rules}
use Rattle.model.specs.Format.{header_line}
use Rattle.lines.proofs.Puts.{put_digits, put_line}
use Rattle.frame_put.proofs.frame.put_header.Goals as goal

pub returns : goal.returns
unfolding header_line
returns c = let first = c.put_pair-counts.ensures in
    let second = c.put_pair-end.ensures in
    let end = c.put_end.ensures in
    let bytes = put_digits _ _ _ _ (omega arith) first.0 first.1 second.1 in
    (search rules, put_line _ _ _ (omega arith) (omega arith) bytes end.1)
