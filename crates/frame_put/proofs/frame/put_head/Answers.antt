-- `put_head` puts the parts of its line one behind the other.
use native.Mathlib.Omega.{arith}
use borrow.Author.Rules.{rules}
use Rattle.model.specs.Line.{two, four}
use Rattle.lines.proofs.Puts.{put_digits, put_line}
use Rattle.frame_put.specs.Lines.{head_line}
use Rattle.frame_put.proofs.frame.put_head.Goals as goal

pub returns : goal.returns
unfolding head_line two four
returns c = let first = c.put_pair-jobs.ensures in
    let second = c.put_byte-number.ensures in
    let third = c.put_two-nodes.ensures in
    let fourth = c.put_four-end.ensures in
    let end = c.put_end.ensures in
    let jobs = put_digits _ _ _ _ (omega arith) first.0 first.1 second.1 in
    let latency = put_digits _ _ _ _ (omega arith) (omega arith) jobs third.1 in
    let bytes = put_digits _ _ _ _ (omega arith) (omega arith) latency fourth.1 in
    (search rules, put_line _ _ _ (omega arith) (omega arith) bytes end.1)
