-- `put_delay` puts the parts of its line one behind the other, the weight's bits as a number.
use native.Mathlib.Omega.{arith}
use borrow.Author.Rules.{rules}
use Rattle.model.specs.Line.{two}
use Rattle.model.specs.Format.{delay_line}
use Rattle.lines.proofs.Puts.{put_digits, put_line}
use Rattle.frame_put.proofs.Weight.{weight_bits}
use Rattle.frame_put.proofs.frame.put_delay.Goals as goal

pub returns : goal.returns
unfolding delay_line two
returns c = let weight = weight_bits c.args.delay.weight c.cast_unsigned.result (search rules) c.cast_unsigned.ensures in
    let first = c.put_pair-to.ensures in
    let second = c.put_byte-number.ensures in
    let third = c.put_two-end.ensures in
    let end = c.put_end.ensures in
    let ends = put_digits _ _ _ _ (omega arith) first.0 first.1 second.1 in
    let bytes = put_digits _ _ _ _ (omega arith) (omega arith) ends third.1 in
    (search rules, rw (← weight) (put_line _ _ _ (omega arith) (omega arith) bytes end.1))
