-- `put_pair` puts the second byte behind the first.
use native.Mathlib.Omega.{arith}
use borrow.Author.Rules.{rules}
use Rattle.lines.proofs.Puts.{put_digits}
use Rattle.frame_put.proofs.frame.put_pair.Goals as goal

pub returns : goal.returns
returns c = let first = c.put_byte-next.ensures in
    let second = c.put_byte.ensures in
    (search rules, put_digits _ _ _ _ (omega arith) first.0 first.1 second.1)
