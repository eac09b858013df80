-- `put_bytes` puts one byte more a turn behind those so far.
use Prim.Native.Nat.{ℕ}
use mathlib.Core.Path.{ap, sym, ◌∙◌}
use mathlib.Core.List.{List}
use native.Mathlib.Numerals.{add-one}
use native.Mathlib.Omega.{arith}
use lib.ListN.{take}
use lib.Seq.{take-suc, take_all, length-take-le}
use Rattle.model.specs.Common.{joined}
use Rattle.model.specs.Line.{digits_of}
use Rattle.lines.specs.Write.{overwritten}
use Rattle.lines.proofs.Puts.{put_nothing, put_digits}
use Rattle.lines.proofs.write.put_bytes.Goals as goal

pub loop-byte-init : goal.loop-byte-init
unfolding digits_of joined
loop-byte-init c = (omega arith, sym (put_nothing c.args.buffer.now c.args.at))

pub loop-byte-preserved : goal.loop-byte-preserved
loop-byte-preserved c =
    let i = c.loop-byte.byte-index in
    let bytes = c.args.bytes.now in
    let so = c.loop-byte.invariant in
    let one = c.put_byte-next.ensures in
    let some = length-take-le i bytes (omega arith) in (
      omega arith,
      put_digits _ _ (take i bytes) _ (omega arith) (omega arith) so.1 one.1
          ∙ ap (λ (s : List ℕ). overwritten c.args.buffer.now c.args.at (digits_of s)) (sym (take-suc bytes i 0 c.loop-byte-test.true) ∙ ap (λ (j : ℕ). take j bytes) (sym (add-one i))),
    )

pub returns : goal.returns
returns c = let all = c.loop-byte-test.false in
    (omega arith, c.loop-byte.invariant.1 ∙ ap (λ (s : List ℕ). overwritten c.args.buffer.now c.args.at (digits_of s)) (take_all _ c.args.bytes.now all))
