-- `claim::read_head` asks the first line, its kind and length, and for 01.
use native.Mathlib.Omega.{arith}
use mathlib.Core.Path.{sym, ◌∙◌}
use Rattle.lines.proofs.Framed.{line_frame, line_broken}
use Rattle.frame_read.proofs.Bytes.{frame_size}
use Rattle.claims.proofs.ReadLaws.{head_none, head_other, head_edition, head_read}
use Rattle.claims.proofs.claim.read_head.Goals as goal

-- no line
pub returns-in_err-end : goal.returns-in_err-end
returns-in_err-end c = rw c.from_residual.ensures (head_none _ (line_broken _ _ _ c.line_at.ensures c.in_err-end.was))

-- another kind or length
pub returns-then-not-is : goal.returns-then-not-is
returns-then-not-is c = head_other _ _ _ c.new-frame.ensures (sym c.is.ensures ∙ c.if-not-is.true)

pub byte-requires : goal.byte-requires
byte-requires c = omega (arith, frame_size _ _ _ (sym c.is.ensures ∙ c.if-not-is.false))

-- another number than 01
pub returns-then-byte-ne1 : goal.returns-then-byte-ne1
returns-then-byte-ne1 c = head_edition _ _ _ c.new-frame.ensures (rw (← c.byte.ensures) c.if-byte-ne1.true)

pub byte-n-requires : goal.byte-n-requires
byte-n-requires c = omega (arith, frame_size _ _ _ (sym c.is.ensures ∙ c.if-not-is.false))

pub wide-latency-requires : goal.wide-latency-requires
wide-latency-requires c = omega (arith, frame_size _ _ _ (sym c.is.ensures ∙ c.if-not-is.false))

pub overflow_add-result : goal.overflow_add-result
overflow_add-result c = omega (arith, (line_frame _ _ _ _ c.line_at.ensures c.in_ok-end.was).inside)

-- a B0 line with 01
pub returns : goal.returns
returns c = rw (c.byte-n.ensures, c.wide-latency.ensures) (head_read _ _ _ c.new-frame.ensures (sym c.is.ensures ∙ c.if-not-is.false) (sym c.byte.ensures ∙ c.if-byte-ne1.false)
    (omega (arith, (line_frame _ _ _ _ c.line_at.ensures c.in_ok-end.was).inside)))
