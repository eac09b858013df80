-- `claim::read_job` asks the line, then its kind and length.
use native.Mathlib.Omega.{arith}
use mathlib.Core.Path.{sym, ◌∙◌}
use Rattle.lines.proofs.Framed.{line_frame, line_broken}
use Rattle.frame_read.proofs.Bytes.{frame_size}
use Rattle.claims.proofs.ReadLaws.{job_none, job_other, job_read}
use Rattle.claims.proofs.claim.read_job.Goals as goal

-- no line
pub returns-in_err-end : goal.returns-in_err-end
returns-in_err-end c = rw c.from_residual.ensures (job_none _ _ (line_broken _ _ _ c.line_at.ensures c.in_err-end.was))

-- another kind or length
pub returns-then-not-is : goal.returns-then-not-is
returns-then-not-is c = job_other _ _ _ _ c.new-frame.ensures (sym c.is.ensures ∙ c.if-not-is.true)

pub byte-job-requires : goal.byte-job-requires
byte-job-requires c = omega (arith, frame_size _ _ _ (sym c.is.ensures ∙ c.if-not-is.false))

pub wide-start-requires : goal.wide-start-requires
wide-start-requires c = omega (arith, frame_size _ _ _ (sym c.is.ensures ∙ c.if-not-is.false))

pub overflow_add-result : goal.overflow_add-result
overflow_add-result c = omega (arith, (line_frame _ _ _ _ c.line_at.ensures c.in_ok-end.was).inside)

-- a B1 line
pub returns : goal.returns
returns c = let f = line_frame _ _ _ _ c.line_at.ensures c.in_ok-end.was in
    rw (c.byte-job.ensures, c.wide-start.ensures) (job_read _ _ _ _ c.new-frame.ensures (sym c.is.ensures ∙ c.if-not-is.false) (omega (arith, f.size)) (omega (arith, f.inside)))
