-- `window_frame` asks the kind and length, and then the job and the ends.
use Prim.Native.Nat.{ℕ}
use mathlib.Core.Path.{ap, ap₂, sym, ◌∙◌}
use Rattle.model.specs.Common.{accept, ◌>>=◌}
use Rattle.model.specs.declared.Window.{Window}
use Rattle.model.specs.Window.{window_place, ends_ok, job_rises, window}
use Rattle.model.specs.Refusal.{number, told}
use Rattle.frame_read.specs.Window.{window_job, window_told}
use Rattle.frame_read.proofs.NumberedLaws.{frame_kind, frame_number, frame_own, frame_read}
use Rattle.frame_read.proofs.window.window_frame.Goals as goal
use Rattle.frame_read.proofs.window.window_frame.Goals.{then-not-rises-via-then-not-rises, then-not-rises-via-else-not-rises+then-not-ends_ok}

pub returns-then-not-is : goal.returns-then-not-is
unfolding window job_rises window_told window_place told number ◌>>=◌
returns-then-not-is c before lowest = sym (ap window_told (frame_kind window_job 0xA3 6 _ 20 _ _ before lowest _ _ c.if-not-is.ensures))

pub returns-then-not-rises : goal.returns-then-not-rises
unfolding window job_rises window_told window_place told number ◌>>=◌
returns-then-not-rises c before lowest =
    elim c.then-not-rises.branch [
      | then-not-rises-via-then-not-rises w ↦ sym (ap window_told (frame_number window_job 0xA3 6 _ 20 _ _ before lowest _ _ c.if-not-is.ensures _ c.byte-job.ensures w.if-not-rises.ensures))
      | then-not-rises-via-else-not-rises+then-not-ends_ok w ↦ sym (ap window_told (frame_own window_job 0xA3 6 _ 20 _ _ before lowest _ _ c.if-not-is.ensures _ c.byte-job.ensures w.if-not-rises.ensures (w.if-not-ends_ok.ensures ∙ ap₂ ends_ok c.wide-earliest.ensures c.wide-latest.ensures)))
    ]

pub returns : goal.returns
unfolding window job_rises window_told window_place told number ◌>>=◌
returns c before lowest =
    ap₂ (λ (j : ℕ) (w : Window). accept (j, w)) c.byte-job.ensures (ap₂ (λ (x y : ℕ). record { lined = 1; earliest = x; latest = y }) c.wide-earliest.ensures c.wide-latest.ensures)
    ∙ sym (ap window_told (frame_read window_job 0xA3 6 _ 20 _ _ before lowest _ _ c.if-not-is.ensures _ c.byte-job.ensures c.if-not-rises.ensures (c.if-not-ends_ok.ensures ∙ ap₂ ends_ok c.wide-earliest.ensures c.wide-latest.ensures)))
