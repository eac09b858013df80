-- The frame has as many masks as p says, and p is at most 16.
use mathlib.Core.Path.{sym}
use native.Mathlib.Omega.{arith}
use Rattle.model.proofs.LimitLaws.{ticks_iff}
use Rattle.frame_read.proofs.Bytes.{frame_size}
use Rattle.frame_read.proofs.job.job_frame.Goals as goal

pub masks_of-requires : goal.masks_of-requires
masks_of-requires c =
    let size = frame_size _ _ _ (sym c.if-not-is.ensures) in
    let most = (ticks_iff _).0 (sym c.if-not-ticks_ok.ensures) in
    (omega arith, omega arith)
