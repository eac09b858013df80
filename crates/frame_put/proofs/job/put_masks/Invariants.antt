-- Each turn of `put_masks` puts one mask behind those before it.
use Rattle.frame_put.proofs.Pieces.{Filled}
use Rattle.frame_put.proofs.Masks.{mask_piece}
use Rattle.frame_put.proofs.job.put_masks.Given as goal

abbrev pub invariant-loop-mask : goal.invariant-loop-mask
invariant-loop-mask l = Filled (mask_piece l.fn.job) l.initial.buffer l.at l.mask-index l.next l.buffer
