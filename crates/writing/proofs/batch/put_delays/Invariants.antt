-- Each turn of `put_delays` puts one delay line behind those before it.
use Rattle.frame_put.proofs.Pieces.{Filled}
use Rattle.writing.proofs.Texts.{delay_piece}
use Rattle.writing.proofs.batch.put_delays.Given as goal

abbrev pub invariant-loop-delay : goal.invariant-loop-delay
invariant-loop-delay l = Filled (delay_piece l.fn.batch) l.initial.buffer l.at l.delay-index l.next l.buffer
