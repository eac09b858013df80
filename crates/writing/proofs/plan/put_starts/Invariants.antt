-- Each turn of `put_starts` puts one start line behind those before it.
use Rattle.frame_put.proofs.Pieces.{Filled}
use Rattle.writing.proofs.Texts.{start_piece}
use Rattle.writing.proofs.plan.put_starts.Given as goal

abbrev pub invariant-loop-i : goal.invariant-loop-i
invariant-loop-i l = Filled (start_piece l.fn.starts) l.initial.buffer l.at l.i l.next l.buffer
