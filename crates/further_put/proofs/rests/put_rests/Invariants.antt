-- Each turn of `put_rests` puts one station's line, or nothing, behind the lines before it.
use Rattle.frame_put.proofs.Pieces.{Filled}
use Rattle.further_put.proofs.Texts.{station_piece}
use Rattle.further_put.proofs.rests.put_rests.Given as goal

abbrev pub invariant-loop-s : goal.invariant-loop-s
invariant-loop-s l = Filled (station_piece l.fn.batch.rests) l.initial.buffer l.at l.s l.next l.buffer
