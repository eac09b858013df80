-- Each turn of `put_windows` puts one job's line, or nothing, behind the lines before it.
use Rattle.frame_put.proofs.Pieces.{Filled}
use Rattle.further_put.proofs.Texts.{line_piece}
use Rattle.further_put.proofs.windows.put_windows.Given as goal

abbrev pub invariant-loop-i : goal.invariant-loop-i
invariant-loop-i l = Filled (line_piece l.fn.batch) l.initial.buffer l.at l.i l.next l.buffer
