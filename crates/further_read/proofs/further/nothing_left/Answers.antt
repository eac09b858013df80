-- `nothing_left` asks for the end of the file, and then whether what is left is a line.
use mathlib.Core.Path.{refl}
use native.Mathlib.Omega.{arith}
use Rattle.model.specs.Refusal.{number, told}
use Rattle.lines.proofs.Framed.{line_frame, line_broken}
use Rattle.further_read.proofs.FurtherLaws.{left_none, left_broken, left_line}
use Rattle.further_read.proofs.further.nothing_left.Goals as goal

pub returns-then-file-at : goal.returns-then-file-at
unfolding told
returns-then-file-at c = left_none c.args.file.now c.args.at (omega arith)

-- no line
pub returns-in-None : goal.returns-in-None
unfolding told number
returns-in-None c = left_broken _ _ c.if-file-at.false (line_broken _ _ _ c.in-None.ensures refl)

-- a line
pub returns-in-Some : goal.returns-in-Some
unfolding told number
returns-in-Some c = left_line _ _ _ c.if-file-at.false (line_frame _ _ _ _ c.in-Some.ensures refl).is
