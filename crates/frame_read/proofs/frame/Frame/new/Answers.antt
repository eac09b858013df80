-- A line that is read has a byte, and stands in the file.
use mathlib.Core.Path.{refl}
use native.Mathlib.Omega.{arith}
use Rattle.lines.proofs.Framed.{line_frame}
use Rattle.frame_read.proofs.Bytes.{framed_inside, framed_read}
use Rattle.frame_read.proofs.frame.Frame.new.Goals as goal

pub overflow_sub-end : goal.overflow_sub-end
overflow_sub-end c = omega (arith, (line_frame _ _ _ _ refl c.requires).size)

pub standing-requires : goal.standing-requires
standing-requires c = framed_inside (line_frame _ _ _ _ refl c.requires) _ refl

pub returns : goal.returns
returns c = rw c.standing.ensures (framed_read (line_frame _ _ _ _ refl c.requires) _ refl)
