-- A rest's frame is read after any lines whose stations are below.
use Rattle.further_read.specs.Rests.{rest_from}
use Rattle.further_read.proofs.RestLaws.{rests_lowest}
use Rattle.further_read.proofs.rests.RestsKind.line.Goals as goal

pub returns : goal.returns
unfolding rest_from
returns c = c.rest_frame.ensures _ (rests_lowest _)
