-- The size is how many bytes the frame has.
use Rattle.frame_read.proofs.Bytes.{size_is}
use Rattle.frame_read.proofs.frame.Frame.len.Goals as goal

pub returns : goal.returns
returns c = size_is _ _ _ c.self.view_is
