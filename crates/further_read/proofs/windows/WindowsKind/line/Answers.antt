-- A window's frame is read after any lines whose jobs are below.
use Rattle.further_read.specs.Windows.{window_from}
use Rattle.further_read.proofs.WindowLaws.{windows_lowest}
use Rattle.further_read.proofs.windows.WindowsKind.line.Goals as goal

pub returns : goal.returns
unfolding window_from
returns c = c.window_frame.ensures _ (windows_lowest _)
