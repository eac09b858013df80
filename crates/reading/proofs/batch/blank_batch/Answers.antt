-- `blank_batch` has no jobs, no delays, no further lines and blank places.
use mathlib.Core.Path.{refl}
use Rattle.model.specs.Common.{count, pad}
use Rattle.model.specs.Batch.{blank_job, blank_delay, blank_window}
use Rattle.model.specs.Numbered.{place_in}
use Rattle.model.specs.Window.{window_in, windows_of}
use Rattle.model.specs.Rest.{rest_in, rests_of}
use Rattle.model.specs.Format.{no_further, batch_of}
use Rattle.reading.proofs.batch.blank_batch.Goals as goal

pub returns : goal.returns
unfolding batch_of pad blank_job blank_delay no_further windows_of window_in rests_of rest_in place_in blank_window count
returns c = refl
