-- The further lines as they are read: what each kind says.
use Rattle.model.specs.Common.{Outcome, accept, ◌>>=◌}
use Rattle.model.specs.Window.{windows_of}
use Rattle.model.specs.Rest.{rests_of}
use Rattle.model.specs.Format.{Further}
use Rattle.further_read.specs.declared.further.FurtherRead.{FurtherRead}

-- each job's and each station's place, or the refusal
unfoldable pub further_told : Outcome Further → Outcome FurtherRead
further_told o = o >>= λ f. accept (record { windows = windows_of f.windows; rests = rests_of f.rests })
