-- The places that `read_kind` fills are those of the lines that the definition reads.
use mathlib.Core.Path.{◌∙◌}
use native.Mathlib.Omega.{arith}
use Rattle.std.proofs.lemmas.Result.{err_from_is_err_and}
use Rattle.model.specs.Common.{count, ◌>>=◌}
use Rattle.model.specs.Batch.{blank_window}
use Rattle.model.specs.Numbered.{place_in}
use Rattle.model.specs.Refusal.{told}
use Rattle.model.specs.Window.{window_in, windows_of}
use Rattle.further_read.specs.Kind.{beside}
use Rattle.further_read.specs.Windows.{read_windows, windows_told}
use Rattle.further_read.proofs.WindowLaws.{window_below, window_numbers}
use Rattle.further_read.proofs.NumberedKind.{places_kind}
use Rattle.further_read.proofs.windows.read_windows.Goals as goal

-- each job is below n
pub read_kind-requires-clause-room : goal.read_kind-requires-clause-room
read_kind-requires-clause-room c low f i p e = let below = window_below _ low f i p e in (omega arith, omega arith)

-- a line is refused
pub returns-in_err-place : goal.returns-in_err-place
unfolding told beside ◌>>=◌ read_windows windows_told windows_of window_in place_in blank_window count
returns-in_err-place c =
    let p = err_from_is_err_and c.from_residual.result c.from_residual.ensures.1 in
    rw (p.1, p.2) (c.in_err-place.ensures ∙ places_kind (window_numbers c.args.n c.requires.1) c.args.file.now c.args.at)

pub returns : goal.returns
unfolding told beside ◌>>=◌ read_windows windows_told windows_of window_in place_in blank_window count
returns c = c.in_ok-place.ensures ∙ places_kind (window_numbers c.args.n c.requires.1) c.args.file.now c.args.at
