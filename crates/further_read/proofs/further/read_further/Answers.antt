-- `read_further` reads kind after kind, and asks for the end of the file.
use mathlib.Core.Path.{sym}
use native.Mathlib.Omega.{arith}
use Rattle.std.proofs.lemmas.Result.{err_from_is_err_and}
use Rattle.model.specs.Refusal.{told}
use Rattle.further_read.proofs.FurtherLaws.{windows_refused, windows_at, rests_refused, rests_at, further_windows, further_rests, further_left, further_read}
use Rattle.further_read.proofs.further.read_further.Goals as goal

-- a window is refused
pub returns-in_err-windows : goal.returns-in_err-windows
unfolding told
returns-in_err-windows c =
    let p = err_from_is_err_and c.from_residual.result c.from_residual.ensures.1 in
    rw (p.1, p.2) (further_windows _ _ c.args.at _ (windows_refused _ _ _ _ c.in_err-windows.ensures))

pub read_rests-requires : goal.read_rests-requires
unfolding told
read_rests-requires c = omega (arith, (windows_at _ _ _ c.requires.0 c.in_ok-windows.ensures).inside)

-- a rest is refused
pub returns-in_err-rests : goal.returns-in_err-rests
unfolding told
returns-in_err-rests c =
    let p = err_from_is_err_and c.from_residual-in_err-rests.result c.from_residual-in_err-rests.ensures.1 in
    let b = windows_at _ _ _ c.requires.0 c.in_ok-windows.ensures in
    rw (p.1, p.2) (further_rests _ _ c.args.at b _ (rests_refused _ _ _ c.in_err-rests.ensures))

-- something is left
pub returns-in_err-nothing_left : goal.returns-in_err-nothing_left
unfolding told
returns-in_err-nothing_left c =
    let p = err_from_is_err_and c.from_residual-in_err-nothing_left.result c.from_residual-in_err-nothing_left.ensures.1 in
    let b = windows_at _ _ _ c.requires.0 c.in_ok-windows.ensures in
    let d = rests_at _ _ b.inside c.in_ok-rests.ensures in
    rw (p.1, p.2) (further_left _ _ c.args.at b d _ (sym c.in_err-nothing_left.ensures))

-- every kind is read
pub returns : goal.returns
unfolding told
returns c =
    let b = windows_at _ _ _ c.requires.0 c.in_ok-windows.ensures in
    let d = rests_at _ _ b.inside c.in_ok-rests.ensures in
    further_read _ _ c.args.at b d (sym c.in_ok-nothing_left.ensures)
