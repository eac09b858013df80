-- `read_all` reads one frame a turn, so that what is still to be read, put behind the items so far, stays what the whole reading gives.
use Prim.Native.Nat.{ℕ}
use mathlib.Core.Path.{refl, ap, ap₂, sym, ◌∙◌}
use mathlib.Core.List.{List}
use Rattle.model.specs.Common.{accept, ◌>>=◌}
use Rattle.frame_read.proofs.FileRest.{place_drop}
use Rattle.frame_read.proofs.Told.{told_ok, told_err}
use Rattle.reading.specs.Read.{one_told, all_told}
use Rattle.reading.proofs.Reading.{reading_start, reading_more, reading_whole, stopped}
use Rattle.reading.proofs.Told.{told_is, exit_told, then_refused, one_at}
use Rattle.reading.proofs.frames.read_all.Goals as goal

pub loop-k-init : goal.loop-k-init
loop-k-init g c = (c.requires.0, reading_start _ _ _ _ _ _ _ refl)

pub returns-in_err-item : goal.returns-in_err-item
unfolding one_told all_told ◌>>=◌
returns-in_err-item g c = stopped _ _ _ _ _ _ (all_told g.row.N c.args.blank c.args.file.now) _ _ c.loop-k.invariant.1 c.loop-k-test.true (then_refused _ _ _ (told_err _ c.in_err-item.ensures)) (exit_told _ _ c.from_residual.ensures.1)

pub loop-k-preserved : goal.loop-k-preserved
loop-k-preserved g c = let (inside, e) = one_at _ _ _ _ _ (told_ok c.in_ok-item.ensures) in
    (inside, reading_more _ _ _ _ _ _ _ _ c.loop-k.invariant.1 c.loop-k-test.true c.requires.1 e)

pub returns : goal.returns
unfolding all_told ◌>>=◌
returns g c = told_is ∙ ap₂ (λ (s : List g.row.K-Item.Denot) (p : ℕ). accept (s, p)) c.loop-k.invariant.1.filled (sym (place_drop c.args.file.now c.loop-k.place c.loop-k.invariant.0))
    ∙ sym (ap (all_told g.row.N c.args.blank c.args.file.now) (reading_whole _ _ _ _ _ _ c.loop-k.invariant.1 c.loop-k-test.false))
