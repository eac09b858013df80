-- `read_one` asks that something is left (7), that it is a line (1), and then its frame.
use Prim.Native.Nat.{ℕ, ◌+◌}
use mathlib.Core.Path.{ap, sym, ◌∙◌}
use native.Mathlib.Omega.{arith}
use Rattle.model.specs.Common.{accept, ◌>>=◌}
use Rattle.model.specs.Refusal.{told, number}
use Rattle.lines.proofs.Framed.{line_frame, line_broken}
use Rattle.frame_read.proofs.FileRest.{place_drop}
use Rattle.frame_read.proofs.One.{one_nothing, one_broken, one_refused, one_read}
use Rattle.frame_read.proofs.Told.{told_ok, told_err}
use Rattle.reading.specs.Read.{one_told}
use Rattle.reading.proofs.Told.{told_is, exit_told}
use Rattle.reading.proofs.frames.read_one.Goals as goal

pub returns-then-file-at : goal.returns-then-file-at
unfolding told number one_told ◌>>=◌
returns-then-file-at g c = sym (ap (one_told _) (one_nothing _ _ _ c.if-file-at.true))

pub returns-in_default : goal.returns-in_default
unfolding told number one_told ◌>>=◌
returns-in_default g c = sym (ap (one_told _) (one_broken _ _ _ c.if-file-at.false (line_broken _ _ _ c.line_at.ensures c.in_default.is)))

pub returns-in_err-item : goal.returns-in_err-item
unfolding one_told ◌>>=◌
returns-in_err-item g c = let e = one_refused (g.K.Kind.says c.args.kind.now) c.args.file.now c.args.at c.new.ensures _ (told_err _ c.in_err-item.ensures) in
    exit_told _ _ c.from_residual.ensures.1 ∙ sym (ap (one_told c.args.file.now) e)

pub overflow_add-result : goal.overflow_add-result
overflow_add-result g c = omega (arith, (line_frame _ _ _ _ c.line_at.ensures c.in-Some.is).inside)

pub returns : goal.returns
unfolding one_told ◌>>=◌
returns g c = let f = line_frame _ _ _ _ c.line_at.ensures c.in-Some.is in
    let e = one_read (g.K.Kind.says c.args.kind.now) c.args.file.now c.args.at c.new.ensures c.in_ok-item.item (told_ok c.in_ok-item.ensures) in
    told_is ∙ sym (ap (λ (p : ℕ). accept (c.in_ok-item.item, p)) (place_drop c.args.file.now (c.in-Some.end + 1) (omega (arith, f.inside)))) ∙ sym (ap (one_told c.args.file.now) e)
