-- `read_kind` reads one line a turn, so that what is still to be read, after the places so far, stays what the whole reading gives.
use Prim.Native.Nat.{◌<◌}
use mathlib.Core.Path.{refl, sym, ◌∙◌}
use native.Mathlib.Omega.{arith}
use borrow.Author.Rules.{rules}
use lib.ListN.{length}
use Rattle.std.proofs.lemmas.Result.{err_from_is_err_and}
use Rattle.model.specs.Common.{◌>>=◌}
use Rattle.model.specs.Refusal.{number, told}
use Rattle.lines.proofs.Framed.{line_frame}
use Rattle.further_read.specs.Kind.{beside}
use Rattle.further_read.proofs.Places.{reading_start, reading_over, reading_broken, reading_other, reading_refused, reading_more}
use Rattle.further_read.proofs.kinds.read_kind.Goals as goal

pub loop-place-init : goal.loop-place-init
loop-place-init g c = (c.requires.inside, reading_start _ _ _ _ _ _)

-- no line
pub returns-in_default : goal.returns-in_default
unfolding told number beside ◌>>=◌
returns-in_default g c = reading_broken _ _ c.loop-place.invariant.1 c.loop-place-test.true c.in_default.ensures

-- a line that is refused
pub returns-in_err-number : goal.returns-in_err-number
unfolding told beside ◌>>=◌
returns-in_err-number g c =
    let p = err_from_is_err_and c.from_residual.result c.from_residual.ensures.1 in
    rw (p.1, p.2) (reading_refused _ _ c.loop-place.invariant.1 c.loop-place-test.true c.in-Some.ensures c.new-frame.ensures c.kind.ensures (c.if-kind-BYTE.false ∙ c.BYTE.ensures) c.in_err-number.ensures)

-- its number is below the limit
pub offset_bounds-places-from : goal.offset_bounds-places-from
unfolding told
offset_bounds-places-from g c =
    let below = c.requires.room _ _ _ _ (sym c.in_ok-number.ensures) in
    let h : c.from.result < length c.args.places.now = omega arith in search rules

pub bounds-places-from : goal.bounds-places-from
unfolding told
bounds-places-from g c = let below = c.requires.room _ _ _ _ (sym c.in_ok-number.ensures) in omega arith

pub overflow_add-low : goal.overflow_add-low
unfolding told
overflow_add-low g c = let below = c.requires.room _ _ _ _ (sym c.in_ok-number.ensures) in omega arith

pub overflow_add-place : goal.overflow_add-place
overflow_add-place g c = omega (arith, (line_frame _ _ _ _ c.in-Some.ensures refl).inside)

pub loop-place-smaller : goal.loop-place-smaller
loop-place-smaller g c = let f = line_frame _ _ _ _ c.in-Some.ensures refl in omega (arith, f.size, f.inside)

-- one line more
pub loop-place-preserved : goal.loop-place-preserved
unfolding told
loop-place-preserved g c = (
  omega (arith, (line_frame _ _ _ _ c.in-Some.ensures refl).inside),
  reading_more _ _ c.loop-place.invariant.1 c.loop-place-test.true c.in-Some.ensures c.new-frame.ensures c.kind.ensures (c.if-kind-BYTE.false ∙ c.BYTE.ensures) c.in_ok-number.ensures c.from.ensures,
)

pub returns-after-loop-place : goal.returns-after-loop-place
unfolding told beside ◌>>=◌
returns-after-loop-place g c = reading_over _ _ c.loop-place.invariant.1 c.loop-place.invariant.0 c.loop-place-test.false

-- a line of another kind
pub returns-then-kind-BYTE : goal.returns-then-kind-BYTE
unfolding told beside ◌>>=◌
returns-then-kind-BYTE g c = reading_other _ _ c.loop-place.invariant.1 c.loop-place-test.true c.in-Some.ensures c.new-frame.ensures c.kind.ensures (λ e. c.if-kind-BYTE.true (e ∙ sym c.BYTE.ensures))
