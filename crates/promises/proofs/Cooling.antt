-- Request Q-5 of two jobs: that they keep every rest, in plain numbers, is that they are apart.
use Prim.Native.Nat.{ℕ, ◌+◌, ◌<◌}
use mathlib.Core.Path.{◌≡◌}
use mathlib.Core.Logic.{◌⊎◌, inl, inr, ⊎_elim, ◌↔◌}
use mathlib.Core.Bool.{true}
use mathlib.Core.List.{List}
use native.Mathlib.Omega.{arith}
use native.Mathlib.Decide.{dec_lt}
use lib.IntN.{sub_ℕ}
use Rattle.model.specs.declared.Batch.{Batch}
use Rattle.model.specs.Batch.{rest_of}
use Rattle.model.specs.Plan.{too_close, Apart}
use Rattle.model.proofs.BoolLaws.{T_true, true_T}
use Rattle.model.proofs.DistanceLaws.{close_le, le_close}
use Rattle.promises.specs.Rests.{Cools}

-- ticks that are not too close are more than the rest apart
far : (r x y : ℕ) → (too_close r (sub_ℕ x y) ≡ true → ⊥) → (x + r < y) ⊎ (y + r < x)
far r x y h = go (dec_lt (x + r) y) (dec_lt (y + r) x)
  where
    go : Dec (x + r < y) → Dec (y + r < x) → (x + r < y) ⊎ (y + r < x)
    go (yes g) k = inl g
    go (no g) (yes k) = inr k
    go (no g) (no k) = absurd (h (le_close r x y (omega arith) (omega arith)))

pub cools_apart : (b : Batch) (ts : List ℕ) (i j : ℕ) → Cools b ts i j ↔ Apart b ts i j
unfolding Apart
cools_apart b ts i j = (
  λ c s x y h p q t. let r = close_le (rest_of b s) x y (T_true _ t) in ⊎_elim (λ (z : x + rest_of b s < y). omega (arith, r.1)) (λ (z : y + rest_of b s < x). omega (arith, r.0)) (c.each s x y h p q),
  λ a. record { each = λ s x y h p q. far (rest_of b s) x y (λ t. a s x y h p q (true_T t)) },
)
