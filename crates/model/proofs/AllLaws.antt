-- Every number below n passes a test: how a loop over k settles it. What is left, the numbers from k on, decides the whole.
use Prim.Native.Nat.{ℕ, ◌+◌, ◌-◌, ◌≤◌, ◌<◌}
use mathlib.Core.Path.{◌≡◌, refl, ap, sym, ◌∙◌}
use mathlib.Core.Bool.{Bool, true, false, ◌&&◌}
use mathlib.Core.List.{List, [], ◌∷◌, map}
use native.Mathlib.Omega.{arith}
use Rattle.model.specs.Common.{all, count}
use Rattle.model.proofs.SeqLaws.{count_more, count_end}
use Rattle.model.proofs.BoolLaws.{and_false}

-- the numbers from k to n − 1 pass
unfoldable pub all_from : (ℕ → Bool) → ℕ → ℕ → Bool
all_from f k n = all f (count k (n - k))

pub all_start : (f : ℕ → Bool) (n : ℕ) → all_from f 0 n ≡ all f (count 0 n)
unfolding all_from
all_start f n = let e : n - 0 ≡ n = omega arith in rw e

all_step : (f : ℕ → Bool) (k n : ℕ) → k < n → all_from f k n ≡ all f (k ∷ count (k + 1) (n - (k + 1)))
unfolding all_from
all_step f k n h = ap (all f) (count_more k n h)

module _ (f : ℕ → Bool) (k n : ℕ) (r : Bool) (left : all_from f k n ≡ r) where
  pub all_passed : k < n → f k ≡ true → all_from f (k + 1) n ≡ r
  unfolding all_from all
  all_passed h e = rw (e, all) at (sym (all_step f k n h) ∙ left)

  pub all_failed : k < n → f k ≡ false → false ≡ r
  unfolding all
  all_failed h e = rw (e, all) at (sym (all_step f k n h) ∙ left)

  pub all_ended : n ≤ k → true ≡ r
  unfolding all_from all
  all_ended h = rw (count_end k n h) at left

-- two tests of every item of a list, made in one pass over its numbers
pub all_both : {A : Type 0} (f g : A → Bool) (item : ℕ → A) (ks : List ℕ) → all (λ k. f (item k) && g (item k)) ks ≡ (all f (map item ks) && all g (map item ks))
unfolding all
all_both f g item [] = refl
all_both {A} f g item (k ∷ ks) = go (f (item k)) (g (item k)) (all_both f g item ks)
  where
    rest : Bool
    rest = all (λ k. f (item k) && g (item k)) ks

    go : (p q : Bool) → rest ≡ (all f (map item ks) && all g (map item ks))
        → (elim (p && q) [ true ↦ rest | false ↦ false ]) ≡ ((elim p [ true ↦ all f (map item ks) | false ↦ false ]) && (elim q [ true ↦ all g (map item ks) | false ↦ false ]))
    go true true e = e
    go true false e = sym (and_false (all f (map item ks)))
    go false q e = refl
