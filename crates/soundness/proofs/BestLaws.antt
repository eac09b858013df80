-- The starts of best: one test of each of the first n is a test of a list.
use Prim.Native.Nat.{ℕ, zero, suc, ◌+◌, ◌≤◌}
use mathlib.Core.Path.{◌≡◌, refl, ap, sym, ◌∙◌}
use mathlib.Core.Bool.{Bool, true, false, ◌&&◌}
use mathlib.Core.List.{List}
use native.Mathlib.Omega.{arith}
use lib.ListN.{length, get_or, take, drop}
use lib.Seq.{drop-cons}
use lib.Dec.{leb}
use Rattle.std.specs.List.{list_all}
use Rattle.model.specs.Common.{all, count}
use Rattle.model.specs.Plan.{start}
use Rattle.soundness.specs.Best.{starts_pass}

module _ (f : ℕ → Bool) (xs : List ℕ) where
  -- m numbers from k on
  all_listed : (m k : ℕ) → k + m ≤ length xs → all (λ i. f (get_or xs i 0)) (count k m) ≡ list_all f (take m (drop k xs))
  unfolding all count
  all_listed zero k h = refl
  all_listed (suc m) k h =
      go (f (get_or xs k 0)) (all_listed m (suc k) (omega arith))
      ∙ ap (λ l. list_all f (take (suc m) l)) (sym (drop-cons xs k 0 (omega arith)))
    where
      go : (p : Bool) → all (λ i. f (get_or xs i 0)) (count (suc k) m) ≡ list_all f (take m (drop (suc k) xs))
          → (elim p [ true ↦ all (λ i. f (get_or xs i 0)) (count (suc k) m) | false ↦ false ]) ≡ (p && list_all f (take m (drop (suc k) xs)))
      go true e = e
      go false e = refl

pub starts_listed : (starts : List ℕ) (n : ℕ) → n ≤ length starts → list_all (λ x. leb x 43000) (take n starts) ≡ starts_pass n starts
unfolding starts_pass start
starts_listed starts n h = sym (all_listed (λ x. leb x 43000) starts n 0 (omega arith))
