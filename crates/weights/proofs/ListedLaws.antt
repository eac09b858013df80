-- An array of inequalities filled from the front: each place below k has its inequality, each other place is blank.
use mathlib.Core.Path.{◌≡◌, refl, ◌∙◌}
use mathlib.Core.List.{List}
use Prim.Native.Nat.{ℕ, zero, suc, ◌+◌, ◌≤◌, ◌<◌}
use native.Mathlib.Omega.{arith}
use native.Mathlib.Numerals.{add-one}
use native.Mathlib.Decide.{ℕ_discrete}
use lib.ListN.{length, set, replicate, length-set, length-replicate}
use lib.Seq.{get_or-set_same, get_or-set_other}
use Rattle.weights.specs.declared.Inequality.{Inequality}
use Rattle.weights.specs.Inequality.{blank_inequality, nth, listed}

pub listed_none : (f : ℕ → Inequality) (size : ℕ) → replicate size blank_inequality ≡ listed f size 0
unfolding listed
listed_none f size = refl

-- one place more, as a loop fills it
pub listed_more : (f : ℕ → Inequality) (size k : ℕ) (v : Inequality) (l : List Inequality) → l ≡ listed f size k → v ≡ f k → set l k v ≡ listed f size (k + 1)
unfolding listed
listed_more f size k v l e p = rw (e, p, add-one k)

pub listed_size : (f : ℕ → Inequality) (size k : ℕ) → length (listed f size k) ≡ size
unfolding listed
listed_size f size zero = length-replicate size blank_inequality
listed_size f size (suc k) = length-set (listed f size k) k (f k) ∙ listed_size f size k

pub nth_listed : (f : ℕ → Inequality) (size k i : ℕ) → k ≤ size → i < k → nth (listed f size k) i ≡ f i
unfolding listed
nth_listed f size zero i h p = absurd (omega arith)
nth_listed f size (suc k) i h p = go (ℕ_discrete i k) (nth_listed f size k i (omega arith))
  where
    go : Dec (i ≡ k) → (i < k → nth (listed f size k) i ≡ f i) → nth (set (listed f size k) k (f k)) i ≡ f i
    go (yes e) rec = rw e (get_or-set_same (listed f size k) k (f k) blank_inequality (omega (arith, listed_size f size k)))
    go (no e) rec = get_or-set_other (listed f size k) k i (f k) blank_inequality e ∙ rec (omega arith)

-- only f below k matters
pub listed_cong : (f g : ℕ → Inequality) (size k : ℕ) → ((i : ℕ) → i < k → f i ≡ g i) → listed f size k ≡ listed g size k
unfolding listed
listed_cong f g size zero h = refl
listed_cong f g size (suc k) h = rw (listed_cong f g size k (λ i p. h i (omega arith)), h k (omega arith))
