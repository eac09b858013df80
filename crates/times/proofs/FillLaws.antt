-- An array filled from the front: each place below k has its value, each other place 0.
use mathlib.Core.Path.{◌≡◌, refl, sym, ◌∙◌}
use mathlib.Core.List.{List, [], ◌∷◌, map}
use Prim.Native.Nat.{ℕ, zero, suc, ◌+◌, ◌≤◌, ◌<◌}
use native.Mathlib.Omega.{arith}
use native.Mathlib.Numerals.{add-one}
use native.Mathlib.Decide.{dec_lt, ℕ_discrete}
use lib.ListN.{length, get_or, set, replicate, length-set, length-replicate, get_or-eq_default}
use lib.Seq.{get_or-set_same, get_or-set_other, ext_get_or}
use Rattle.model.specs.Common.{count, pad}
use Rattle.model.proofs.SeqLaws.{listed_at, listed_length, blanks_at, pad_at, pad_length}
use Rattle.times.specs.Fill.{Small, filled}

pub filled_none : (f : ℕ → ℕ) (size : ℕ) → replicate size 0 ≡ filled f size 0
unfolding filled
filled_none f size = refl

-- one place more, as a loop fills it
pub filled_more : (f : ℕ → ℕ) (size k v : ℕ) (l : List ℕ) → l ≡ filled f size k → v ≡ f k → set l k v ≡ filled f size (k + 1)
unfolding filled
filled_more f size k v l e p = rw (e, p, add-one k)

pub filled_length : (f : ℕ → ℕ) (size k : ℕ) → length (filled f size k) ≡ size
unfolding filled
filled_length f size zero = length-replicate size 0
filled_length f size (suc k) = length-set (filled f size k) k (f k) ∙ filled_length f size k

pub filled_at : (f : ℕ → ℕ) (size k i : ℕ) → k ≤ size → i < k → get_or (filled f size k) i 0 ≡ f i
unfolding filled
filled_at f size zero i h p = absurd (omega arith)
filled_at f size (suc k) i h p = go (ℕ_discrete i k) (filled_at f size k i (omega arith))
  where
    go : Dec (i ≡ k) → (i < k → get_or (filled f size k) i 0 ≡ f i) → get_or (set (filled f size k) k (f k)) i 0 ≡ f i
    go (yes e) rec = rw e (get_or-set_same (filled f size k) k (f k) 0 (omega (arith, filled_length f size k)))
    go (no e) rec = get_or-set_other (filled f size k) k i (f k) 0 e ∙ rec (omega arith)

pub filled_past : (f : ℕ → ℕ) (size k i : ℕ) → k ≤ i → get_or (filled f size k) i 0 ≡ 0
unfolding filled
filled_past f size zero i p = blanks_at size i 0
filled_past f size (suc k) i p =
    get_or-set_other (filled f size k) k i (f k) 0 (λ e. omega arith) ∙ filled_past f size k i (omega arith)

-- only f below k matters
pub filled_cong : (f g : ℕ → ℕ) (size k : ℕ) → ((i : ℕ) → i < k → f i ≡ g i) → filled f size k ≡ filled g size k
unfolding filled
filled_cong f g size zero h = refl
filled_cong f g size (suc k) h = rw (filled_cong f g size k (λ i p. h i (omega arith)), h k (omega arith))

-- ---- as a list

-- a padded list is the array that is filled with its numbers
pub pad_filled : (l : List ℕ) (size k : ℕ) → length l ≤ k → k ≤ size → pad size 0 l ≡ filled (λ i. get_or l i 0) size k
pad_filled l size k g h =
    ext_get_or 0 (pad size 0 l) (filled (λ i. get_or l i 0) size k) (pad_length size 0 l (omega arith) ∙ sym (filled_length _ size k)) (λ i p. pad_at size 0 l i ∙ sym (go i (dec_lt i k)))
  where
    go : (i : ℕ) → Dec (i < k) → get_or (filled (λ i. get_or l i 0) size k) i 0 ≡ get_or l i 0
    go i (yes p) = filled_at _ size k i h p
    go i (no p) = filled_past _ size k i (omega arith) ∙ sym (get_or-eq_default l 0 (omega arith))

-- so a filled array is the list of its values, padded
pub filled_is : (f : ℕ → ℕ) (size k : ℕ) → k ≤ size → filled f size k ≡ pad size 0 (map f (count 0 k))
filled_is f size k h =
    filled_cong f _ size k (λ i p. sym (listed_at f 0 k i p)) ∙ sym (pad_filled (map f (count 0 k)) size k (omega (arith, listed_length f k)) h)

-- where f is 0 past k, filling all places is filling k
pub filled_rest : (f : ℕ → ℕ) (size k : ℕ) → k ≤ size → ((i : ℕ) → k ≤ i → f i ≡ 0) → filled f size size ≡ filled f size k
filled_rest f size k h z =
    ext_get_or 0 (filled f size size) (filled f size k) (filled_length f size size ∙ sym (filled_length f size k)) (λ i p. filled_at f size size i (omega arith) (omega (arith, filled_length f size size)) ∙ sym (go i (dec_lt i k)))
  where
    go : (i : ℕ) → Dec (i < k) → get_or (filled f size k) i 0 ≡ f i
    go i (yes p) = filled_at f size k i h p
    go i (no p) = filled_past f size k i (omega arith) ∙ sym (z i (omega arith))

-- ---- bounds

-- what holds of each element, and of a, holds of each after a store of a
pub set_all : {A : Type 0} (P : A → Type 0) (l : List A) (i : ℕ) (a d : A) → ((k : ℕ) → P (get_or l k d)) → P a → (k : ℕ) → P (get_or (set l i a) k d)
set_all P [] i a d h p k = h k
set_all P (x ∷ l) zero a d h p zero = p
set_all P (x ∷ l) zero a d h p (suc k) = h (suc k)
set_all P (x ∷ l) (suc i) a d h p zero = h 0
set_all P (x ∷ l) (suc i) a d h p (suc k) = set_all P l i a d (λ (j : ℕ). h (suc j)) p k

pub zeros_small : (b n : ℕ) → Small (replicate n 0) b
zeros_small b n = record { each = λ k. omega (arith, blanks_at {A = ℕ} n k 0) }

pub filled_small : (f : ℕ → ℕ) (size b : ℕ) → ((i : ℕ) → f i ≤ b) → (k : ℕ) → Small (filled f size k) b
unfolding filled
filled_small f size b h zero = zeros_small b size
filled_small f size b h (suc k) =
    record { each = set_all (λ (x : ℕ). x ≤ b) (filled f size k) k (f k) 0 (filled_small f size b h k).each (h k) }
