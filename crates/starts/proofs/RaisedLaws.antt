-- A round by the table is a round by the list of inequalities: start j by column j is the definition's raised start, and no inequality raises
-- a start by more than 1,000.
use Rattle.std.specs.Prelude.{if◌then◌else◌}
use mathlib.Core.Path.{◌≡◌, refl, ap}
use mathlib.Core.Bool.{Bool, true, false, ◌&&◌}
use mathlib.Core.List.{List, [], ◌∷◌, Memᴰ}
use Prim.Native.Nat.{ℕ, zero, suc, ◌+◌, ◌-◌, ◌≤◌, ◌<◌, max}
use native.Mathlib.Nat.{le_refl, le_trans}
use native.Mathlib.Omega.{arith}
use native.Mathlib.Decide.{dec_lt}
use lib.Dec.{eqb}
use lib.ListN.{get_or}
use borrow.Author.Tests.{eqb-true, eq-eqb, ne_eqb}
use Rattle.model.specs.declared.Delay.{Delay}
use Rattle.model.specs.Starts.{plus, raised}
use Rattle.model.proofs.StartsLaws.{raised_old}
use Rattle.model.proofs.BoundLaws.{Slow}
use Rattle.weights.specs.Code.{coded, Fits}
use Rattle.weights.proofs.CodeLaws.{plus_coded}
use Rattle.rounds.specs.Rounds.{sum_at, largest, lifted_of, start_of}
use Rattle.rounds.proofs.RoundLaws.{lifted_at}
use Rattle.starts.proofs.PlaceLaws.{code_at, kept}

-- ---- the largest of a column

largest_at : (table : List (List ℕ)) (high : List ℕ) (j k i : ℕ) → i < k → sum_at table high j i ≤ largest table high j k
unfolding largest
largest_at table high j zero i h = absurd (omega arith)
largest_at table high j (suc k) i h = go (dec_lt i k) (largest_at table high j k i)
  where
    go : Dec (i < k) → (i < k → sum_at table high j i ≤ largest table high j k) → sum_at table high j i ≤ max (largest table high j k) (sum_at table high j k)
    go (yes p) rec = omega (arith, rec p)
    go (no p) rec = let e : i ≡ k = omega arith in rw e (omega arith)

largest_below : (table : List (List ℕ)) (high : List ℕ) (j k x : ℕ) → ((i : ℕ) → i < k → sum_at table high j i ≤ x) → largest table high j k ≤ x
unfolding largest
largest_below table high j zero x f = omega arith
largest_below table high j (suc k) x f =
    omega (arith, f k (omega arith), largest_below table high j k x (λ i p. f i (omega arith)))

-- ---- the definition's raised start, over starts of at most 64,535

module _ (n : ℕ) (old : List ℕ) (low : (i : ℕ) → get_or old i 0 ≤ 64535) (j : ℕ) where
  -- no place asks for more: the sum of an empty one is 0
  place_below : (qs : List Delay) → ((q : Delay) → Memᴰ q qs → Fits n q) → (i : ℕ) → get_or old i 0 + 1000 - code_at qs i j ≤ raised qs old j
  unfolding raised kept code_at
  place_below [] f i = omega (arith, low i)
  place_below (q ∷ qs) f i = go (eqb q.from i) refl (eqb q.to j) (place_below qs (λ p m. f p (Memᴰ.tail m)) i)
    where
      sum : ℕ
      sum = plus (get_or old q.from 0) q.weight

      go : (a : Bool) → eqb q.from i ≡ a → (b : Bool) → get_or old i 0 + 1000 - code_at qs i j ≤ raised qs old j
          → get_or old i 0 + 1000 - kept (a && b) (coded q.weight) (code_at qs i j) ≤ (if b then max sum (raised qs old j) else raised qs old j)
      go true e true h =
          let g : get_or old q.from 0 ≡ get_or old i 0 = ap (λ (x : ℕ). get_or old x 0) (eqb-true q.from i e) in
          omega (arith, plus_coded (get_or old q.from 0) q.weight (f q (Memᴰ.head refl)).weight)
      go true e false h = h
      go false e true h = omega arith
      go false e false h = h

  -- and what the inequalities ask, some place asks
  raised_below : (qs : List Delay) → ((q : Delay) → Memᴰ q qs → Fits n q) → (x : ℕ) → get_or old j 0 ≤ x → ((i : ℕ) → i < n → get_or old i 0 + 1000 - code_at qs i j ≤ x) → raised qs old j ≤ x
  unfolding raised kept code_at
  raised_below [] f x h g = h
  raised_below (q ∷ qs) f x h g =
      go (eqb q.to j) refl (raised_below qs (λ p m. f p (Memᴰ.tail m)) x h (λ i p. le_trans (more i) (g i p)))
    where
      sum : ℕ
      sum = plus (get_or old q.from 0) q.weight

      smaller : (b : Bool) (y z : ℕ) → kept b y z ≤ z
      smaller true y z = omega arith
      smaller false y z = le_refl z

      more : (i : ℕ) → get_or old i 0 + 1000 - code_at qs i j ≤ get_or old i 0 + 1000 - code_at (q ∷ qs) i j
      more i = omega (arith, smaller (eqb q.from i && eqb q.to j) (coded q.weight) (code_at qs i j))

      own : eqb q.to j ≡ true → code_at (q ∷ qs) q.from j ≤ coded q.weight
      own e = rw (eq-eqb q.from q.from refl, e) (omega arith)

      go : (b : Bool) → eqb q.to j ≡ b → raised qs old j ≤ x → (if b then max sum (raised qs old j) else raised qs old j) ≤ x
      go false e r = r
      go true e r =
          let fit : Fits n q = f q (Memᴰ.head refl) in
          omega (arith, own e, g q.from fit.from, plus_coded (get_or old q.from 0) q.weight fit.weight)

  -- start j by the column of what ends in it, over at least n rows
  pub start_raised : (qs : List Delay) → ((q : Delay) → Memᴰ q qs → Fits n q) → (table : List (List ℕ)) (k : ℕ) → n ≤ k → k ≤ 24 → ((i : ℕ) → i < k → get_or (get_or table i []) j 0 ≡ code_at qs i j)
      → start_of table old j k ≡ raised qs old j
  unfolding start_of sum_at
  start_raised qs f table k b w e =
      let up : largest table (lifted_of old) j k ≤ raised qs old j =
      largest_below table (lifted_of old) j k (raised qs old j) (λ i p. omega (arith, place_below qs f i, e i p, lifted_at old i (omega arith))) in
      let down : raised qs old j ≤ max (get_or old j 0) (largest table (lifted_of old) j k) =
      raised_below qs f (max (get_or old j 0) (largest table (lifted_of old) j k)) (omega arith)
      (λ i p. omega (arith, largest_at table (lifted_of old) j k i (omega arith), e i (omega arith), lifted_at old i (omega arith))) in
      omega (arith, raised_old qs old j)

-- no inequality ends past n
pub raised_past : (n : ℕ) (qs : List Delay) → ((q : Delay) → Memᴰ q qs → Fits n q) → (old : List ℕ) (j : ℕ) → n ≤ j → raised qs old j ≡ get_or old j 0
unfolding raised
raised_past n [] f old j h = refl
raised_past n (q ∷ qs) f old j h =
    rw (ne_eqb q.to j (λ e. omega (arith, (f q (Memᴰ.head refl)).to))) (raised_past n qs (λ p m. f p (Memᴰ.tail m)) old j h)

-- only what the starts are at each place matters
pub raised_cong : (qs : List Delay) (a b : List ℕ) → ((i : ℕ) → get_or a i 0 ≡ get_or b i 0) → (j : ℕ) → raised qs a j ≡ raised qs b j
unfolding raised
raised_cong [] a b h j = h j
raised_cong (q ∷ qs) a b h j = rw (h q.from, raised_cong qs a b h j)

-- ---- bounds

-- no inequality raises a start by more than 1,000
pub fits_slow : (n : ℕ) (q : Delay) → Fits n q → Slow q
unfolding Slow
fits_slow n q f t = omega (arith, plus_coded t q.weight f.weight)
