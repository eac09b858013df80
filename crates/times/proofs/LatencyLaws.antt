-- The latency by the arrays is the latency of the definitions.
use mathlib.Core.Path.{◌≡◌, refl, ap, sym, ◌∙◌}
use mathlib.Core.List.{List, [], ◌∷◌, ◌++◌, map, foldr}
use Prim.Native.Nat.{ℕ, zero, suc, ◌+◌, ◌-◌, ◌≤◌, ◌<◌, max}
use native.Mathlib.Omega.{arith}
use native.Mathlib.Decide.{dec_lt, ℕ_discrete}
use native.Mathlib.Numerals.{add-one}
use lib.ListN.{get_or, set, length, get_or-eq_default}
use lib.Seq.{get_or-set_same, get_or-set_other}
use Rattle.model.specs.declared.Batch.{Batch}
use Rattle.model.specs.Common.{count, pad}
use Rattle.model.specs.Batch.{job_of, ticks}
use Rattle.model.specs.Plan.{start, stay, finish, latency}
use Rattle.times.specs.Fill.{Small}
use Rattle.times.specs.Stays.{stays_read}
use Rattle.times.specs.Latency.{latency_of}
use Rattle.model.proofs.FinishLaws.{stay_short}
use Rattle.model.proofs.SeqLaws.{listed_snoc, pad_at}
use Rattle.times.proofs.FillLaws.{filled_at, filled_past}

-- ---- the code's loop

module _ (ps ss : List ℕ) where
  pub latency_none : latency_of ps ss 0 ≡ 0
  unfolding latency_of
  latency_none = refl

  pub latency_more : (k : ℕ) → latency_of ps ss (k + 1) ≡ max (latency_of ps ss k) (get_or ss k 0 + get_or ps k 0)
  unfolding latency_of
  latency_more k = rw (add-one k)

  -- places from n on that hold 0 add nothing
  latency_rest : (n : ℕ) → ((i : ℕ) → n ≤ i → get_or ss i 0 + get_or ps i 0 ≡ 0) → (k : ℕ) → latency_of ps ss (k + n) ≡ latency_of ps ss n
  unfolding latency_of
  latency_rest n z zero = let e : 0 + n ≡ n = omega arith in ap (latency_of ps ss) e
  latency_rest n z (suc k) =
      let e : suc k + n ≡ suc (k + n) = omega arith in
      ap (latency_of ps ss) e ∙ omega (arith, latency_rest n z k, z (k + n) (omega arith))

-- later starts, no smaller latency
pub latency_mono : (ps a b : List ℕ) (k : ℕ) → ((j : ℕ) → j < k → get_or a j 0 ≤ get_or b j 0) → latency_of ps a k ≤ latency_of ps b k
unfolding latency_of
latency_mono ps a b zero h = omega arith
latency_mono ps a b (suc k) h = omega (arith, latency_mono ps a b k (λ j p. h j (omega arith)), h k (omega arith))

-- no start is above the latency
pub latency_at : (ps ss : List ℕ) (k i : ℕ) → i < k → get_or ss i 0 ≤ latency_of ps ss k
unfolding latency_of
latency_at ps ss zero i h = absurd (omega arith)
latency_at ps ss (suc k) i h = go (ℕ_discrete i k) (latency_at ps ss k i)
  where
    go : Dec (i ≡ k) → (i < k → get_or ss i 0 ≤ latency_of ps ss k) → get_or ss i 0 ≤ max (latency_of ps ss k) (get_or ss k 0 + get_or ps k 0)
    go (yes e) rec = omega (arith, ap (λ (x : ℕ). get_or ss x 0) e)
    go (no e) rec = omega (arith, rec (omega arith))

-- nor is it above what no finish passes
pub latency_most : (ps ss : List ℕ) (most k : ℕ) → ((i : ℕ) → get_or ss i 0 + get_or ps i 0 ≤ most) → latency_of ps ss k ≤ most
unfolding latency_of
latency_most ps ss most zero h = omega arith
latency_most ps ss most (suc k) h = omega (arith, latency_most ps ss most k h, h k)

-- one start raised
module _ (ps ss : List ℕ) (j v : ℕ) (inside : j < length ss) (up : get_or ss j 0 ≤ v) where
  latency_before : (k : ℕ) → k ≤ j → latency_of ps (set ss j v) k ≡ latency_of ps ss k
  unfolding latency_of
  latency_before zero h = refl
  latency_before (suc k) h = omega (arith, latency_before k (omega arith), get_or-set_other ss j k v 0 (λ e. omega arith))

  pub latency_set : (k : ℕ) → j < k → latency_of ps (set ss j v) k ≡ max (latency_of ps ss k) (v + get_or ps j 0)
  unfolding latency_of
  latency_set zero h = absurd (omega arith)
  latency_set (suc k) h = go (ℕ_discrete j k) (latency_set k)
    where
      go : Dec (j ≡ k) → (j < k → latency_of ps (set ss j v) k ≡ max (latency_of ps ss k) (v + get_or ps j 0))
          → max (latency_of ps (set ss j v) k) (get_or (set ss j v) k 0 + get_or ps k 0) ≡ max (max (latency_of ps ss k) (get_or ss k 0 + get_or ps k 0)) (v + get_or ps j 0)
      go (yes e) rec = rw (← e) (omega (arith, latency_before j (omega arith), get_or-set_same ss j v 0 inside))
      go (no e) rec = omega (arith, rec (omega arith), get_or-set_other ss j k v 0 (λ g. e (sym g)))

-- ---- the definition

most_snoc : (xs : List ℕ) (x : ℕ) → foldr max 0 (xs ++ (x ∷ [])) ≡ max (foldr max 0 xs) x
most_snoc [] x = omega arith
most_snoc (y ∷ xs) x = omega (arith, most_snoc xs x)

-- the stay of job i, worked out once
pub stay_at : (b : Batch) → b.n ≤ 24 → (i : ℕ) → i < b.n → get_or (stays_read b) i 0 ≡ stay (job_of b i)
unfolding stays_read
stay_at b few i p = filled_at (λ i. stay (job_of b i)) 24 b.n i few p

stay_past : (b : Batch) (i : ℕ) → b.n ≤ i → get_or (stays_read b) i 0 ≡ 0
unfolding stays_read
stay_past b i p = filled_past (λ i. stay (job_of b i)) 24 b.n i p

-- jobs of at most 16 ticks
pub stays_small : (b : Batch) → b.n ≤ 24 → ((i : ℕ) → i < b.n → ticks b i ≤ 16) → Small (stays_read b) 16
stays_small b few h = record { each = λ i. go i (dec_lt i b.n) }
  where
    go : (i : ℕ) → Dec (i < b.n) → get_or (stays_read b) i 0 ≤ 16
    go i (yes p) = omega (arith, stay_at b few i p, stay_short b i, h i p)
    go i (no p) = omega (arith, stay_past b i (omega arith))

module _ (b : Batch) (few : b.n ≤ 24) (ss : List ℕ) where
  latency_to : (ts : List ℕ) → ((i : ℕ) → i < b.n → get_or ss i 0 ≡ get_or ts i 0) → (k : ℕ) → k ≤ b.n → latency_of (stays_read b) ss k ≡ foldr max 0 (map (λ i. finish b i (start ts i)) (count 0 k))
  unfolding latency_of finish start count
  latency_to ts h zero p = refl
  latency_to ts h (suc k) p =
      let q : get_or ss k 0 + get_or (stays_read b) k 0 ≡ finish b k (start ts k) = omega (arith, h k (omega arith), stay_at b few k (omega arith)) in
      omega (
        arith,
        latency_to ts h k (omega arith),
        ap (foldr max 0) (listed_snoc (λ i. finish b i (start ts i)) k),
        most_snoc (map (λ i. finish b i (start ts i)) (count 0 k)) (finish b k (start ts k)),
      )

  -- the latency of any plan that has these starts
  pub latency_law : (ts : List ℕ) → ((i : ℕ) → i < b.n → get_or ss i 0 ≡ get_or ts i 0) → latency_of (stays_read b) ss b.n ≡ latency b ts
  unfolding latency
  latency_law ts h = latency_to ts h b.n (omega arith)

module _ (b : Batch) (few : b.n ≤ 24) where
  -- places past n add nothing, so that all 24 may be taken
  latency_whole : (ss ts : List ℕ) → ((i : ℕ) → get_or ss i 0 ≡ get_or ts i 0) → length ts ≤ b.n → latency_of (stays_read b) ss 24 ≡ latency b ts
  latency_whole ss ts h l =
      let e : 24 ≡ 24 - b.n + b.n = omega arith in
      ap (latency_of (stays_read b) ss) e
      ∙ latency_rest (stays_read b) ss b.n (λ i p. omega (arith, stay_past b i p, h i, get_or-eq_default ts 0 {n = i} (omega arith))) (24 - b.n)
      ∙ latency_law b few ss ts (λ i p. h i)

  pub latency_padded : (ts : List ℕ) → length ts ≡ b.n → latency_of (stays_read b) (pad 24 0 ts) 24 ≡ latency b ts
  latency_padded ts l = latency_whole (pad 24 0 ts) ts (pad_at 24 0 ts) (omega arith)
