-- Least starts (the earliest start times, longest-path potentials) of a list of inequalities t_j − t_i ≥ w over n jobs, each with an earliest and
-- a latest start. An inequality is written as a delay from i to j of weight w.
use Rattle.std.specs.Prelude.{ℕ, zero, suc, ◌+◌, ◌-◌, ◌≤◌, ◌<◌, max, pred, Bool, true, false, ◌&&◌, ◌≡◌, get_or, length, ℤ, pos, negsuc, leb, eqb, if◌then◌else◌}
use mathlib.Core.List.{List, [], ◌∷◌, Memᴰ, map}
use Rattle.std.proofs.Math.Option.{Option, none, some}
use Rattle.std.specs.Int.Signed.{le_z}
use Rattle.model.specs.declared.Delay.{Delay}
use Rattle.model.specs.Common.{count, all}
use Rattle.model.specs.Limits.{most_jobs}
use Rattle.model.specs.Plan.{start, Keeps}

-- t + w, or 0 where that is below 0: it is only compared with a start, and no start is below 0
unfoldable pub plus : ℕ → ℤ → ℕ
plus t (pos k) = t + k
plus t (negsuc k) = t - suc k

-- start j after one more round: the largest of its old value and old t_i + w over the inequalities that end in it
unfoldable pub raised : List Delay → List ℕ → ℕ → ℕ
raised [] old j = get_or old j 0
raised (q ∷ qs) old j =
    if eqb q.to j then max (plus (get_or old q.from 0) q.weight) (raised qs old j) else raised qs old j

-- the starts after k rounds: each comes from the starts after k − 1
unfoldable pub rounds : List Delay → List ℕ → ℕ → List ℕ
rounds qs first zero = first
rounds qs first (suc k) = map (raised qs (rounds qs first k)) (count 0 (length first))

unfoldable pub same : List ℕ → List ℕ → Bool
same [] [] = true
same [] (y ∷ ys) = false
same (x ∷ xs) [] = false
same (x ∷ xs) (y ∷ ys) = eqb x y && same xs ys

-- no start passes its latest
unfoldable pub in_time : List ℕ → List ℕ → Bool
in_time latest ts = all (λ j. leb (get_or ts j 0) (get_or latest j 0)) (count 0 (length ts))

-- after 0 rounds each start is its earliest. If round n still changes something or a start passes its latest, there are none; otherwise these
-- are the least starts
unfoldable pub least_starts : List ℕ → List ℕ → List Delay → Option (List ℕ)
least_starts earliest latest qs =
    let n = length earliest in
    let last = rounds qs earliest n in
    if same last (rounds qs earliest (pred n)) && in_time latest last then some last else none

-- ---- what they are the least of

-- starts that keep the inequalities, and both ends of every job
pub record Solution (earliest latest : List ℕ) (qs : List Delay) (us : List ℕ) : Type 0 where
  pub keeps : (q : Delay) → Memᴰ q qs → Keeps us q
  pub above : (j : ℕ) → j < length earliest → get_or earliest j 0 ≤ start us j
  pub below : (j : ℕ) → j < length earliest → start us j ≤ get_or latest j 0

-- one that has no start above another's; model/proofs/StartsLaws: least_iff and least_exists
pub record Least (earliest latest : List ℕ) (qs : List Delay) (ts : List ℕ) : Type 0 where
  pub long : length ts ≡ length earliest
  pub solution : Solution earliest latest qs ts
  pub below : (us : List ℕ) → Solution earliest latest qs us → (j : ℕ) → start ts j ≤ start us j

-- ---- the working table

-- the larger of a weight and what the place holds
unfoldable pub heavier : ℤ → Option ℤ → ℤ
heavier w none = w
heavier w (some v) = if le_z v w then w else v

-- the place for the pair (i, j): empty, or the largest weight of the inequalities from i to j
unfoldable pub entry : List Delay → ℕ → ℕ → Option ℤ
entry [] i j = none
entry (q ∷ qs) i j = if eqb q.from i && eqb q.to j then some (heavier q.weight (entry qs i j)) else entry qs i j

-- 24 rows of 24 weights: row i has what starts in job i
unfoldable pub table : List Delay → List (List (Option ℤ))
table qs = map (λ i. map (λ j. entry qs i j) (count 0 most_jobs)) (count 0 most_jobs)
