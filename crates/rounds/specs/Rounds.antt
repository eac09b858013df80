-- Rounds over a table of codes, as lists of 24 starts. Rows and columns past n are empty, so the starts past n stay 0.
use Rattle.std.specs.Prelude.{ℕ, zero, suc, ◌+◌, ◌*◌, ◌-◌, max, Bool, true, false, ◌&&◌, List, [], get_or, eqb, leb, if◌then◌else◌}
use Rattle.times.specs.Fill.{filled}
use Rattle.times.specs.Ends.{none_late}
use Rattle.times.specs.Latency.{raised_by}

-- each start plus 1,000
unfoldable pub lifted_of : List ℕ → List ℕ
lifted_of old = filled (λ j. get_or old j 0 + 1000) 24 24

-- less a weight's code, in column j of row i, that is old t_i + the weight, or 0; and 0 for an empty place
unfoldable pub sum_at : List (List ℕ) → List ℕ → ℕ → ℕ → ℕ
sum_at table high j i = get_or high i 0 - get_or (get_or table i []) j 0

-- the largest of these sums over the first k rows, in column j
unfoldable pub largest : List (List ℕ) → List ℕ → ℕ → ℕ → ℕ
largest table high j zero = 0
largest table high j (suc k) = max (largest table high j k) (sum_at table high j k)

-- start j after one more round over the first k rows, by what ends in it: column j
unfoldable pub start_of : List (List ℕ) → List ℕ → ℕ → ℕ → ℕ
start_of table old j k = max (get_or old j 0) (largest table (lifted_of old) j k)

-- the starts after one more round over the first k rows
unfoldable pub round_of : List (List ℕ) → List ℕ → ℕ → List ℕ
round_of table old k = filled (λ j. start_of table old j k) 24 24

-- ---- the steps of a round: the sums, four rows at a time, and then the starts

-- the largest of each column over the first k rows
unfoldable pub raised_to : List (List ℕ) → List ℕ → ℕ → List ℕ
raised_to table high k = filled (λ j. largest table high j k) 24 24

-- each place with rows i to i + 3
unfoldable pub four_raised : List (List ℕ) → List ℕ → ℕ → List ℕ → List ℕ
four_raised table high i new =
    filled (λ j. max (get_or new j 0) (max (max (sum_at table high j i) (sum_at table high j (i + 1))) (max (sum_at table high j (i + 2)) (sum_at table high j (i + 3))))) 24 24

-- the larger at each place
unfoldable pub highest_of : List ℕ → List ℕ → List ℕ
highest_of old new = filled (λ j. max (get_or old j 0) (get_or new j 0)) 24 24

-- the first k numbers agree
unfoldable pub same_to : List ℕ → List ℕ → ℕ → Bool
same_to a b zero = true
same_to a b (suc k) = eqb (get_or a k 0) (get_or b k 0) && same_to a b k

-- ---- k rounds over the first 4 * fours rows

-- what they leave: starts, their latency, and whether the last round changed nothing
pub record Reached : Type 0 where
  pub starts : List ℕ
  pub latency : ℕ
  pub found : Bool

-- each round's starts raise the latency. A round that changes nothing ends them, and so does a latency at or above the bound
unfoldable pub rounds_of : List (List ℕ) → List ℕ → ℕ → ℕ → List ℕ → ℕ → ℕ → Reached
rounds_of table stays fours bound old latency zero = record { starts = old; latency = latency; found = false }
rounds_of table stays fours bound old latency (suc k) =
    let new = round_of table old (4 * fours) in
    let risen = raised_by stays new latency in
    if same_to old new 24 then record { starts = old; latency = latency; found = true }
    else (if leb bound risen then record { starts = new; latency = risen; found = false } else rounds_of table stays fours bound new risen k)

-- found only if no start passes its latest either
unfoldable pub timely : List ℕ → Reached → Reached
timely latest r = record { starts = r.starts; latency = r.latency; found = r.found && none_late latest r.starts 24 }
