-- The working table as it is filled: a place holds 65,535 where it is empty, and otherwise the smallest code put there, or the last one stored there.
use Rattle.std.specs.Prelude.{ℕ, zero, suc, ◌<◌, min, List, [], get_or, set, replicate}
use Rattle.weights.specs.declared.Inequality.{Inequality}
use Rattle.weights.specs.Inequality.{nth, listed}

-- the place for the pair (from, to) gets a code
unfoldable pub store_in : List (List ℕ) → ℕ → ℕ → ℕ → List (List ℕ)
store_in table from to code = set table from (set (get_or table from []) to code)

-- it keeps the smaller of what it has and a code: the larger weight
unfoldable pub put_in : List (List ℕ) → ℕ → ℕ → ℕ → List (List ℕ)
put_in table from to code = store_in table from to (min (get_or (get_or table from []) to 0) code)

-- the table with the first k inequalities put in
unfoldable pub with_put : List Inequality → List (List ℕ) → ℕ → List (List ℕ)
with_put w table zero = table
with_put w table (suc k) = put_in (with_put w table k) (nth w k).from (nth w k).to (nth w k).code

-- the table with the first k inequalities stored
unfoldable pub with_stored : List Inequality → List (List ℕ) → ℕ → List (List ℕ)
with_stored w table zero = table
with_stored w table (suc k) = store_in (with_stored w table k) (nth w k).from (nth w k).to (nth w k).code

-- every place empty
unfoldable pub empty_table : List (List ℕ)
empty_table = replicate 24 (replicate 24 65535)

-- an inequality with the code that a table has for its pair
unfoldable pub lowered : List (List ℕ) → Inequality → Inequality
lowered table q = record { from = q.from; to = q.to; code = get_or (get_or table q.from []) q.to 0 }

-- the first m delays, the code of each lowered to the smallest of its pair, and blank places past them
unfoldable pub heaviest_of : ℕ → List Inequality → List Inequality
heaviest_of m w = listed (λ k. lowered (with_put w empty_table m) (nth w k)) 128 m

-- the first m inequalities name jobs below 24
pub record Placed (w : List Inequality) (m : ℕ) : Type 0 where
  pub from : (k : ℕ) → k < m → (nth w k).from < 24
  pub to : (k : ℕ) → k < m → (nth w k).to < 24
