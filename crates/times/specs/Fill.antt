-- Arrays of numbers: filled from the front, and with small numbers.
use Rattle.std.specs.Prelude.{ℕ, zero, suc, ◌≤◌, List, get_or, set, replicate}

-- every number of the list is at most the bound
pub record Small (l : List ℕ) (bound : ℕ) : Type 0 where
  pub each : (k : ℕ) → get_or l k 0 ≤ bound

-- size places: f of each of the first k places, and 0 in the others
unfoldable pub filled : (ℕ → ℕ) → ℕ → ℕ → List ℕ
filled f size zero = replicate size 0
filled f size (suc k) = set (filled f size k) k (f k)
