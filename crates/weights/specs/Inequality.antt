-- Places of a list of inequalities.
use Rattle.std.specs.Prelude.{ℕ, zero, suc, List, get_or, set, replicate}
use Rattle.weights.specs.declared.Inequality.{Inequality}

-- what an array holds past the end of its list
abbrev pub blank_inequality : Inequality
blank_inequality = record { from = 0; to = 0; code = 0 }

-- the inequality at place k
abbrev pub nth : List Inequality → ℕ → Inequality
nth ws k = get_or ws k blank_inequality

-- size places: f of each of the first k places, and blank ones behind them
unfoldable pub listed : (ℕ → Inequality) → ℕ → ℕ → List Inequality
listed f size zero = replicate size blank_inequality
listed f size (suc k) = set (listed f size k) k (f k)
