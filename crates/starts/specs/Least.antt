-- Least starts by the table.
use Rattle.std.specs.Prelude.{ℕ, ◌+◌, ◌/◌, List, length}
use Rattle.rounds.specs.Rounds.{Reached, rounds_of, timely}
use Rattle.weights.specs.declared.Inequality.{Inequality}
use Rattle.starts.specs.Table.{with_put, with_stored, empty_table}

-- rounds over the table of the delays and the turns, over n jobs, and whether their starts are in time
unfoldable pub least_of : ℕ → List Inequality → List Inequality → List ℕ → List ℕ → ℕ → List ℕ → ℕ → Reached
least_of n delays steps stays latest bound starts latency =
    timely latest (rounds_of (with_put steps (with_stored delays empty_table (length delays)) (length steps)) stays ((n + 3) / 4) bound starts latency n)
