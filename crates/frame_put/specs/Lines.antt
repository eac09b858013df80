-- The lines of the plan text, each by its name. Model's `plan_lines` is made of them.
use Rattle.std.specs.Prelude.{ℕ, List, ◌∷◌, ◌++◌}
use Rattle.model.specs.Line.{line, two, four}

-- B0, 01, n, latency, total
unfoldable pub head_line : ℕ → ℕ → ℕ → List ℕ
head_line n latency total = line (0xB0 ∷ 0x01 ∷ n ∷ (two latency ++ four total))

-- B1, job, start
unfoldable pub start_line : ℕ → ℕ → List ℕ
start_line job start = line (0xB1 ∷ job ∷ two start)

-- no plan: B2, total
unfoldable pub no_plan_line : ℕ → List ℕ
no_plan_line total = line (0xB2 ∷ four total)
