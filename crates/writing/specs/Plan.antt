-- The plan text where there is a plan: its first line, and the start lines one behind the other.
use Rattle.std.specs.Prelude.{ℕ, List, ◌++◌}
use Rattle.model.specs.Common.{count, joined}
use Rattle.model.specs.Plan.{start}
use Rattle.frame_put.specs.Lines.{head_line, start_line}

-- the start line of each job
unfoldable pub start_lines : ℕ → List ℕ → List ℕ
start_lines n starts = joined (λ i. start_line i (start starts i)) (count 0 n)

-- the whole text
unfoldable pub found_lines : ℕ → ℕ → List ℕ → ℕ → List ℕ
found_lines n latency starts total = head_line n latency total ++ start_lines n starts
