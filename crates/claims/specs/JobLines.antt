-- All B1 lines of a plan text: what is kept of them.
use Rattle.std.specs.Prelude.{ℕ, List, Option, Some, None, map, length, take, set, ltb, if◌then◌else◌}
use Rattle.model.specs.Common.{count, pad, Outcome, refuse, accept}
use Rattle.model.specs.Limits.{most_jobs}
use Rattle.model.specs.Starts.{same}
use Rattle.claims.specs.declared.job_lines.Lines.{Lines}

-- the start of line k, where there is room
unfoldable pub stored : List ℕ → ℕ → ℕ → List ℕ
stored starts k start = if ltb k most_jobs then set starts k start else starts

-- all lines: how many, whether their jobs are 0, 1, .. in order, and the first 24 starts
unfoldable pub lines_told : Outcome (List (ℕ × ℕ)) → Option Lines
lines_told (refuse k) = None
lines_told (accept qs) =
    Some (record {
      count = length qs;
      ordered = same (map (λ q. q.0) qs) (count 0 (length qs));
      starts = pad most_jobs 0 (take most_jobs (map (λ q. q.1) qs));
    })
