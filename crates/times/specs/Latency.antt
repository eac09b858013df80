-- The latency of the first k starts, with the jobs' stays in an array, and a latency that starts raise.
use Rattle.std.specs.Prelude.{ℕ, zero, suc, ◌+◌, max, List, get_or}

-- the largest finish of the first k jobs
unfoldable pub latency_of : List ℕ → List ℕ → ℕ → ℕ
latency_of stays starts zero = 0
latency_of stays starts (suc k) = max (latency_of stays starts k) (get_or starts k 0 + get_or stays k 0)

-- the largest of a latency and that of 24 starts
unfoldable pub raised_by : List ℕ → List ℕ → ℕ → ℕ
raised_by stays starts latency = max latency (latency_of stays starts 24)
