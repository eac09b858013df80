-- The rows that are kept of the nodes above a node, and the starts that it begins with.
use Rattle.std.specs.Prelude.{ℕ, zero, suc, ◌+◌, ◌-◌, ◌%◌, ◌≤◌, ◌<◌, max, ◌≡◌, List, [], get_or, set, length, eqb, if◌then◌else◌}
use Rattle.model.specs.declared.Batch.{Batch}
use Rattle.model.specs.declared.Delay.{Delay}
use Rattle.model.specs.Common.{pad}
use Rattle.model.specs.Clash.{clashes}
use Rattle.model.specs.Search.{inequalities}
use Rattle.model.proofs.UnderLaws.{Below}
use Rattle.times.specs.Fill.{Small}
use Rattle.times.specs.Latency.{latency_of}
use Rattle.weights.specs.declared.Inequality.{Inequality}
use Rattle.weights.specs.Inequality.{nth}
use Rattle.node.specs.declared.kit.Reach.{Reach}
use Rattle.node.specs.declared.kit.Row.{Row}
use Rattle.node.specs.Walk.{turns_in}

-- what is read where the ring has no place
abbrev pub no_row : Row
no_row = record { tag = 0; low = record { starts = []; latency = 0 } }

-- no start is above 43,016, and no latency
pub record SmallRow (r : Row) : Type 0 where
  pub starts : Small r.low.starts 43016
  pub latency : r.low.latency ≤ 43016

pub record SmallRing (rows : List Row) : Type 0 where
  pub each : (k : ℕ) → SmallRow (get_or rows k no_row)

-- start j, raised by an inequality from i to j whose weight has this code
unfoldable pub raised_start : List ℕ → ℕ → ℕ → ℕ → ℕ
raised_start old i j code = max (get_or old j 0) (get_or old i 0 + 1000 - code)

-- starts and their latency, raised by it
unfoldable pub raised_row : Reach → ℕ → ℕ → ℕ → List ℕ → Reach
raised_row old i j code stays =
    record {
      starts = set old.starts j (raised_start old.starts i j code);
      latency = max old.latency (raised_start old.starts i j code + get_or stays j 0);
    }

-- the starts that a node at a depth begins with, and their latency: its parent's row, raised by its last turn, if that row is there
unfoldable pub begun : List Row → List Inequality → ℕ → List ℕ → Reach → Reach
begun rows steps zero stays first = first
begun rows steps (suc last) stays first =
    if eqb (get_or rows (last % 32) no_row).tag last
    then raised_row (get_or rows (last % 32) no_row).low (nth steps last).from (nth steps last).to (nth steps last).code stays
    else first

-- an array of 24 starts of a batch's jobs, at or above the earliest and at or below every starts that keep these inequalities and the ends
pub record Base (b : Batch) (qs : List Delay) (starts : List ℕ) : Type 0 where
  pub jobs : List ℕ
  pub long : length jobs ≡ b.n
  pub padded : starts ≡ pad 24 0 jobs
  pub under : Below b qs jobs

-- a ring of 32 rows. A row whose tag is a depth above the node's is at or below every starts that keep the inequalities of the path down to there, and
-- its latency stands beside it
pub record Kept (b : Batch) (stays turns : List ℕ) (depth : ℕ) (rows : List Row) : Type 0 where
  pub long : length rows ≡ 32
  pub small : SmallRing rows
  pub latency : (d : ℕ) → d < depth → (get_or rows (d % 32) no_row).tag ≡ d → (get_or rows (d % 32) no_row).low.latency ≡ latency_of stays (get_or rows (d % 32) no_row).low.starts 24
  pub under : (d : ℕ) → d < depth → (get_or rows (d % 32) no_row).tag ≡ d → Base b (inequalities (clashes b) b (turns_in turns d)) (get_or rows (d % 32) no_row).low.starts
