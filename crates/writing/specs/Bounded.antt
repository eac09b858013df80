-- What the text of a batch needs of it: its counts stay within its arrays, and its edition is a byte. Every sound record's batch is so.
use Rattle.std.specs.Prelude.{ℕ, ◌≤◌, ◌<◌}
use Rattle.model.specs.declared.Batch.{Batch}
use Rattle.model.specs.Limits.{most_jobs, most_delays, most_ticks}
use Rattle.model.specs.Batch.{ticks}

pub record Bounded (b : Batch) : Type 0 where
  pub edition : b.edition < 256
  pub jobs : b.n ≤ most_jobs
  pub delays : b.m ≤ most_delays
  pub ticks_each : (i : ℕ) → i < b.n → ticks b i ≤ most_ticks
