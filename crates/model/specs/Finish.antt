-- What the latency is for whoever waits at the counter: by stations and ticks, with no word of stays (02, Q-3). model/proofs/FinishLaws: latency_over.
use Rattle.std.specs.Prelude.{ℕ, ◌≤◌, ◌<◌, List, T}
use Rattle.model.specs.declared.Batch.{Batch}
use Rattle.model.specs.Limits.{stations}
use Rattle.model.specs.Batch.{ticks, mask, bit}
use Rattle.model.specs.Plan.{start, Holds}

-- job i holds no station in any of its ticks
unfoldable pub Empty : Batch → ℕ → Type 0
Empty b i = (a s : ℕ) → a < ticks b i → s < stations → T (bit (mask b i a) s) → ⊥

-- no job holds a station in tick x or later, and none that holds no station at all starts later
pub record Over (b : Batch) (ts : List ℕ) (x : ℕ) : Type 0 where
  pub held : (i s y : ℕ) → i < b.n → s < stations → Holds b ts i s y → y < x
  pub empty : (i : ℕ) → i < b.n → Empty b i → start ts i ≤ x

-- the first tick of which that is true
pub record FirstOver (b : Batch) (ts : List ℕ) (x : ℕ) : Type 0 where
  pub over : Over b ts x
  pub first : (y : ℕ) → Over b ts y → x ≤ y
