-- Tables padded with empty ticks (02, Q-3). model/proofs/PaddedLaws shows that nothing else depends on them.
use Rattle.std.specs.Prelude.{ℕ, ◌≤◌, ◌<◌, ◌≡◌}
use Rattle.model.specs.declared.Batch.{Batch}
use Rattle.model.specs.declared.Search.{Search}
use Rattle.model.specs.Limits.{stations}
use Rattle.model.specs.Batch.{ticks, mask, delays_of, rest_of, lined, earliest, latest}

-- the second batch is the first with empty ticks added at the ends of tables
pub record Padded (b b' : Batch) : Type 0 where
  pub edition : b'.edition ≡ b.edition
  pub jobs : b'.n ≡ b.n
  pub delays : delays_of b' ≡ delays_of b
  pub ends : (i : ℕ) → i < b.n → (lined b' i ≡ lined b i) × (earliest b' i ≡ earliest b i) × (latest b' i ≡ latest b i)
  pub rests : (s : ℕ) → s < stations → rest_of b' s ≡ rest_of b s
  pub longer : (i : ℕ) → i < b.n → ticks b i ≤ ticks b' i
  pub same : (i a : ℕ) → i < b.n → a < ticks b i → mask b' i a ≡ mask b i a
  pub added : (i a : ℕ) → i < b.n → ticks b i ≤ a → a < ticks b' i → mask b' i a ≡ 0

-- the record with another batch
unfoldable pub in_batch : Batch → Search → Search
in_batch b s = record { batch = b; path = s.path; best = s.best; starts = s.starts; total = s.total; ended = s.ended }
