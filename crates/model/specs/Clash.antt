-- Clashes: the distances that two jobs must not have (forbidden distances, or dis-equations).
use Rattle.std.specs.Prelude.{ℕ, suc, ◌-◌, Bool, ◌&&◌, List, map, ℤ, ◌-ℤ◌}
use Rattle.std.proofs.Math.IntN.{sub_ℕ}
use Rattle.model.specs.declared.Batch.{Batch}
use Rattle.model.specs.Common.{count, any, keep, joined}
use Rattle.model.specs.Limits.{stations, most_distance}
use Rattle.model.specs.Batch.{ticks, mask, bit, rest_of}
use Rattle.model.specs.Plan.{too_close}

-- (i, j, d), i below j: t_j − t_i must not be d
pub record Clash : Type 0 where
  pub i : ℕ
  pub j : ℕ
  pub d : ℤ

-- some station is in both masks, and ticks z apart are too close there
unfoldable pub meet : Batch → ℤ → ℕ → ℕ → Bool
meet b z m m' = any (λ s. bit m s && bit m' s && too_close (rest_of b s) z) (count 0 stations)

-- some station is in mask a of job i and in mask c of job j, and at distance d these ticks, a − c − d apart, are too close there
unfoldable pub clashing : Batch → ℕ → ℕ → ℤ → Bool
clashing b i j d =
    any (λ a. any (λ c. meet b (sub_ℕ a c -ℤ d) (mask b i a) (mask b j c)) (count 0 (ticks b j))) (count 0 (ticks b i))

-- −22 to 22, rising: further apart, tables of 16 ticks are more than 7 ticks apart
unfoldable pub distances : List ℤ
distances = map (λ k. sub_ℕ k most_distance) (count 0 45)

unfoldable pub clashes_of : Batch → ℕ → ℕ → List Clash
clashes_of b i j = map (λ d. record { i = i; j = j; d = d }) (keep (clashing b i j) distances)

-- by i, then j, then d, all rising, each once; D is their number
unfoldable pub clashes : Batch → List Clash
clashes b = joined (λ i. joined (clashes_of b i) (count (suc i) (b.n - suc i))) (count 0 b.n)
