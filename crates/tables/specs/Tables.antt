-- Two reservation tables at a distance, mask against mask, with no word of rests: the first is given by its places (specs/Rest widens it).
use Rattle.std.specs.Prelude.{ℕ, ◌-◌, Bool, ◌&&◌, List, get_or, ℤ}
use Rattle.std.proofs.Math.IntN.{sub_ℕ}
use Rattle.model.specs.declared.Job.{Job}
use Rattle.model.specs.Common.{count, any, eq_z}
use Rattle.model.specs.Limits.{stations}
use Rattle.model.specs.Batch.{bit}

-- some station is in both masks
unfoldable pub shares : ℕ → ℕ → Bool
shares m m' = any (λ s. bit m s && bit m' s) (count 0 stations)

-- some station is in place x of the first table, from low on and before end, and in mask c of the second with x − c = d
unfoldable pub tables_meet : ℕ → ℕ → List ℕ → Job → ℤ → Bool
tables_meet low end places second d =
    any
    (λ x. any (λ c. eq_z (sub_ℕ x c) d && shares (get_or places x 0) (get_or second.masks c 0)) (count 0 second.ticks))
    (count low (end - low))
