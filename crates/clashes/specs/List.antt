-- The clash list as the code holds it: all clashes are counted, and the first 1,024 are stored as codes.
-- First the list of a batch, which is what callers see; then how the code makes it, code after code.
use Rattle.std.specs.Prelude.{ℕ, suc, ◌+◌, ◌-◌, ◌≤◌, ◌<◌, ◌≡◌, List, [], ◌∷◌, map, length, take, set, ltb, if◌then◌else◌}
use Rattle.std.proofs.Math.IntN.{sub_ℕ}
use Rattle.model.specs.declared.Job.{Job}
use Rattle.model.specs.declared.Batch.{Batch}
use Rattle.model.specs.Common.{count, keep, joined, pad}
use Rattle.model.specs.Limits.{most_jobs, most_ticks, stations, most_rest, most_clashes}
use Rattle.model.specs.Batch.{ticks, rest_of}
use Rattle.model.specs.Clash.{clashes, clashes_of}
use Rattle.clashes.specs.declared.Clashes.{Clashes}
use Rattle.clashes.specs.Code.{code_of}
use Rattle.tables.specs.Tables.{tables_meet}

-- ---- the whole list

-- n, each p and each rest are within their limits, so that every tick is in its table, and every distance at which two tables clash is listed
pub record Tabled (b : Batch) : Type 0 where
  pub few : b.n ≤ most_jobs
  pub short : (i : ℕ) → i < b.n → ticks b i ≤ most_ticks
  pub rests : (s : ℕ) → s < stations → rest_of b s ≤ most_rest

-- D, and the codes of the first 1,024 clashes
unfoldable pub list_of : Batch → Clashes
list_of b =
    record { count = length (clashes b); codes = pad most_clashes 0 (take most_clashes (map code_of (clashes b))) }

-- ---- how it grows

-- a count and an array as one list
abbrev pub listing : ℕ → List ℕ → Clashes
listing n codes = record { count = n; codes = codes }

-- one code more: counted, and stored where there is room
unfoldable pub put : Clashes → ℕ → Clashes
put l x =
    record {
      count = l.count + 1;
      codes = if ltb l.count most_clashes then set l.codes l.count x else l.codes;
    }

-- these codes, one after the other
unfoldable pub add_all : Clashes → List ℕ → Clashes
add_all l [] = l
add_all l (x ∷ xs) = add_all (put l x) xs

-- m is l with these codes after the others, `most` of them at most
pub record Grown (l m : Clashes) (xs : List ℕ) (most : ℕ) : Type 0 where
  pub all : m ≡ add_all l xs
  pub few : m.count ≤ l.count + most

-- the codes of two jobs, by rising distance, from the first one's places and the second's table
unfoldable pub pair_codes : ℕ → ℕ → List ℕ → Job → ℕ → List ℕ
pair_codes low end places second base =
    map (λ k. base + k) (keep (λ k. tables_meet low end places second (sub_ℕ k 15)) (count 0 45))

-- the codes of job i with the jobs after it
unfoldable pub row_codes : Batch → ℕ → List ℕ
row_codes b i = map code_of (joined (clashes_of b i) (count (suc i) (b.n - suc i)))
