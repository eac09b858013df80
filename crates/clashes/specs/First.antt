-- The first clash that starts meet, found among codes. It is the model's answer on the clashes that the codes stand for;
-- codes are read by place, since what stands behind a reference has no known length.
use Rattle.std.specs.Prelude.{ℕ, ◌/◌, ◌%◌, ◌<◌, ◌≡◌, false, List, map, get_or, Option, None, Some}
use Rattle.std.proofs.Math.Option.{Option as Found, none, some}
use Rattle.model.specs.Common.{count}
use Rattle.model.specs.Limits.{most_jobs}
use Rattle.model.specs.Clash.{Clash}
use Rattle.model.specs.Search.{met, first_met}
use Rattle.clashes.specs.Code.{clash_of}

-- i and j of a code are jobs
pub record Named (code : ℕ) : Type 0 where
  pub first : code / 2048 < most_jobs
  pub second : code / 64 % 32 < most_jobs

-- so are those of the first n codes
pub record Known (codes : List ℕ) (n : ℕ) : Type 0 where
  pub each : (k : ℕ) → k < n → Named (get_or codes k 0)

-- d + 22 is at most 44 for each of the first n codes
pub record Near (codes : List ℕ) (n : ℕ) : Type 0 where
  pub each : (c : ℕ) → c < n → get_or codes c 0 % 64 < 45

-- the starts meet the clash of none of the first n codes
pub record Unmet (codes ts : List ℕ) (n : ℕ) : Type 0 where
  pub each : (k : ℕ) → k < n → met ts (clash_of (get_or codes k 0)) ≡ false

-- the clashes of the first n codes
unfoldable pub clashes_in : List ℕ → ℕ → List Clash
clashes_in codes n = map (λ k. clash_of (get_or codes k 0)) (count 0 n)

-- the model's answer as the code gives it: as Rust's Option
unfoldable pub met_of : Found ℕ → Option ℕ
met_of none = None
met_of (some k) = Some k

-- the number of the first of n codes whose clash the starts meet
unfoldable pub first_code : List ℕ → ℕ → List ℕ → Option ℕ
first_code codes n ts = met_of (first_met (clashes_in codes n) ts 0)
