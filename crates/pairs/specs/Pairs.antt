-- The listed clashes by pairs of jobs: the distances of a pair as bits of one number, so that starts are held to all of them at once.
-- A pair is the number i * 32 + j, which is a code without its last 6 bits.
use Rattle.std.specs.Prelude.{ℕ, ◌+◌, ◌-◌, ◌/◌, ◌%◌, ◌^◌, ◌≤◌, ◌<◌, ◌≡◌, List, length, get_or, ltb, if◌then◌else◌}
use Rattle.model.specs.Limits.{most_jobs}
use Rattle.clashes.specs.First.{Unmet}
use Rattle.pairs.specs.declared.pairs.Pairs.{Pairs}

-- t_j + 23 − t_i, of later = t_j + 23 and earlier = t_i, where that is at most 63, and else 0, the bit that no distance has: the bit of a
-- clash that is met
abbrev pub bit_of : ℕ → ℕ → ℕ
bit_of later earlier = if ltb 63 (later - earlier) then 0 else later - earlier

-- the arrays have a place for each of the 276 pairs that 24 jobs have
pub record Room (p : Pairs) : Type 0 where
  pub of_pair : length p.pair ≡ 276
  pub of_held : length p.held ≡ 276
  pub of_end : length p.end ≡ 276

-- pair q is the pair of code c, and its bits have bit d + 23
pub record In (codes : List ℕ) (p : Pairs) (c q : ℕ) : Type 0 where
  pub same : get_or codes c 0 / 64 ≡ get_or p.pair q 0
  pub near : get_or codes c 0 % 64 < 45
  pub has : get_or p.held q 0 / 2 ^ (get_or codes c 0 % 64 + 1) % 2 ≡ 1

-- there are at most 276 pairs, and each is of two jobs
pub record OfJobs (p : Pairs) : Type 0 where
  pub few : p.count ≤ 276
  pub first : (q : ℕ) → q < p.count → get_or p.pair q 0 / 32 < most_jobs
  pub second : (q : ℕ) → q < p.count → get_or p.pair q 0 % 32 < most_jobs

-- the pairs of the first n codes: each code before the end of pair q is in a pair up to q, and where there is room for more pairs, each is before one's
-- end. Bits too many are not excluded, nor what is left out where the arrays are full: they cost time, and never an answer
pub record Paired (codes : List ℕ) (p : Pairs) (n : ℕ) : Type 0 where
  pub of_jobs : OfJobs p
  pub within : (q : ℕ) → q < p.count → get_or p.end q 0 ≤ n
  pub each : (q c : ℕ) → q < p.count → c < get_or p.end q 0 → (r : ℕ) × ((r ≤ q) × In codes p c r)
  pub all : p.count < 276 → (c : ℕ) → c < n → (q : ℕ) × ((q < p.count) × (c < get_or p.end q 0))

-- whatever codes these are the pairs of, the starts meet none of the first r
abbrev pub NoneMet : Pairs → List ℕ → ℕ → Type 0
NoneMet p ts r =
    (codes : List ℕ) (n : ℕ) → Paired codes p n → Unmet codes ts r × (r ≤ n)
