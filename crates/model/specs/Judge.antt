-- Judging a plan text beside its batch file (02, Q-1). First what a plan text is and when it is right, with no word of how it is read; then the reading, with
-- refusals 17, 18 and 19 in turn.
use Rattle.std.specs.Prelude.{ℕ, ◌+◌, ◌*◌, ◌<◌, ◌≡◌, Bool, ◌&&◌, not, length, eqb}
use mathlib.Core.List.{List, ◌∷◌, ◌++◌, Memᴰ, map}
use Rattle.std.proofs.Math.IntN.{sub_ℕ}
use Rattle.std.specs.Int.Signed.{le_z}
use Rattle.std.specs.Prelude.{Some}
use Rattle.model.specs.declared.Batch.{Batch}
use Rattle.model.specs.declared.Delay.{Delay}
use Rattle.std.specs.Prelude.{Ok, Err}
use Rattle.model.specs.Refusal.{named, Judgement}
use Rattle.model.specs.Common.{between, count, all, keep, joined, is_empty, is_some, Outcome, refuse, accept, ◌>>=◌, require}
use Rattle.model.specs.Batch.{delays_of, earliest, latest}
use Rattle.model.specs.Plan.{start, Valid, latency}
use Rattle.model.specs.Clash.{clashes}
use Rattle.model.specs.Starts.{same}
use Rattle.model.specs.Search.{first_met}
use Rattle.model.specs.Line.{at, wide, frame_is, line, two, four}
use Rattle.model.specs.Open.{read_one, read_all, open_file}
use Rattle.model.specs.Text.{plan_lines}

-- ---- a right plan text for a batch: that of a valid plan, with its latency and some total. These fit their bytes, and so do the starts, none of which passes
-- the latency

pub record RightText (b : Batch) (text : List ℕ) : Type 0 where
  pub starts : List ℕ
  pub total : ℕ
  pub valid : Valid b starts
  pub latency_fits : latency b starts < 65536
  pub total_fits : total < 4294967296
  pub is : text ≡ plan_lines (Some (latency b starts)) b.n starts total

-- ---- any plan text, right or not: what it claims

pub record Claim : Type 0 where
  pub n : ℕ
  pub latency : ℕ
  pub total : ℕ
  pub lines : List (ℕ × ℕ)

unfoldable pub jobs_in : Claim → List ℕ
jobs_in c = map (λ q. q.0) c.lines

unfoldable pub starts_in : Claim → List ℕ
starts_in c = map (λ q. q.1) c.lines

-- one B0 line with 01, and then only B1 lines
unfoldable pub claim_text : Claim → List ℕ
claim_text c =
    line (0xB0 ∷ 0x01 ∷ c.n ∷ (two c.latency ++ four c.total)) ++ joined (λ q. line (0xB1 ∷ q.0 ∷ two q.1)) c.lines

-- of their lengths: each number fits its bytes, so that every line is two digits a byte
pub record Claims (text : List ℕ) (c : Claim) : Type 0 where
  pub is : text ≡ claim_text c
  pub n_fits : c.n < 256
  pub latency_fits : c.latency < 65536
  pub total_fits : c.total < 4294967296
  pub lines_fit : (q : ℕ × ℕ) → Memᴰ q c.lines → (q.0 < 256) × (q.1 < 65536)

-- n is the batch's, and the job lines are exactly 0 to n − 1 in order
unfoldable pub RightJobs : Batch → Claim → Type 0
RightJobs b c = (c.n ≡ b.n) × (jobs_in c ≡ count 0 b.n)

-- the starts form a valid plan, and the latency is right
unfoldable pub RightPlan : Batch → Claim → Type 0
RightPlan b c = Valid b (starts_in c) × (latency b (starts_in c) ≡ c.latency)

-- ---- reading a plan text (17)

-- the B0 line: n, latency, total
unfoldable pub claim_head : List ℕ → Outcome (ℕ × ℕ × ℕ)
claim_head f = do
  _ ← require 17 (frame_is 0xB0 9 f && eqb (at f 1) 1)
  accept (at f 2, wide f 3, wide f 5 * 65536 + wide f 7)

-- a B1 line: job, start
unfoldable pub claim_line : List ℕ → Outcome (ℕ × ℕ)
claim_line f = do
  _ ← require 17 (frame_is 0xB1 4 f)
  accept (at f 1, wide f 2)

-- as many lines as it has 0A, and nothing after them
unfoldable pub read_lines : List ℕ → Outcome (List (ℕ × ℕ))
read_lines text = do
  (lines, end) ← read_all claim_line (length (keep (λ c. eqb c 10) text)) text
  _ ← require 17 (is_empty end)
  accept lines

unfoldable pub read_claim : List ℕ → Outcome Claim
read_claim text = do
  ((n, latency, total), rest) ← read_one claim_head text
  lines ← read_lines rest
  accept (record { n = n; latency = latency; total = total; lines = lines })

-- 17 for whatever is wrong, a line that is none too
unfoldable pub as17 : {A : Type 0} → Outcome A → Outcome A
as17 (refuse k) = refuse 17
as17 (accept a) = accept a

-- ---- what it claims beside the batch (18, 19)

unfoldable pub jobs_right : Batch → Claim → Bool
jobs_right b c = eqb c.n b.n && same (jobs_in c) (count 0 b.n)

-- t_j − t_i ≥ w
unfoldable pub keeps : List ℕ → Delay → Bool
keeps ts q = le_z q.weight (sub_ℕ (start ts q.to) (start ts q.from))

-- no job starts before its earliest start or after its latest (02, Q-4)
unfoldable pub keeps_ends : Batch → List ℕ → Bool
keeps_ends b ts = all (λ i. between (earliest b i) (start ts i) (latest b i)) (count 0 b.n)

-- each delay and each end is kept, and no clash is met; model/proofs/JudgeLaws: plan_iff says that this is validity by ticks and stations
unfoldable pub valid : Batch → List ℕ → Bool
valid b ts = all (keeps ts) (delays_of b) && keeps_ends b ts && not (is_some (first_met (clashes b) ts 0))

unfoldable pub plan_right : Batch → Claim → Bool
plan_right b c = valid b (starts_in c) && eqb (latency b (starts_in c)) c.latency

-- ---- the call: after the batch's own refusals, in this order

unfoldable pub judge_text : Batch → List ℕ → Outcome (Unit {0})
judge_text b text = do
  c ← as17 (read_claim text)
  _ ← require 18 (jobs_right b c)
  require 19 (plan_right b c)

unfoldable pub judge : List ℕ → List ℕ → Outcome (Unit {0})
judge file text = do
  b ← open_file file
  judge_text b text

unfoldable pub judged_as : Outcome (Unit {0}) → Judgement
judged_as (accept u) = Ok u
judged_as (refuse k) = Err (named k)

unfoldable pub judged : List ℕ → List ℕ → Judgement
judged file text = judged_as (judge file text)
