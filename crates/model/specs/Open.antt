-- Opening a batch file: line by line, in a line 7 first and then 1 to 6 in turn; then 8 in edition 01, or the further lines of edition 02, in each 1, 2 and its
-- kind's number; then 9, 10.
use Rattle.std.specs.Prelude.{ℕ, zero, suc, ◌+◌, ◌-◌, ◌*◌, Bool, true, false, ◌&&◌, ◌||◌, not, List, [], ◌∷◌, ◌++◌, length, drop, ℤ, pos, negsuc, leb, ltb, eqb, if◌then◌else◌}
use Rattle.std.specs.Int.Signed.{le_z}
use Rattle.model.specs.declared.Delay.{Delay}
use Rattle.model.specs.declared.Job.{Job}
use Rattle.model.specs.declared.Batch.{Batch}
use Rattle.model.specs.declared.Search.{Search}
use Rattle.std.specs.Prelude.{Ok, Err}
use Rattle.model.specs.Refusal.{named}
use Rattle.model.specs.declared.Opened.{Opened}
use Rattle.model.specs.Common.{between, pad, is_empty, is_some, Outcome, refuse, accept, ◌>>=◌, require, given}
use Rattle.model.specs.Limits.{most_jobs, most_delays, most_ticks, most_weight, most_clashes}
use Rattle.model.specs.Batch.{delays_of, earliest_starts, latest_starts}
use Rattle.model.specs.Clash.{clashes}
use Rattle.model.specs.Starts.{least_starts}
use Rattle.model.specs.Search.{fresh_search}
use Rattle.model.specs.Line.{read_line, at, wide, frame_is}
use Rattle.model.specs.Window.{window}
use Rattle.model.specs.Rest.{rest}
use Rattle.model.specs.Format.{Further, no_further, batch_of}

-- ---- the limits: the edition (3), n, m and p (4), a delay's jobs (5), its weight (6), D (9), delays and ends that can be met together (10)

unfoldable pub edition_ok : ℕ → Bool
edition_ok e = eqb e 1 || eqb e 2

unfoldable pub counts_ok : ℕ → ℕ → Bool
counts_ok n m = between 1 n most_jobs && leb m most_delays

unfoldable pub ticks_ok : ℕ → Bool
ticks_ok p = between 1 p most_ticks

unfoldable pub jobs_ok : ℕ → Delay → Bool
jobs_ok n q = ltb q.from n && ltb q.to n && not (eqb q.from q.to)

unfoldable pub weight_ok : Delay → Bool
weight_ok q = le_z (negsuc (most_weight - 1)) q.weight && le_z q.weight (pos most_weight)

unfoldable pub few_clashes : Batch → Bool
few_clashes b = leb (length (clashes b)) most_clashes

-- some starts keep the delays and the ends: exactly where there are least starts (model/proofs/OpenLaws: met_starts)
unfoldable pub delays_met : Batch → Bool
delays_met b = is_some (least_starts (earliest_starts b) (latest_starts b) (delays_of b))

-- ---- the frames

-- two bytes as two's complement: from 32,768 on, v − 65,536
unfoldable pub signed : ℕ → ℤ
signed v = if ltb v 32768 then pos v else negsuc (65535 - v)

-- the header: edition, n and m
unfoldable pub header : List ℕ → Outcome (ℕ × ℕ × ℕ)
header f = do
  _ ← require 2 (frame_is 0xA0 4 f)
  _ ← require 3 (edition_ok (at f 1))
  _ ← require 4 (counts_ok (at f 2) (at f 3))
  accept (at f 1, at f 2, at f 3)

-- two-byte numbers, one after the other
unfoldable pub wides : List ℕ → List ℕ
wides [] = []
wides (h ∷ []) = []
wides (h ∷ l ∷ bs) = (h * 256 + l) ∷ wides bs

unfoldable pub job_in : List ℕ → Job
job_in f = record { ticks = at f 1; masks = pad most_ticks 0 (wides (drop 2 f)) }

-- a job line without p is too short for any p
unfoldable pub job : List ℕ → Outcome Job
job f = do
  _ ← require 2 (frame_is 0xA1 (2 + 2 * at f 1) f)
  _ ← require 4 (ticks_ok (at f 1))
  accept (job_in f)

unfoldable pub delay_in : List ℕ → Delay
delay_in f = record { from = at f 1; to = at f 2; weight = signed (wide f 3) }

unfoldable pub delay : ℕ → List ℕ → Outcome Delay
delay n f = do
  _ ← require 2 (frame_is 0xA2 5 f)
  _ ← require 5 (jobs_ok n (delay_in f))
  _ ← require 6 (weight_ok (delay_in f))
  accept (delay_in f)

-- ---- lines

-- the line where a frame is due: 7 if nothing is left, 1 if it is no line
unfoldable pub due : List ℕ → Outcome (List ℕ × List ℕ)
due file = do
  _ ← require 7 (not (is_empty file))
  given 1 (read_line file)

-- one frame, and k of them one after the other, each with the rest of the file
unfoldable pub read_one : {A : Type 0} → (List ℕ → Outcome A) → List ℕ → Outcome (A × List ℕ)
read_one frame file = do
  (f, rest) ← due file
  x ← frame f
  accept (x, rest)

unfoldable pub read_all : {A : Type 0} → (List ℕ → Outcome A) → ℕ → List ℕ → Outcome (List A × List ℕ)
read_all frame zero file = accept ([], file)
read_all frame (suc k) file = do
  (x, rest) ← read_one frame file
  (xs, end) ← read_all frame k rest
  accept (x ∷ xs, end)

-- ---- further lines (02, Q-4 and Q-5)

-- as many lines as are of this kind, after those before them: 1 if what is left is no line. A line is never empty, so that k, the length of the file,
-- suffices
unfoldable pub read_kind : {A : Type 0} → ℕ → (List A → List ℕ → Outcome A) → ℕ → List A → List ℕ → Outcome (List A × List ℕ)
read_kind kind frame zero before file = accept (before, file)
read_kind kind frame (suc k) before [] = accept (before, [])
read_kind kind frame (suc k) before (c ∷ cs) = do
  (f, rest) ← given 1 (read_line (c ∷ cs))
  elim (eqb (at f 0) kind) [ true ↦ (frame before f >>= λ x. read_kind kind frame k (before ++ (x ∷ [])) rest) | false ↦ accept (before, c ∷ cs) ]

-- the file ends after the last kind: what is left is no line (1), or one of an unknown kind or of one that falls (2)
unfoldable pub nothing_left : List ℕ → Outcome (Unit {0})
nothing_left [] = accept tt
nothing_left (c ∷ cs) = do
  _ ← given 1 (read_line (c ∷ cs))
  refuse 2

-- kind after kind
unfoldable pub read_further : ℕ → List ℕ → Outcome Further
read_further n file = do
  (windows, after_windows) ← read_kind 0xA3 (window n) (length file) [] file
  (rests, end) ← read_kind 0xA4 rest (length after_windows) [] after_windows
  _ ← nothing_left end
  accept (record { windows = windows; rests = rests })

-- edition 01 has none, and nothing after its delays
unfoldable pub read_rest : ℕ → ℕ → List ℕ → Outcome Further
read_rest edition n end =
    if eqb edition 1 then (require 8 (is_empty end) >>= λ u. accept no_further) else read_further n end

-- ---- a whole file

unfoldable pub read_file : List ℕ → Outcome Batch
read_file file = do
  ((edition, n, m), after_header) ← read_one header file
  (jobs, after_jobs) ← read_all job n after_header
  (delays, end) ← read_all (delay n) m after_jobs
  further ← read_rest edition n end
  accept (batch_of edition jobs delays further)

unfoldable pub open_file : List ℕ → Outcome Batch
open_file file = do
  b ← read_file file
  _ ← require 9 (few_clashes b)
  _ ← require 10 (delays_met b)
  accept b

-- ---- the call: the fresh search of the batch; a refusal yields no record, so the one blank record stands there

unfoldable pub blank_search : Search
blank_search = fresh_search (batch_of 1 [] [] no_further)

unfoldable pub opened_as : Outcome Batch → Opened
opened_as (accept b) = record { answer = Ok tt; search = fresh_search b }
opened_as (refuse k) = record { answer = Err (named k); search = blank_search }

unfoldable pub opened : List ℕ → Opened
opened file = opened_as (open_file file)
