-- Batch file: the format as 01 and 02 describe it, with no word of how a file is read. A file keeps the format when it is the text of a
-- batch within the limits.
use Rattle.std.specs.Prelude.{ℕ, ◌-◌, ◌≤◌, ◌<◌, ◌≡◌, Bool, ◌&&◌, ◌⊎◌, ◌≢◌, length, get_or, ℤ, pos, negsuc, ◌≤ℤ◌}
use mathlib.Core.List.{List, [], ◌∷◌, ◌++◌, Memᴰ, map}
use Rattle.model.specs.declared.Delay.{Delay}
use Rattle.model.specs.declared.Job.{Job}
use Rattle.model.specs.declared.Batch.{Batch}
use Rattle.model.specs.Common.{count, joined, pad, is_empty}
use Rattle.model.specs.Limits.{most_jobs, most_delays, most_ticks, most_weight, most_clashes}
use Rattle.model.specs.Batch.{blank_job, blank_delay, job_of, ticks, mask, delays_of}
use Rattle.model.specs.Plan.{KeepsDelays, KeepsEnds}
use Rattle.model.specs.Clash.{clashes}
use Rattle.model.specs.Line.{line, two}
use Rattle.model.specs.Window.{WindowLine, window_text, window_lines, windows_of, WithinWindows}
use Rattle.model.specs.Rest.{RestLine, rest_text, rest_lines, rests_of, WithinRests}

-- ---- the text of a batch

-- a weight in two's complement: below 0 it is w + 65,536
unfoldable pub unsigned : ℤ → ℕ
unsigned (pos k) = k
unsigned (negsuc k) = 65535 - k

unfoldable pub header_line : ℕ → ℕ → ℕ → List ℕ
header_line edition n m = line (0xA0 ∷ edition ∷ n ∷ m ∷ [])

-- the p masks of a job
unfoldable pub masks_of : Job → List ℕ
masks_of job = map (λ a. get_or job.masks a 0) (count 0 job.ticks)

unfoldable pub job_line : Job → List ℕ
job_line job = line (0xA1 ∷ job.ticks ∷ joined two (masks_of job))

unfoldable pub delay_line : Delay → List ℕ
delay_line q = line (0xA2 ∷ q.from ∷ q.to ∷ two (unsigned q.weight))

unfoldable pub jobs_of : Batch → List Job
jobs_of b = map (job_of b) (count 0 b.n)

-- the further lines (02, Q-4 and Q-5): a list for each kind, kinds rising
pub record Further : Type 0 where
  pub windows : List WindowLine
  pub rests : List RestLine

unfoldable pub further_of : Batch → Further
further_of b = record { windows = window_lines b; rests = rest_lines b }

unfoldable pub further_text : Further → List ℕ
further_text f = joined window_text f.windows ++ joined rest_text f.rests

unfoldable pub batch_file : Batch → List ℕ
batch_file b =
    header_line b.edition b.n b.m ++ (joined job_line (jobs_of b) ++ (joined delay_line (delays_of b) ++ further_text (further_of b)))

-- ---- the limits

-- no further lines, and the test for it
unfoldable pub no_further : Further
no_further = record { windows = []; rests = [] }

unfoldable pub has_none : Further → Bool
has_none f = is_empty f.windows && is_empty f.rests

-- edition 01, which has no further lines, or 02
unfoldable pub Edition : Batch → Type 0
Edition b = ((b.edition ≡ 1) × (further_of b ≡ no_further)) ⊎ (b.edition ≡ 2)

-- the batch keeps 01's limits and those of its further lines, and a mask is two bytes
pub record Within (b : Batch) : Type 0 where
  pub edition_known : Edition b
  pub jobs : (1 ≤ b.n) × (b.n ≤ most_jobs)
  pub delays : b.m ≤ most_delays
  pub ticks_each : (i : ℕ) → i < b.n → (1 ≤ ticks b i) × (ticks b i ≤ most_ticks)
  pub masks_each : (i a : ℕ) → i < b.n → a < ticks b i → mask b i a < 65536
  pub jobs_each : (q : Delay) → Memᴰ q (delays_of b) → (q.from < b.n) × (q.to < b.n) × (q.from ≢ q.to)
  pub weight_each : (q : Delay) → Memᴰ q (delays_of b) → (negsuc (most_weight - 1) ≤ℤ q.weight) × (q.weight ≤ℤ pos most_weight)
  pub windows : WithinWindows b
  pub rests : WithinRests b

-- ---- the batch that a file yields has its unused places blank

unfoldable pub pad_job : Job → Job
pad_job job = record { ticks = job.ticks; masks = pad most_ticks 0 (masks_of job) }

unfoldable pub batch_of : ℕ → List Job → List Delay → Further → Batch
batch_of edition jobs delays further =
    record {
      n = length jobs;
      m = length delays;
      edition = edition;
      jobs = pad most_jobs blank_job jobs;
      delays = pad most_delays blank_delay delays;
      windows = windows_of further.windows;
      rests = rests_of further.rests;
    }

unfoldable pub blanked : Batch → Batch
blanked b = batch_of b.edition (map pad_job (jobs_of b)) (delays_of b) (further_of b)

-- ---- what a file must be to be opened, and the batch that it then yields

pub record BatchFile (file : List ℕ) (b : Batch) : Type 0 where
  pub within : Within b
  pub text : file ≡ batch_file b
  pub blank : b ≡ blanked b
  pub few : length (clashes b) ≤ most_clashes
  pub starts : List ℕ
  pub starts_each : length starts ≡ b.n
  pub starts_keep : KeepsDelays b starts × KeepsEnds b starts
