-- Kind A3: a job's earliest and latest start (02, Q-4). Its line, its limits, the frame that is read, and its places in the record.
use Rattle.std.specs.Prelude.{ℕ, ◌≤◌, ◌<◌, ◌≡◌, Bool, true, false, ◌&&◌, List, ◌∷◌, ◌++◌, map, leb, eqb, if◌then◌else◌}
use Rattle.model.specs.declared.Window.{Window}
use Rattle.model.specs.declared.Batch.{Batch}
use Rattle.model.specs.Common.{count, keep, Outcome, accept, ◌>>=◌, require}
use Rattle.model.specs.Limits.{most_jobs, most_earliest, no_latest}
use Rattle.model.specs.Batch.{blank_window, lined, earliest, latest}
use Rattle.model.specs.Line.{at, wide, frame_is, line, two}
use Rattle.model.specs.Numbered.{rises, place_in}

-- ---- the line: A3, job, earliest, latest

pub record WindowLine : Type 0 where
  pub job : ℕ
  pub earliest : ℕ
  pub latest : ℕ

unfoldable pub window_text : WindowLine → List ℕ
window_text w = line (0xA3 ∷ w.job ∷ (two w.earliest ++ two w.latest))

-- ---- the lines of a batch: one for each job that has one, jobs rising

unfoldable pub window_line : Batch → ℕ → WindowLine
window_line b i = record { job = i; earliest = earliest b i; latest = latest b i }

unfoldable pub window_lines : Batch → List WindowLine
window_lines b = map (window_line b) (keep (lined b) (count 0 b.n))

-- ---- and the record's places for lines: a job without one has 0 and 65,535

unfoldable pub window_place : WindowLine → Window
window_place w = record { lined = 1; earliest = w.earliest; latest = w.latest }

unfoldable pub window_in : List WindowLine → ℕ → Window
window_in ws i = place_in (λ (w : WindowLine). w.job) window_place blank_window ws i

unfoldable pub windows_of : List WindowLine → List Window
windows_of ws = map (window_in ws) (count 0 most_jobs)

-- ---- the limits: earliest up to 20,000 and up to latest, which is two bytes; without a line 0 and 65,535

pub record WithinWindows (b : Batch) : Type 0 where
  pub with_line : (i : ℕ) → i < b.n → lined b i ≡ true → (earliest b i ≤ most_earliest) × (earliest b i ≤ latest b i) × (latest b i < 65536)
  pub without : (i : ℕ) → i < b.n → lined b i ≡ false → (earliest b i ≡ 0) × (latest b i ≡ no_latest)

unfoldable pub ends_ok : ℕ → ℕ → Bool
ends_ok e l = leb e most_earliest && leb e l

-- the same as a test, of every record
unfoldable pub window_ok : Batch → ℕ → Bool
window_ok b i = if lined b i then ends_ok (earliest b i) (latest b i) else eqb (earliest b i) 0 && eqb (latest b i) no_latest

-- ---- the frame, among n jobs and after other lines of the kind: refusal 2, then 20

-- below n, and above every job before it
unfoldable pub job_rises : ℕ → List WindowLine → ℕ → Bool
job_rises n before i = rises (λ (w : WindowLine). w.job) n before i

unfoldable pub window : ℕ → List WindowLine → List ℕ → Outcome WindowLine
window n before f = do
  _ ← require 2 (frame_is 0xA3 6 f)
  _ ← require 20 (job_rises n before (at f 1) && ends_ok (wide f 2) (wide f 4))
  accept (record { job = at f 1; earliest = wide f 2; latest = wide f 4 })
