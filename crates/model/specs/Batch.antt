-- Batch file: the batch that the record holds, read as 01 and 02 speak of it. Edition, n jobs, job i's p masks and its ends, m delays, each
-- station's rest; places past them are never read.
use Rattle.std.specs.Prelude.{ℕ, ◌/◌, ◌%◌, ◌^◌, Bool, not, List, map, get_or, replicate, pos, eqb}
use Rattle.model.specs.declared.Delay.{Delay}
use Rattle.model.specs.declared.Job.{Job}
use Rattle.model.specs.declared.Window.{Window}
use Rattle.model.specs.declared.Batch.{Batch}
use Rattle.model.specs.Common.{count}
use Rattle.model.specs.Limits.{most_ticks, no_latest}

-- ---- unused places

unfoldable pub blank_job : Job
blank_job = record { ticks = 0; masks = replicate most_ticks 0 }

unfoldable pub blank_delay : Delay
blank_delay = record { from = 0; to = 0; weight = pos 0 }

unfoldable pub blank_window : Window
blank_window = record { lined = 0; earliest = 0; latest = no_latest }

-- ---- jobs: a job is a reservation table

unfoldable pub job_of : Batch → ℕ → Job
job_of b i = get_or b.jobs i blank_job

-- p of job i
unfoldable pub ticks : Batch → ℕ → ℕ
ticks b i = (job_of b i).ticks

-- mask a of job i
unfoldable pub mask : Batch → ℕ → ℕ → ℕ
mask b i a = get_or (job_of b i).masks a 0

-- bit s of a mask (value 2^s)
unfoldable pub bit : ℕ → ℕ → Bool
bit mask s = eqb (mask / 2 ^ s % 2) 1

-- ---- delays: one list of records (from, to, weight), in file order, repeats kept

unfoldable pub delay_of : Batch → ℕ → Delay
delay_of b k = get_or b.delays k blank_delay

unfoldable pub delays_of : Batch → List Delay
delays_of b = map (delay_of b) (count 0 b.m)

-- ---- rest: how many ticks station s rests between two jobs, 0 without a line (02, Q-5)

unfoldable pub rest_of : Batch → ℕ → ℕ
rest_of b s = get_or b.rests s 0

-- ---- ends: each job's earliest and latest start, 0 and 65,535 without a line (02, Q-4)

unfoldable pub window_of : Batch → ℕ → Window
window_of b i = get_or b.windows i blank_window

-- job i has a line
unfoldable pub lined : Batch → ℕ → Bool
lined b i = not (eqb (window_of b i).lined 0)

unfoldable pub earliest : Batch → ℕ → ℕ
earliest b i = (window_of b i).earliest

unfoldable pub latest : Batch → ℕ → ℕ
latest b i = (window_of b i).latest

-- those of the n jobs
unfoldable pub earliest_starts : Batch → List ℕ
earliest_starts b = map (earliest b) (count 0 b.n)

unfoldable pub latest_starts : Batch → List ℕ
latest_starts b = map (latest b) (count 0 b.n)
