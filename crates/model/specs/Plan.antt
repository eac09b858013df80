-- Plan and latency, by ticks and stations and with no word of clashes. A plan (a schedule) is the list of its starts.
use Rattle.std.specs.Prelude.{ℕ, zero, suc, ◌+◌, ◌≤◌, ◌<◌, max, Bool, ◌≡◌, get_or, length, ℤ, pos, negsuc, ◌≤ℤ◌, T, leb, eqb, if◌then◌else◌}
use mathlib.Core.List.{List, Memᴰ, map, foldr}
use Rattle.std.proofs.Math.IntN.{sub_ℕ}
use Rattle.model.specs.declared.Delay.{Delay}
use Rattle.model.specs.declared.Job.{Job}
use Rattle.model.specs.declared.Batch.{Batch}
use Rattle.model.specs.Common.{count}
use Rattle.model.specs.Limits.{stations}
use Rattle.model.specs.Batch.{job_of, ticks, mask, bit, delays_of, rest_of, earliest, latest}

-- t_i of a plan
unfoldable pub start : List ℕ → ℕ → ℕ
start ts i = get_or ts i 0

-- t_j − t_i ≥ w, for a delay from i to j
unfoldable pub Keeps : List ℕ → Delay → Type 0
Keeps ts q = q.weight ≤ℤ sub_ℕ (start ts q.to) (start ts q.from)

-- job i holds station s in tick x: in tick t_i + a it holds what its mask a says
unfoldable pub Holds : Batch → List ℕ → ℕ → ℕ → ℕ → Type 0
Holds b ts i s x = (a : ℕ) × (a < ticks b i) × (x ≡ start ts i + a) × T (bit (mask b i a) s)

-- each delay is kept
unfoldable pub KeepsDelays : Batch → List ℕ → Type 0
KeepsDelays b ts = (q : Delay) → Memᴰ q (delays_of b) → Keeps ts q

-- two ticks with x − y = z are too close at a station with rest r: they are not more than r apart (02, Q-5). Without rest they are the same tick
unfoldable pub too_close : ℕ → ℤ → Bool
too_close r (pos k) = leb k r
too_close r (negsuc k) = leb (suc k) r

-- a tick in which job i holds a station and one in which job j does are never too close
unfoldable pub Apart : Batch → List ℕ → ℕ → ℕ → Type 0
Apart b ts i j = (s x y : ℕ) → s < stations → Holds b ts i s x → Holds b ts j s y → T (too_close (rest_of b s) (sub_ℕ x y)) → ⊥

-- so it is for every two jobs; without rest, no two jobs hold one station in the same tick
unfoldable pub KeepsStations : Batch → List ℕ → Type 0
KeepsStations b ts = (i j : ℕ) → i < j → j < b.n → Apart b ts i j

-- no job starts before its earliest start or after its latest (02, Q-4)
unfoldable pub KeepsEnds : Batch → List ℕ → Type 0
KeepsEnds b ts = (i : ℕ) → i < b.n → (earliest b i ≤ start ts i) × (start ts i ≤ latest b i)

-- a plan gives each job a start, and is valid when it keeps the delays, the ends and the stations
pub record Valid (b : Batch) (ts : List ℕ) : Type 0 where
  pub starts : length ts ≡ b.n
  pub delays : KeepsDelays b ts
  pub ends : KeepsEnds b ts
  pub stations : KeepsStations b ts

-- of a job's first p ticks the number of the last non-empty one, plus 1; 0 where they hold no station
unfoldable pub stay_in : Job → ℕ → ℕ
stay_in job zero = 0
stay_in job (suc a) = if eqb (get_or job.masks a 0) 0 then stay_in job a else suc a

-- how many ticks a job stays: until its last station lets go (a processing time)
unfoldable pub stay : Job → ℕ
stay job = stay_in job job.ticks

-- t_i plus the number of job i's last non-empty tick plus 1; t_i where it holds no station (02, Q-3). A completion time
unfoldable pub finish : Batch → ℕ → ℕ → ℕ
finish b i t = t + stay (job_of b i)

-- the largest finish, 0 included (the makespan)
unfoldable pub latency : Batch → List ℕ → ℕ
latency b ts = foldr max 0 (map (λ i. finish b i (start ts i)) (count 0 b.n))

-- a valid plan, and every other valid plan has at least its latency
pub record Shortest (b : Batch) (ts : List ℕ) : Type 0 where
  pub valid : Valid b ts
  pub least : (us : List ℕ) → Valid b us → latency b ts ≤ latency b us
