-- What stood before requests Q-4 and Q-5 of 02, in the words of then: document 01, with the latency of Q-3. One edition, nothing after the delays, starts with no ends,
-- and stations with no rest. model/proofs/FirstLaws says what today's definitions make of a file of edition 01, and of every sound record of it: this, and nothing else;
-- "01" is there this file. model/proofs/RestedLaws says the same of stations and clashes wherever no station rests.
use Rattle.std.specs.Prelude.{ℕ, zero, suc, ◌+◌, ◌-◌, ◌≤◌, ◌<◌, pred, ◌≡◌, Bool, true, false, ◌&&◌, List, ◌++◌, map, length, replicate, ℤ, leb, eqb, if◌then◌else◌}
use Rattle.std.proofs.Math.Option.{Option, none, some}
use Rattle.std.proofs.Math.IntN.{sub_ℕ}
use Rattle.model.specs.declared.Delay.{Delay}
use Rattle.model.specs.declared.Batch.{Batch}
use Rattle.model.specs.declared.Search.{Search}
use Rattle.model.specs.Common.{eq_z, count, any, keep, joined, is_empty, is_some, Outcome, accept, ◌>>=◌, require}
use Rattle.model.specs.Limits.{stations, most_clashes}
use Rattle.model.specs.Batch.{ticks, mask, bit, delays_of}
use Rattle.model.specs.Plan.{Holds, KeepsDelays, latency}
use Rattle.model.specs.Clash.{Clash}
use Rattle.model.specs.Starts.{rounds, same}
use Rattle.model.specs.Search.{inequalities, visit, place_of, search_of}
use Rattle.model.specs.Line.{at, frame_is}
use Rattle.model.specs.Format.{header_line, no_further, batch_of}
use Rattle.model.specs.Open.{counts_ok, job, delay, read_one, read_all}

-- ---- plans: valid when they keep the delays and the stations

-- no two jobs hold one station in the same tick
unfoldable pub KeepsStations01 : Batch → List ℕ → Type 0
KeepsStations01 b ts = (i j s x : ℕ) → i < j → j < b.n → s < stations → Holds b ts i s x → Holds b ts j s x → ⊥

pub record Valid01 (b : Batch) (ts : List ℕ) : Type 0 where
  pub starts : length ts ≡ b.n
  pub delays : KeepsDelays b ts
  pub stations : KeepsStations01 b ts

-- a valid plan, and every other valid plan has at least its latency
pub record Shortest01 (b : Batch) (ts : List ℕ) : Type 0 where
  pub valid : Valid01 b ts
  pub least : (us : List ℕ) → Valid01 b us → latency b ts ≤ latency b us

-- ---- clashes

-- some station is in both masks
unfoldable pub meet01 : ℕ → ℕ → Bool
meet01 m m' = any (λ s. bit m s && bit m' s) (count 0 stations)

-- some station is in mask a of job i and in mask c of job j with a − c = d
unfoldable pub clashing01 : Batch → ℕ → ℕ → ℤ → Bool
clashing01 b i j d =
    any (λ a. any (λ c. eq_z (sub_ℕ a c) d && meet01 (mask b i a) (mask b j c)) (count 0 (ticks b j))) (count 0 (ticks b i))

-- −15 to 15, rising: further apart, tables of 16 ticks do not touch
unfoldable pub distances01 : List ℤ
distances01 = map (λ k. sub_ℕ k 15) (count 0 31)

unfoldable pub clashes_of01 : Batch → ℕ → ℕ → List Clash
clashes_of01 b i j = map (λ d. record { i = i; j = j; d = d }) (keep (clashing01 b i j) distances01)

-- by i, then j, then d, all rising, each once; D is their number
unfoldable pub clashes01 : Batch → List Clash
clashes01 b = joined (λ i. joined (clashes_of01 b i) (count (suc i) (b.n - suc i))) (count 0 b.n)

-- ---- least starts: after 0 rounds all starts are 0. If round n still changes something, there are none; otherwise these are the least starts

unfoldable pub first01 : ℕ → List ℕ
first01 n = replicate n 0

unfoldable pub least01 : ℕ → List Delay → Option (List ℕ)
least01 n qs =
    let last = rounds qs (first01 n) n in
    if same last (rounds qs (first01 n) (pred n)) then some last else none

-- ---- the search: its nodes with these least starts

unfoldable pub node01 : List Clash → Search → Search
node01 cs s =
    let b = s.batch in
    let p = place_of s in
    search_of b (s.total + 1) (visit cs b p (least01 b.n (inequalities cs b p.turns)))

-- nodes until ended or k are visited
unfoldable pub nodes_on01 : List Clash → ℕ → Search → Search
nodes_on01 cs zero s = s
nodes_on01 cs (suc k) s = elim s.ended [ true ↦ s | false ↦ nodes_on01 cs k (node01 cs s) ]

unfoldable pub nodes01 : ℕ → Search → Search
nodes01 k s = nodes_on01 (clashes01 s.batch) k s

-- ---- opening: in the header 3 where the edition is not 01; after the delays 8 where something is left, then 9, and 10 where the delays cannot be met

unfoldable pub few01 : Batch → Bool
few01 b = leb (length (clashes01 b)) most_clashes

unfoldable pub met01 : Batch → Bool
met01 b = is_some (least01 b.n (delays_of b))

-- the header: n and m
unfoldable pub header01 : List ℕ → Outcome (ℕ × ℕ)
header01 f = do
  _ ← require 2 (frame_is 0xA0 4 f)
  _ ← require 3 (eqb (at f 1) 1)
  _ ← require 4 (counts_ok (at f 2) (at f 3))
  accept (at f 2, at f 3)

unfoldable pub read_file01 : List ℕ → Outcome Batch
read_file01 file = do
  ((n, m), after_header) ← read_one header01 file
  (jobs, after_jobs) ← read_all job n after_header
  (delays, end) ← read_all (delay n) m after_jobs
  _ ← require 8 (is_empty end)
  accept (batch_of 1 jobs delays no_further)

unfoldable pub open_file01 : List ℕ → Outcome Batch
open_file01 file = do
  b ← read_file01 file
  _ ← require 9 (few01 b)
  _ ← require 10 (met01 b)
  accept b

-- ---- the file begins with a header of this edition, whatever its counts. Where it is 02, 01 refuses the file with 3, and there alone the two differ

unfoldable pub Begins : ℕ → List ℕ → Type 0
Begins edition file = (n : ℕ) × (m : ℕ) × (rest : List ℕ) × (n < 256) × (m < 256) × (file ≡ header_line edition n m ++ rest)
