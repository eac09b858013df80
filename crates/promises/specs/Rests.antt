-- Request Q-5 of document 02: the law of clashes and rests, for every batch, and what follows for the calls; proofs/Rests proves them. As in Demands, every hypothesis of
-- the form o ≡ opened file or (r, list') ≡ ran s budget list is word for word what the contract of that call says of its result. What stations and clashes
-- meant before this request is said by model/specs/First.
use Rattle.std.specs.Prelude.{ℕ, ◌+◌, ◌≤◌, ◌<◌, ◌≡◌, ◌⊎◌, ◌↔◌, ◌≢◌, true, false, length, take, ℤ, pos, negsuc, ◌≤ℤ◌}
use Rattle.std.proofs.Math.Option.{some}
use mathlib.Core.List.{List, [], ◌∷◌, Memᴰ}
use Rattle.std.proofs.Math.IntN.{sub_ℕ}
use Rattle.model.specs.declared.Job.{Job}
use Rattle.model.specs.declared.Batch.{Batch}
use Rattle.model.specs.declared.Search.{Search}
use Rattle.model.specs.declared.Opened.{Opened}
use Rattle.model.specs.declared.Ran.{Ran}
use Rattle.model.specs.Common.{refuse, accept}
use Rattle.model.specs.Limits.{most_ticks, stations, most_rest, most_distance}
use Rattle.model.specs.Batch.{ticks, rest_of}
use Rattle.model.specs.Plan.{start, Holds, KeepsDelays, KeepsEnds, KeepsStations, Valid}
use Rattle.model.specs.Clash.{clashing, clashes}
use Rattle.model.specs.Search.{nodes_on}
use Rattle.model.specs.Format.{BatchFile}
use Rattle.model.specs.Open.{opened}
use Rattle.model.specs.First.{KeepsStations01, clashing01, clashes01, Begins}
use Rattle.model.specs.Sound.{sound}
use Rattle.model.specs.Run.{run_refusal, ran}
use Rattle.model.specs.Answers.{plan, run_told, open_told, best_told}
use Rattle.model.specs.Calls.{Call}
use Rattle.promises.specs.Demands.{Called}

-- a tick in which job i holds a station and a tick in which job j holds it are more than its rest apart, at all stations
pub record Cools (b : Batch) (ts : List ℕ) (i j : ℕ) : Type 0 where
  pub each : (s x y : ℕ) → s < stations → Holds b ts i s x → Holds b ts j s y → (x + rest_of b s < y) ⊎ (y + rest_of b s < x)

-- so it is for every two different jobs
unfoldable pub AllCool : Batch → List ℕ → Type 0
AllCool b ts = (i j : ℕ) → i < b.n → j < b.n → i ≢ j → Cools b ts i j

-- no table of jobs i and j is longer than 16 ticks, and no rest than 7
pub record Small (b : Batch) (i j : ℕ) : Type 0 where
  pub first : ticks b i ≤ most_ticks
  pub second : ticks b j ≤ most_ticks
  pub rests : (s : ℕ) → s < stations → rest_of b s ≤ most_rest

-- a batch of which no station rests
pub record Today (b : Batch) : Type 0 where
  -- stations and clashes are those of before, at every distance
  pub stations : (ts : List ℕ) → KeepsStations b ts ↔ KeepsStations01 b ts
  pub distance : (i j : ℕ) (d : ℤ) → clashing b i j d ≡ clashing01 b i j d
  -- so is the list, with the same numbers
  pub list : ((i : ℕ) → i < b.n → ticks b i ≤ most_ticks) → clashes b ≡ clashes01 b

-- two jobs of 16 ticks that hold station 0 in their first and in their last tick, and its rest
unfoldable pub ends_held : Job
ends_held = record { ticks = 16; masks = 1 ∷ 0 ∷ 0 ∷ 0 ∷ 0 ∷ 0 ∷ 0 ∷ 0 ∷ 0 ∷ 0 ∷ 0 ∷ 0 ∷ 0 ∷ 0 ∷ 0 ∷ 1 ∷ [] }

unfoldable pub farthest : ℕ → Batch
farthest r = record { n = 2; m = 0; edition = 2; jobs = ends_held ∷ ends_held ∷ []; delays = []; windows = []; rests = r ∷ [] }

pub record Q5 : Type 0 where
  -- for every r and every distance: two jobs keep it at all stations exactly when their distance is no clash
  pub distance :
      (b : Batch) (ts : List ℕ) (i j : ℕ) (d : ℤ) → sub_ℕ (start ts j) (start ts i) ≡ d → Cools b ts i j ↔ (clashing b i j d ≡ false)
  -- with r = 0 as today's rule
  pub today : (b : Batch) → ((s : ℕ) → s < stations → rest_of b s ≡ 0) → Today b
  -- and a run on a sound record in which no station rests goes by the clashes of before
  pub runs_today :
      (s : Search) → sound s ≡ true → ((k : ℕ) → k < stations → rest_of s.batch k ≡ 0) → (budget : ℕ) (list : List ℕ) → run_refusal s budget (length list) ≡ accept tt
      → (r : Ran) (list' : List ℕ) → (r, list') ≡ ran s budget list → r.search ≡ nodes_on (clashes01 s.batch) budget s
  -- clashes follow this rule: the list has a distance exactly when it is a clash
  pub listed : (b : Batch) (i j : ℕ) → Small b i j → i < j → j < b.n → (d : ℤ) → Memᴰ (record { i = i; j = j; d = d }) (clashes b) ↔ (clashing b i j d ≡ true)
  -- with d from −22 to 22, which are all of them; at a rest of 8 they are not
  pub range : (b : Batch) (i j : ℕ) → Small b i j → (d : ℤ) → clashing b i j d ≡ true → (negsuc 21 ≤ℤ d) × (d ≤ℤ pos most_distance)
  pub ends_of_range : (clashing (farthest most_rest) 0 1 (negsuc 21) ≡ true) × (clashing (farthest most_rest) 0 1 (pos most_distance) ≡ true)
  pub past_range : clashing (farthest 8) 0 1 (pos 23) ≡ true
  -- validity includes it
  pub valid : (b : Batch) (ts : List ℕ) → Valid b ts ↔ ((length ts ≡ b.n) × KeepsDelays b ts × KeepsEnds b ts × AllCool b ts)
  -- so every plan of a search opened here keeps it: best after every list of runs, and a plan that a further run answers with
  pub best :
      (file : List ℕ) (o : Opened) → o ≡ opened file → (b : Batch) → BatchFile file b → (cs : List Call) (s : Search) → Called o.search cs s
      → (l : ℕ) → best_told s.best ≡ some l → AllCool b (take b.n s.starts)
  pub answer :
      (file : List ℕ) (o : Opened) → o ≡ opened file → (b : Batch) → BatchFile file b → (cs : List Call) (s : Search) → Called o.search cs s
      → (c : Call) (r : Ran) (list' : List ℕ) → (r, list') ≡ ran s c.budget c.starts → (l t : ℕ) → run_told r.answer ≡ accept (plan l t) → AllCool b (take b.n list')
  -- 21 is for edition 02 only
  pub twenty_one : (file : List ℕ) (o : Opened) → o ≡ opened file → open_told o.answer ≡ refuse 21 → Begins 2 file
