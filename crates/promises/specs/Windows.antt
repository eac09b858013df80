-- Request Q-4 of document 02, as statements about what the calls return; proofs/Windows proves them. As in Demands, every hypothesis of the form o ≡ opened file or
-- (r, list') ≡ ran s budget list is word for word what the contract of that call says of its result. What edition 01 meant before this
-- request is said by model/specs/First; "01" is here what that says.
use Rattle.std.specs.Prelude.{ℕ, ◌≤◌, ◌<◌, ◌≡◌, ◌↔◌, ◌≢◌, true, false, List, length, replicate, take}
use Rattle.std.proofs.Math.Option.{some}
use Rattle.model.specs.declared.Batch.{Batch}
use Rattle.model.specs.declared.Search.{Search}
use Rattle.model.specs.declared.Opened.{Opened}
use Rattle.model.specs.declared.Ran.{Ran}
use Rattle.model.specs.Common.{refuse, accept}
use Rattle.model.specs.Limits.{most_jobs, most_clashes, most_start, most_latency, no_latest}
use Rattle.model.specs.Batch.{blank_window, lined, earliest, latest}
use Rattle.model.specs.Plan.{start, KeepsDelays, KeepsEnds, latency}
use Rattle.model.specs.Clash.{clashes}
use Rattle.model.specs.Format.{BatchFile}
use Rattle.model.specs.Open.{opened_as, opened}
use Rattle.model.specs.First.{Valid01, Shortest01, nodes01, open_file01, Begins}
use Rattle.model.specs.Sound.{sound}
use Rattle.model.specs.Run.{run_refusal, ran}
use Rattle.model.specs.Answers.{plan, no_plan, run_told, open_told, best_told}
use Rattle.model.specs.Calls.{Call}
use Rattle.promises.specs.Demands.{Called}
use Rattle.promises.specs.Finish.{FileOf}

-- s is the record after a list of runs on what opening gave for a file of edition 01
pub record First (b : Batch) (s : Search) : Type 0 where
  -- no job has a line, and each has the ends 0 and 65,535, in every place of the record
  pub windows : s.batch.windows ≡ replicate most_jobs blank_window
  pub ends : (i : ℕ) → (lined s.batch i ≡ false) × (earliest s.batch i ≡ 0) × (latest s.batch i ≡ no_latest)
  -- a plan that a further run answers with is 01's shortest, with its latency; and where it answers that there is none, 01 has none
  pub plans :
      (c : Call) (r : Ran) (list' : List ℕ) → (r, list') ≡ ran s c.budget c.starts → (l t : ℕ) → run_told r.answer ≡ accept (plan l t)
      → Shortest01 b (take b.n list') × (latency b (take b.n list') ≡ l)
  pub none :
      (c : Call) (r : Ran) (list' : List ℕ) → (r, list') ≡ ran s c.budget c.starts → (t : ℕ) → run_told r.answer ≡ accept (no_plan t) → (ts : List ℕ) → ¬ Valid01 b ts

-- starts with a latency: job by job within its ends and up to 43,000, and the latency up to 43,016
pub record InEnds (b : Batch) (starts : List ℕ) (l : ℕ) : Type 0 where
  pub ends : (i : ℕ) → i < b.n → (earliest b i ≤ start starts i) × (start starts i ≤ latest b i)
  pub most : (i : ℕ) → i < b.n → start starts i ≤ most_start
  pub latency_most : l ≤ most_latency

-- the numbers that opening refuses a file with, by the edition in its header
pub record Numbers (file : List ℕ) (o : Opened) : Type 0 where
  -- 3 means neither edition
  pub three : (edition : ℕ) → edition < 256 → Begins edition file → (open_told o.answer ≡ refuse 3) ↔ ((edition ≢ 1) × (edition ≢ 2))
  -- 8 is for edition 01 only, and 20 for 02
  pub eight : open_told o.answer ≡ refuse 8 → Begins 1 file
  pub twenty : open_told o.answer ≡ refuse 20 → Begins 2 file

pub record Q4 : Type 0 where
  -- a file that does not begin with a header of edition 02 opens, or is refused, exactly as 01 says
  pub first : (file : List ℕ) (o : Opened) → o ≡ opened file → ¬ Begins 2 file → o ≡ opened_as (open_file01 file)
  -- and its search is one of 01, after every list of runs
  pub runs_first :
      (file : List ℕ) (o : Opened) → o ≡ opened file → (b : Batch) → BatchFile file b → b.edition ≡ 1 → (cs : List Call) (s : Search) → Called o.search cs s → First b s
  -- a run that is not refused goes on from any sound record of edition 01 by 01's nodes
  pub nodes_first :
      (s : Search) → sound s ≡ true → s.batch.edition ≡ 1 → (budget : ℕ) (list : List ℕ) → run_refusal s budget (length list) ≡ accept tt
      → (r : Ran) (list' : List ℕ) → (r, list') ≡ ran s budget list → r.search ≡ nodes01 budget s
  -- of either edition: best of a search opened here, after every list of runs
  pub starts :
      (file : List ℕ) (o : Opened) → o ≡ opened file → (b : Batch) → BatchFile file b → (cs : List Call) (s : Search) → Called o.search cs s
      → (l : ℕ) → best_told s.best ≡ some l → InEnds b s.starts l
  -- 10 covers delays and both ends together: a file in form with few enough clashes is refused with it exactly when no starts keep them all
  pub ten :
      (file : List ℕ) (b : Batch) → FileOf file b → length (clashes b) ≤ most_clashes → (o : Opened) → o ≡ opened file
      → (open_told o.answer ≡ refuse 10) ↔ ((ts : List ℕ) → length ts ≡ b.n → KeepsDelays b ts → KeepsEnds b ts → ⊥)
  pub numbers : (file : List ℕ) (o : Opened) → o ≡ opened file → Numbers file o
