-- What the demands are made of: what each call leaves, a valid plan with its latency, and what holds after a list of calls, as facts about what calls
-- returned. model/proofs/PinLaws shows for each that no two results meet it. The demands themselves are promises/specs/Demands.
use Rattle.std.specs.Prelude.{ℕ, ◌≤◌, ◌<◌, min, ◌≡◌, ◌↔◌, false, List, ◌++◌, length, take, drop}
use Rattle.model.specs.declared.Batch.{Batch}
use Rattle.model.specs.declared.Search.{Search}
use Rattle.model.specs.declared.Ran.{Ran}
use Rattle.model.specs.declared.Opened.{Opened}
use Rattle.model.specs.Refusal.{Written}
use Rattle.model.specs.Common.{Outcome, refuse, accept}
use Rattle.model.specs.Plan.{Valid, Shortest, latency}
use Rattle.model.specs.Search.{fresh_search, nodes}
use Rattle.model.specs.Open.{open_file, blank_search}
use Rattle.model.specs.Sound.{sound}
use Rattle.model.specs.Run.{run_refusal}
use Rattle.model.specs.Answers.{Verdict, spent, plan, no_plan, run_told, total_told, verdict_of, open_told, write_told, best_told}

-- ---- demand 1: what each call leaves

-- a refused opening yields the one blank record, and an accepted one a fresh search
pub record OpeningLeaves (file : List ℕ) (o : Opened) : Type 0 where
  pub refused : (k : ℕ) → open_file file ≡ refuse k → (open_told o.answer ≡ refuse k) × (o.search ≡ blank_search)
  pub accepted : (b : Batch) → open_file file ≡ accept b → (open_told o.answer ≡ accept tt) × (o.search ≡ fresh_search b)

-- a run that the table refuses leaves record and list. Otherwise the record is the one that the budget's nodes reach, and the answer is what it
-- says; the list is unchanged but for a plan, whose starts are its first n places and whose rest is unchanged. A run keeps the batch, and
-- soundness
pub record RunLeaves (s : Search) (budget : ℕ) (list : List ℕ) (r : Ran) (list' : List ℕ) : Type 0 where
  pub refused : (k : ℕ) → run_refusal s budget (length list) ≡ refuse k → (run_told r.answer ≡ refuse k) × (r.search ≡ s) × (list' ≡ list)
  pub reached :
      run_refusal s budget (length list) ≡ accept tt
      → (r.search ≡ nodes budget s) × (run_told r.answer ≡ accept (verdict_of r.search.ended (best_told r.search.best) r.search.total))
  pub batch : r.search.batch ≡ s.batch
  pub sound_kept : sound r.search ≡ sound s
  pub spent_list : (t : ℕ) → run_told r.answer ≡ accept (spent t) → list' ≡ list
  pub none_list : (t : ℕ) → run_told r.answer ≡ accept (no_plan t) → list' ≡ list
  pub plan_list : (l t : ℕ) → run_told r.answer ≡ accept (plan l t) → list' ≡ take s.batch.n r.search.starts ++ drop s.batch.n list

-- a refused text, and one longer than the buffer, leave the buffer; one that fits fills the buffer's first bytes, the answer is their number, and
-- the rest is unchanged
pub record WritingLeaves (text : Outcome (List ℕ)) (buffer : List ℕ) (w : Written) (buffer' : List ℕ) : Type 0 where
  pub refused : (k : ℕ) → text ≡ refuse k → (write_told w ≡ refuse k) × (buffer' ≡ buffer)
  pub long : (t : List ℕ) → text ≡ accept t → length buffer < length t → (write_told w ≡ refuse 16) × (buffer' ≡ buffer)
  pub fits : (t : List ℕ) → text ≡ accept t → length t ≤ length buffer → (write_told w ≡ accept (length t)) × (buffer' ≡ t ++ drop (length t) buffer)

-- ---- demand 2: a plan

-- the first n places are a valid plan with this latency
unfoldable pub PlanWith : Batch → List ℕ → ℕ → Type 0
PlanWith b list l = Valid b (take b.n list) × (latency b (take b.n list) ≡ l)

-- ---- demand 3: every list of run calls on a freshly opened search

-- the record is the one that 01's steps reach with the smaller of S and N nodes, that number is its total, and the search is
-- unfinished exactly when S is below N
pub record Reached (b : Batch) (N S : ℕ) (r : Search) : Type 0 where
  pub is : r ≡ nodes (min S N) (fresh_search b)
  pub total : r.total ≡ min S N
  pub unfinished : (r.ended ≡ false) ↔ (S < N)

-- the last call, not refused, is answered and its answer has the same total. It is spent exactly when S is below N; otherwise it is
-- a plan if a valid one exists, and no plan if none does. That plan, the first n places of the list with the latency in the answer,
-- is valid and shortest
pub record AnswerFor (b : Batch) (N S : ℕ) (answer : Outcome Verdict) (list : List ℕ) : Type 0 where
  pub verdict : Verdict
  pub answered : answer ≡ accept verdict
  pub total : total_told verdict ≡ min S N
  pub is_spent : ((t : ℕ) × (verdict ≡ spent t)) ↔ (S < N)
  pub is_plan : N ≤ S → (ts : List ℕ) → Valid b ts → (l : ℕ) × (verdict ≡ plan l N)
  pub is_none : N ≤ S → ((ts : List ℕ) → ¬ Valid b ts) → verdict ≡ no_plan N
  pub shortest : (l t : ℕ) → verdict ≡ plan l t → Shortest b (take b.n list) × (latency b (take b.n list) ≡ l)
