-- The three demands, as statements about what the calls return; proofs/Demands proves them. Every hypothesis of the form r ≡ opened file, (r, list') ≡ ran s budget list or
-- (w, buffer') ≡ written text buffer is word for word what the contract of that call (planner/src/lib.rt) says of its result and of the caller's memory.
use Rattle.std.specs.Prelude.{ℕ, ◌≤◌, ◌≡◌, ◌↔◌, true, false, List, [], ◌∷◌, ◌++◌, length, drop}
use Rattle.std.proofs.Math.Option.{some}
use Rattle.model.specs.declared.Batch.{Batch}
use Rattle.model.specs.declared.Search.{Search}
use Rattle.model.specs.declared.Opened.{Opened}
use Rattle.model.specs.declared.Ran.{Ran}
use Rattle.model.specs.Refusal.{Written}
use Rattle.model.specs.Common.{refuse, accept}
use Rattle.model.specs.Search.{fresh_search, Ends, node_limit}
use Rattle.model.specs.Format.{BatchFile}
use Rattle.model.specs.Open.{opened}
use Rattle.model.specs.Run.{ran}
use Rattle.model.specs.Text.{plan_lines, plan_text, batch_text, written}
use Rattle.model.specs.Answers.{plan, run_told, open_told, write_told, best_told}
use Rattle.model.specs.Calls.{Call, refuses, granted}
use Rattle.model.specs.Demands.{OpeningLeaves, RunLeaves, WritingLeaves, PlanWith, Reached, AnswerFor}

-- t is the record after a list of run calls on s, each call getting the record that the one before returned
pub data Called : Search → List Call → Search → Type 0 where
  none : {s : Search} → Called s [] s
  more : {s t : Search} {c : Call} {cs : List Call} (r : Ran) (list' : List ℕ) → (r, list') ≡ ran s c.budget c.starts → Called r.search cs t → Called s (c ∷ cs) t

-- ---- demand 1: what each call leaves, for every file, budget, record and buffer, refusals included

pub record Demand1 : Type 0 where
  pub opening : (file : List ℕ) (o : Opened) → o ≡ opened file → OpeningLeaves file o
  pub running : (s : Search) (budget : ℕ) (list : List ℕ) (r : Ran) (list' : List ℕ) → (r, list') ≡ ran s budget list → RunLeaves s budget list r list'
  pub plan_writing : (s : Search) (buffer : List ℕ) (w : Written) (buffer' : List ℕ) → (w, buffer') ≡ written (plan_text s) buffer → WritingLeaves (plan_text s) buffer w buffer'
  pub batch_writing : (s : Search) (buffer : List ℕ) (w : Written) (buffer' : List ℕ) → (w, buffer') ≡ written (batch_text s) buffer → WritingLeaves (batch_text s) buffer w buffer'

-- ---- demand 2: what is opened, that it is written back, and the plans of a search opened here

pub record Demand2 (file : List ℕ) (o : Opened) : Type 0 where
  -- opened if and only if it keeps the format and limits and its delays can be met; then with the fresh search of its batch
  pub opens : (open_told o.answer ≡ accept tt) ↔ ((b : Batch) × BatchFile file b)
  pub yields : (b : Batch) → BatchFile file b → o.search ≡ fresh_search b
  -- written back byte for byte, after every list of runs
  pub written_back :
      (b : Batch) → BatchFile file b → (cs : List Call) (s : Search) → Called o.search cs s
      → (buffer : List ℕ) (w : Written) (buffer' : List ℕ) → length file ≤ length buffer → (w, buffer') ≡ written (batch_text s) buffer
      → (write_told w ≡ accept (length file)) × (buffer' ≡ file ++ drop (length file) buffer)
  -- every plan of a search opened here is valid, with its latency: as best in the record, in an answer with its starts list, and in the plan text, which is
  -- that of best
  pub best_plans : (b : Batch) → BatchFile file b → (cs : List Call) (s : Search) → Called o.search cs s → (l : ℕ) → best_told s.best ≡ some l → PlanWith b s.starts l
  pub answer_plans :
      (b : Batch) → BatchFile file b → (cs : List Call) (s : Search) → Called o.search cs s
      → (c : Call) (r : Ran) (list' : List ℕ) → (r, list') ≡ ran s c.budget c.starts → (l t : ℕ) → run_told r.answer ≡ accept (plan l t) → PlanWith b list' l
  pub text_plans :
      (b : Batch) → BatchFile file b → (cs : List Call) (s : Search) → Called o.search cs s → s.ended ≡ true
      → let text = plan_lines s.best b.n s.starts s.total in
      (buffer : List ℕ) (w : Written) (buffer' : List ℕ) → length text ≤ length buffer → (w, buffer') ≡ written (plan_text s) buffer
      → (write_told w ≡ accept (length text)) × (buffer' ≡ text ++ drop (length text) buffer)

-- ---- demand 3: every list of run calls on a freshly opened search

-- the last call of a list, s being the record that the list ends in: it is the one that this call returned. The call is refused exactly when the table
-- refuses it, and otherwise answered as S and N say
pub record LastCall (b : Batch) (N : ℕ) (before : List Call) (c : Call) (s : Search) (r : Ran) (list' : List ℕ) : Type 0 where
  pub returned : r.search ≡ s
  pub refused : (refuses b N (granted b N 0 before) c ≡ true) ↔ ((k : ℕ) × (run_told r.answer ≡ refuse k))
  pub answered : refuses b N (granted b N 0 before) c ≡ false → AnswerFor b N (granted b N 0 (before ++ (c ∷ []))) (run_told r.answer) list'

-- what holds after a list of calls on the fresh record, s being the record then: record, total, unfinished; and the last call, if there is one
pub record AfterList (fresh : Search) (N : ℕ) (cs : List Call) (s : Search) : Type 0 where
  pub reached : Reached fresh.batch N (granted fresh.batch N 0 cs) s
  pub last :
      (before : List Call) (c : Call) → cs ≡ before ++ (c ∷ []) → (t : Search) → Called fresh before t
      → (r : Ran) (list' : List ℕ) → (r, list') ≡ ran t c.budget c.starts → LastCall fresh.batch N before c s r list'

-- of the fresh record that an accepted opening yields
pub record Demand3 (fresh : Search) : Type 0 where
  pub N : ℕ
  pub ends : Ends fresh.batch N
  pub only : (M : ℕ) → Ends fresh.batch M → M ≡ N
  pub bound : N ≤ node_limit fresh.batch
  -- every list, the empty one too
  pub lists : (cs : List Call) (s : Search) → Called fresh cs s → AfterList fresh N cs s

-- ---- all three: for every file, whatever is opened

pub record Demands : Type 0 where
  pub demand_1 : Demand1
  pub demand_2 : (file : List ℕ) (o : Opened) → o ≡ opened file → Demand2 file o
  pub demand_3 : (file : List ℕ) (o : Opened) → o ≡ opened file → open_told o.answer ≡ accept tt → Demand3 o.search
