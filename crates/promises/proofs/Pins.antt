-- The demands are pinned, as model/proofs/PinLaws pins what they are made of. Two results that meet a statement for the same inputs are equal as far as it
-- speaks of them; and the demands ask nothing of a call but that it was made: put to what the calls return, they hold for every file, record, budget, buffer
-- and list of calls. A statement that holds of fewer, or says less, fails here.
use Prim.Native.Nat.{ℕ, ◌≤◌}
use mathlib.Core.Path.{◌≡◌, refl, ap, sym, ◌∙◌}
use mathlib.Core.Logic.{◌↔◌}
use mathlib.Core.Bool.{true, false}
use mathlib.Core.Option.{some}
use mathlib.Core.List.{List, [], ◌∷◌, ◌++◌, append-nil}
use native.Mathlib.Omega.{arith}
use lib.ListN.{length, drop, drop_of_length-le}
use Rattle.model.specs.declared.Batch.{Batch}
use Rattle.model.specs.declared.Search.{Search}
use Rattle.model.specs.declared.Opened.{Opened}
use Rattle.model.specs.declared.Ran.{Ran}
use Rattle.model.specs.Refusal.{Written}
use Rattle.model.specs.Common.{refuse, accept}
use Rattle.model.specs.Search.{node_limit}
use Rattle.model.specs.Format.{BatchFile}
use Rattle.model.specs.Open.{opened}
use Rattle.model.specs.Run.{ran}
use Rattle.model.specs.Text.{plan_lines, plan_text, batch_text, written}
use Rattle.model.specs.Answers.{plan, run_told, open_told, write_told, best_told}
use Rattle.model.specs.Calls.{Call, call, after, refuses, granted}
use Rattle.model.specs.Demands.{OpeningLeaves, RunLeaves, WritingLeaves, PlanWith}
use Rattle.model.proofs.PinLaws.{run_one, reached_pinned, answer_pinned}
use Rattle.promises.specs.Demands.{Called, none, more, Demand2, LastCall, AfterList, Demand3, Demands}
use Rattle.promises.proofs.Demands.{called_after}

-- every list of calls has a record after it
pub called_there : (s : Search) (cs : List Call) → Called s cs (after s cs)
unfolding after call
called_there s [] = none
called_there s (c ∷ cs) = more (call s c).0 (call s c).1 refl (called_there (call s c).0.search cs)

-- and one only
pub called_pinned : {s t u : Search} {cs : List Call} → Called s cs t → Called s cs u → t ≡ u
called_pinned h k = called_after h ∙ sym (called_after k)

-- ---- demand 2

module _ (file : List ℕ) (o o' : Opened) (h : Demand2 file o) (h' : Demand2 file o') where
  -- both accept the file or neither does
  pub accepted_pinned : (open_told o.answer ≡ accept tt) ↔ (open_told o'.answer ≡ accept tt)
  accepted_pinned = (λ e. h'.opens.1 (h.opens.0 e), λ e. h.opens.1 (h'.opens.0 e))

  -- and then with one record
  pub opened_pinned : open_told o.answer ≡ accept tt → o.search ≡ o'.search
  opened_pinned e = let (b, f) = h.opens.0 e in h.yields b f ∙ sym (h'.yields b f)

-- a buffer just as long as the file then holds the file
pub file_pinned :
    (file : List ℕ) (o : Opened) → Demand2 file o → (b : Batch) → BatchFile file b → (cs : List Call) (s : Search) → Called o.search cs s
    → (buffer : List ℕ) (w : Written) (buffer' : List ℕ) → length buffer ≡ length file → (w, buffer') ≡ written (batch_text s) buffer
    → (write_told w ≡ accept (length file)) × (buffer' ≡ file)
file_pinned file o h b f cs s k buffer w buffer' e z =
    let r = h.written_back b f cs s k buffer w buffer' (omega arith) z in
    (r.0, r.1 ∙ ap (λ (rest : List ℕ). file ++ rest) (drop_of_length-le buffer {i = length file} (omega arith)) ∙ append-nil file)

-- ---- demand 3

-- one N
pub nodes_pinned : (fresh : Search) (h h' : Demand3 fresh) → h.N ≡ h'.N
nodes_pinned fresh h h' = h'.only h.N h.ends

-- one record after a list
pub list_pinned : (fresh : Search) (N : ℕ) (cs : List Call) (s s' : Search) → AfterList fresh N cs s → AfterList fresh N cs s' → s ≡ s'
list_pinned fresh N cs s s' h h' = reached_pinned fresh.batch N (granted fresh.batch N 0 cs) s s' h.reached h'.reached

-- and of a last call that the table does not refuse, one record and one answer
pub last_pinned :
    (b : Batch) (N : ℕ) (before : List Call) (c : Call) (s : Search) (r r' : Ran) (list list' : List ℕ) → LastCall b N before c s r list → LastCall b N before c s r' list'
    → refuses b N (granted b N 0 before) c ≡ false → r ≡ r'
last_pinned b N before c s r r' list list' h h' e =
    let searches = h.returned ∙ sym h'.returned in
    let answers = run_one r.answer r'.answer (answer_pinned b N _ _ _ list list' (h.answered e) (h'.answered e)) in
    λ i. record { answer = answers i; search = searches i }

-- whether it is refused is one thing too
pub refused_pinned :
    (b : Batch) (N : ℕ) (before : List Call) (c : Call) (s : Search) (r r' : Ran) (list list' : List ℕ) → LastCall b N before c s r list → LastCall b N before c s r' list'
    → ((k : ℕ) × (run_told r.answer ≡ refuse k)) ↔ ((k : ℕ) × (run_told r'.answer ≡ refuse k))
refused_pinned b N before c s r r' list list' h h' = (λ x. h'.refused.0 (h.refused.1 x), λ x. h.refused.0 (h'.refused.1 x))

-- ---- the demands hold of every call

module _ (d : Demands) where
  pub every_opening : (file : List ℕ) → OpeningLeaves file (opened file)
  every_opening file = d.demand_1.opening file (opened file) refl

  pub every_run : (s : Search) (budget : ℕ) (list : List ℕ) → let x = ran s budget list in RunLeaves s budget list x.0 x.1
  every_run s budget list = let x = ran s budget list in d.demand_1.running s budget list x.0 x.1 refl

  pub every_plan_text : (s : Search) (buffer : List ℕ) → let x = written (plan_text s) buffer in WritingLeaves (plan_text s) buffer x.0 x.1
  every_plan_text s buffer = let x = written (plan_text s) buffer in d.demand_1.plan_writing s buffer x.0 x.1 refl

  pub every_batch_text : (s : Search) (buffer : List ℕ) → let x = written (batch_text s) buffer in WritingLeaves (batch_text s) buffer x.0 x.1
  every_batch_text s buffer = let x = written (batch_text s) buffer in d.demand_1.batch_writing s buffer x.0 x.1 refl

  -- demand 2 for every file, refused ones too
  pub every_file : (file : List ℕ) → Demand2 file (opened file)
  every_file file = d.demand_2 file (opened file) refl

  -- and after every list of calls
  module _ (file : List ℕ) (b : Batch) (f : BatchFile file b) (cs : List Call) where
    abbrev s : Search
    s = after (opened file).search cs

    abbrev there : Called (opened file).search cs s
    there = called_there (opened file).search cs

    pub every_file_back : (buffer : List ℕ) → length file ≤ length buffer → let x = written (batch_text s) buffer in (write_told x.0 ≡ accept (length file)) × (x.1 ≡ file ++ drop (length file) buffer)
    every_file_back buffer room = let x = written (batch_text s) buffer in (every_file file).written_back b f cs s there buffer x.0 x.1 room refl

    pub every_best : (l : ℕ) → best_told s.best ≡ some l → PlanWith b s.starts l
    every_best = (every_file file).best_plans b f cs s there

    pub every_answer : (c : Call) (l t : ℕ) → run_told (call s c).0.answer ≡ accept (plan l t) → PlanWith b (call s c).1 l
    unfolding call
    every_answer c = let x = ran s c.budget c.starts in (every_file file).answer_plans b f cs s there c x.0 x.1 refl

    pub every_plan_told :
        s.ended ≡ true → let text = plan_lines s.best b.n s.starts s.total in
        (buffer : List ℕ) → length text ≤ length buffer → let x = written (plan_text s) buffer in (write_told x.0 ≡ accept (length text)) × (x.1 ≡ text ++ drop (length text) buffer)
    every_plan_told e buffer room = let x = written (plan_text s) buffer in (every_file file).text_plans b f cs s there e buffer x.0 x.1 room refl

  -- demand 3 for every file that is opened, and every list
  module _ (file : List ℕ) (e : open_told (opened file).answer ≡ accept tt) where
    abbrev fresh : Search
    fresh = (opened file).search

    abbrev h : Demand3 fresh
    h = d.demand_3 file (opened file) refl e

    pub every_bound : h.N ≤ node_limit fresh.batch
    every_bound = h.bound

    pub every_list : (cs : List Call) → AfterList fresh h.N cs (after fresh cs)
    every_list cs = h.lists cs (after fresh cs) (called_there fresh cs)

    pub every_last : (before : List Call) (c : Call) → let x = call (after fresh before) c in LastCall fresh.batch h.N before c (after fresh (before ++ (c ∷ []))) x.0 x.1
    unfolding call
    every_last before c =
        let t = after fresh before in
        let x = ran t c.budget c.starts in
        (every_list (before ++ (c ∷ []))).last before c refl t (called_there fresh before) x.0 x.1 refl
