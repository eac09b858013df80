-- What the demands are made of is pinned: two results that meet one of these statements for the same inputs are equal, as far as it speaks of them, and what a
-- statement says beside its result is read out of it once. Where one is written weaker, its law here fails. promises/proofs/Pins does the same for the demands.
use Prim.Native.Nat.{ℕ, ◌≤◌, ◌<◌, min}
use mathlib.Core.Path.{◌≡◌, refl, ap, sym, ◌∙◌}
use mathlib.Core.List.{List, ◌++◌}
use native.Mathlib.Omega.{arith}
use native.Mathlib.Decide.{dec_le}
use lib.ListN.{length, take, drop, length-take}
use Rattle.model.specs.declared.Batch.{Batch}
use Rattle.model.specs.declared.Search.{Search}
use Rattle.std.specs.Prelude.{Result, Ok, Err}
use Rattle.model.specs.declared.refusal.Refusal.{Refusal}
use Rattle.model.specs.Refusal.{named, Written}
use Rattle.model.proofs.NamedLaws.{named_number}
use Rattle.model.specs.declared.Opened.{Opened}
use Rattle.model.specs.declared.Answer.{Answer}
use Rattle.model.specs.declared.Answer.TheVariants.{Spent, Plan, NoPlan, Refused}
use Rattle.model.specs.declared.Ran.{Ran}
use Rattle.model.specs.Common.{Outcome, refuse, accept}
use Rattle.model.specs.Plan.{Valid, Shortest, latency}
use Rattle.model.specs.Format.{BatchFile}
use Rattle.model.specs.Open.{open_file}
use Rattle.model.specs.Sound.{sound}
use Rattle.model.specs.Run.{run_refusal}
use Rattle.model.specs.Answers.{Verdict, spent, plan, no_plan, run_told, total_told, verdict_of, open_told, write_told, best_told}
use Rattle.model.specs.Demands.{OpeningLeaves, RunLeaves, WritingLeaves, PlanWith, Reached, AnswerFor}
use Rattle.model.proofs.OutcomeLaws.{accept_eq}
use Rattle.model.proofs.OpenLaws.{open_format}

-- ---- 01's number and values are all that an answer has

-- what can be told back is told of one answer
told_one : {A B : Type 0} (told : A → B) (back : B → A) → ((a : A) → back (told a) ≡ a) → (a c : A) → told a ≡ told c → a ≡ c
told_one told back same a c e = sym (same a) ∙ ap back e ∙ same c

pub open_one : (a c : Result (Unit {0}) Refusal) → open_told a ≡ open_told c → a ≡ c
unfolding open_told
open_one = told_one open_told back same
  where
    back : Outcome (Unit {0}) → Result (Unit {0}) Refusal
    back (accept u) = Ok u
    back (refuse k) = Err (named k)

    same : (a : Result (Unit {0}) Refusal) → back (open_told a) ≡ a
    same (Ok u) = refl
    same (Err r) = ap Err (named_number r)

pub run_one : (a c : Answer) → run_told a ≡ run_told c → a ≡ c
unfolding run_told
run_one = told_one run_told back same
  where
    back : Outcome Verdict → Answer
    back (accept (spent total)) = Spent total
    back (accept (plan latency total)) = Plan latency total
    back (accept (no_plan total)) = NoPlan total
    back (refuse k) = Refused (named k)

    same : (a : Answer) → back (run_told a) ≡ a
    same (Spent total) = refl
    same (Plan latency total) = refl
    same (NoPlan total) = refl
    same (Refused r) = ap Refused (named_number r)

pub write_one : (a c : Written) → write_told a ≡ write_told c → a ≡ c
unfolding write_told
write_one = told_one write_told back same
  where
    back : Outcome ℕ → Written
    back (accept count) = Ok count
    back (refuse k) = Err (named k)

    same : (a : Written) → back (write_told a) ≡ a
    same (Ok count) = refl
    same (Err r) = ap Err (named_number r)

-- ---- demand 1: what each call leaves

pub opening_pinned : (file : List ℕ) (o o' : Opened) → OpeningLeaves file o → OpeningLeaves file o' → o ≡ o'
opening_pinned file o o' h h' = by (open_file file) refl
  where
    whole : (told : Outcome (Unit {0})) (s : Search) → (open_told o.answer ≡ told) × (o.search ≡ s) → (open_told o'.answer ≡ told) × (o'.search ≡ s) → o ≡ o'
    whole told s (p, q) (p', q') =
        let answers = open_one o.answer o'.answer (p ∙ sym p') in
        let searches = q ∙ sym q' in
        λ i. record { answer = answers i; search = searches i }

    by : (x : Outcome Batch) → open_file file ≡ x → o ≡ o'
    by (refuse k) e = whole _ _ (h.refused k e) (h'.refused k e)
    by (accept b) e = whole _ _ (h.accepted b e) (h'.accepted b e)

pub run_pinned : (s : Search) (budget : ℕ) (list : List ℕ) (r r' : Ran) (after after' : List ℕ) → RunLeaves s budget list r after → RunLeaves s budget list r' after' → ◌≡◌ {A = Ran × List ℕ} (r, after) (r', after')
run_pinned s budget list r r' after after' h h' = by (run_refusal s budget (length list)) refl
  where
    whole : run_told r.answer ≡ run_told r'.answer → r.search ≡ r'.search → after ≡ after' → ◌≡◌ {A = Ran × List ℕ} (r, after) (r', after')
    whole told searches lists = let answers = run_one r.answer r'.answer told in λ i. (record { answer = answers i; search = searches i }, lists i)

    -- the list, by what is told
    lists : (v : Verdict) → run_told r.answer ≡ accept v → run_told r'.answer ≡ accept v → r.search ≡ r'.search → after ≡ after'
    lists (spent t) e e' q = h.spent_list t e ∙ sym (h'.spent_list t e')
    lists (no_plan t) e e' q = h.none_list t e ∙ sym (h'.none_list t e')
    lists (plan l t) e e' q = h.plan_list l t e ∙ ap (λ (x : Search). take s.batch.n x.starts ++ drop s.batch.n list) q ∙ sym (h'.plan_list l t e')

    by : (o : Outcome (Unit {0})) → run_refusal s budget (length list) ≡ o → ◌≡◌ {A = Ran × List ℕ} (r, after) (r', after')
    by (refuse k) e =
        let x = h.refused k e in
        let x' = h'.refused k e in
        whole (x.0 ∙ sym x'.0) (x.1 ∙ sym x'.1) (x.2 ∙ sym x'.2)
    by (accept u) e =
        let x = h.reached e in
        let x' = h'.reached e in
        let searches = x.0 ∙ sym x'.0 in
        let told = x.1 ∙ ap (λ (z : Search). accept (verdict_of z.ended (best_told z.best) z.total)) searches in
        whole (told ∙ sym x'.1) searches (lists _ told x'.1 searches)

-- beside the result: a run keeps the batch, and soundness
pub run_keeps : (s : Search) (budget : ℕ) (list : List ℕ) (r : Ran) (after : List ℕ) → RunLeaves s budget list r after → (r.search.batch ≡ s.batch) × (sound r.search ≡ sound s)
run_keeps s budget list r after h = (h.batch, h.sound_kept)

pub writing_pinned : (text : Outcome (List ℕ)) (buffer : List ℕ) (w w' : Written) (after after' : List ℕ) → WritingLeaves text buffer w after → WritingLeaves text buffer w' after' → ◌≡◌ {A = Written × List ℕ} (w, after) (w', after')
writing_pinned text buffer w w' after after' h h' = by text refl
  where
    whole : (told : Outcome ℕ) (left : List ℕ) → (write_told w ≡ told) × (after ≡ left) → (write_told w' ≡ told) × (after' ≡ left) → ◌≡◌ {A = Written × List ℕ} (w, after) (w', after')
    whole told left (p, q) (p', q') =
        let answers = write_one w w' (p ∙ sym p') in
        let lists = q ∙ sym q' in
        λ i. (answers i, lists i)

    by : (o : Outcome (List ℕ)) → text ≡ o → ◌≡◌ {A = Written × List ℕ} (w, after) (w', after')
    by (refuse k) e = whole _ _ (h.refused k e) (h'.refused k e)
    by (accept t) e = room (dec_le (length t) (length buffer))
      where
        room : Dec (length t ≤ length buffer) → ◌≡◌ {A = Written × List ℕ} (w, after) (w', after')
        room (yes p) = whole _ _ (h.fits t e p) (h'.fits t e p)
        room (no p) = let q : length buffer < length t = omega arith in whole _ _ (h.long t e q) (h'.long t e q)

-- ---- demand 2: a file's batch, and a list's plan

pub batch_pinned : (file : List ℕ) (b c : Batch) → BatchFile file b → BatchFile file c → b ≡ c
batch_pinned file b c f g = accept_eq (sym ((open_format file b).1 f) ∙ (open_format file c).1 g)

pub plan_pinned : (b : Batch) (list : List ℕ) (l l' : ℕ) → PlanWith b list l → PlanWith b list l' → l ≡ l'
unfolding PlanWith
plan_pinned b list l l' h h' = sym h.1 ∙ h'.1

-- it is the list's first n places that are valid
pub plan_valid : (b : Batch) (list : List ℕ) (l : ℕ) → PlanWith b list l → Valid b (take b.n list)
unfolding PlanWith
plan_valid b list l h = h.0

-- and they are n: each job has a place in the list
pub plan_placed : (b : Batch) (list : List ℕ) (l : ℕ) → PlanWith b list l → b.n ≤ length list
plan_placed b list l h = omega (arith, length-take b.n list, (plan_valid b list l h).starts)

-- ---- demand 3: the latency of a shortest plan, the record after a list of calls, and the last answer. (N is pinned by EndLaws: ends_unique.)

pub shortest_pinned : (b : Batch) (ts us : List ℕ) → Shortest b ts → Shortest b us → latency b ts ≡ latency b us
shortest_pinned b ts us h k = omega (arith, h.least us k.valid, k.least ts h.valid)

pub reached_pinned : (b : Batch) (N S : ℕ) (r r' : Search) → Reached b N S r → Reached b N S r' → r ≡ r'
reached_pinned b N S r r' h h' = h.is ∙ sym h'.is

-- the other way, a record's total tells the smaller of S and N
pub total_pinned : (b : Batch) (N S S' : ℕ) (r r' : Search) → Reached b N S r → Reached b N S' r' → r.total ≡ r'.total → min S N ≡ min S' N
total_pinned b N S S' r r' h h' e = sym h.total ∙ e ∙ h'.total

-- and that it is unfinished tells whether S is below N
pub unfinished_pinned : (b : Batch) (N S S' : ℕ) (r r' : Search) → Reached b N S r → Reached b N S' r' → r.ended ≡ r'.ended → S < N → S' < N
unfinished_pinned b N S S' r r' h h' e below = h'.unfinished.0 (sym e ∙ h.unfinished.1 below)

pub answer_pinned : (b : Batch) (N S : ℕ) (a a' : Outcome Verdict) (list list' : List ℕ) → AnswerFor b N S a list → AnswerFor b N S a' list' → a ≡ a'
unfolding total_told
answer_pinned b N S a a' list list' h h' = h.answered ∙ ap accept (by h.verdict refl) ∙ sym h'.answered
  where
    -- a verdict that is not spent has used N nodes
    above : ((t : ℕ) → ¬ (h.verdict ≡ spent t)) → N ≤ S
    above f = go (dec_le N S)
      where
        go : Dec (N ≤ S) → N ≤ S
        go (yes p) = p
        go (no p) = let x = h.is_spent.1 (omega arith) in absurd (f x.0 x.1)

    total : (v : Verdict) → h.verdict ≡ v → total_told v ≡ min S N
    total v e = ap total_told (sym e) ∙ h.total

    by : (v : Verdict) → h.verdict ≡ v → h.verdict ≡ h'.verdict
    by (spent t) e =
        let x = h'.is_spent.1 (h.is_spent.0 (t, e)) in
        let same : t ≡ x.0 = total (spent t) e ∙ sym h'.total ∙ ap total_told x.1 in
        e ∙ ap spent same ∙ sym x.1
    by (plan l t) e =
        let most = above (λ k f. let z : ◌≡◌ {A = ℕ} 0 1 = cc in omega arith) in
        let short = h.shortest l t e in
        let x = h'.is_plan most (take b.n list) short.0.valid in
        let short' = h'.shortest x.0 N x.1 in
        let same : l ≡ x.0 = sym short.1 ∙ shortest_pinned b (take b.n list) (take b.n list') short.0 short'.0 ∙ short'.1 in
        let all : t ≡ N = omega (arith, total (plan l t) e) in
        e ∙ ap (λ (k : ℕ). plan k t) same ∙ ap (plan x.0) all ∙ sym x.1
    by (no_plan t) e =
        let most = above (λ k f. let z : ◌≡◌ {A = ℕ} 0 1 = cc in omega arith) in
        let never : (ts : List ℕ) → ¬ Valid b ts = λ ts v. let x = h.is_plan most ts v in let z : ◌≡◌ {A = ℕ} 0 1 = cc x.1 in omega arith in
        let all : t ≡ N = omega (arith, total (no_plan t) e) in
        e ∙ ap no_plan all ∙ sym (h'.is_none most never)

-- the plan that is told is the list's first n places
pub answer_plan : (b : Batch) (N S l t : ℕ) (list : List ℕ) → AnswerFor b N S (accept (plan l t)) list → PlanWith b list l
unfolding PlanWith
answer_plan b N S l t list h = let short = h.shortest l t (accept_eq (sym h.answered)) in (short.0.valid, short.1)
