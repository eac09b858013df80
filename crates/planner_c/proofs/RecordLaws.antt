-- A record loses nothing: the record of a search stands for that search. So calls on records do what the planner's calls do on searches, one after the other.
-- And which records from elsewhere are as the planner writes them: an answered run that visits no node leaves just these as they are.
use mathlib.Core.Path.{◌≡◌, refl, ap, sym, ◌∙◌, subst}
use mathlib.Core.Logic.{◌↔◌, ◌≢◌, ◌⊎◌, inl, inr}
use mathlib.Core.Bool.{Bool, true, false, not}
use mathlib.Core.List.{List, [], ◌∷◌}
use Prim.Native.Nat.{ℕ, zero, suc, ◌≤◌}
use native.Mathlib.Omega.{arith}
use lib.Dec.{eqb}
use lib.ListN.{length}
use borrow.Author.Tests.{ne_eqb}
use Rattle.model.specs.Best.{Best}
use Rattle.std.specs.Prelude.{None, Some}
use Rattle.model.specs.declared.Search.{Search}
use Rattle.model.specs.declared.Ran.{Ran}
use Rattle.std.specs.Prelude.{Ok}
use Rattle.model.specs.Common.{Outcome, refuse, accept}
use Rattle.model.specs.Open.{opened}
use Rattle.model.specs.Calls.{Call, call, after}
use Rattle.model.specs.Search.{nodes_on, nodes}
use Rattle.model.specs.Run.{run_refusal, answer_of, starts_after, answered, ran_as as ran_by, ran}
use Rattle.planner_c.specs.declared.records.Record.{Record}
use Rattle.planner_c.specs.declared.replies.Reply.{Reply}
use Rattle.planner_c.specs.Records.{best_in, search_in, found_of, latency_of, flag_of, record_of}
use Rattle.planner_c.specs.Replies.{reply_of}
use Rattle.planner_c.specs.Calls.{record_opened, opened_as, opened_record, record_after, ran_as, ran_record, after_runs}

best_back : (b : Best) → best_in (found_of b) (latency_of b) ≡ b
unfolding best_in
best_back None = refl
best_back (Some l) = refl

ended_back : (e : Bool) → not (eqb (flag_of e) 0) ≡ e
ended_back true = refl
ended_back false = refl

-- the record of a search stands for it
pub search_back : (s : Search) → search_in (record_of s) ≡ s
unfolding search_in record_of
search_back s = λ i. record { batch = s.batch; path = s.path; best = best_back s.best i; starts = s.starts; total = s.total; ended = ended_back s.ended i }

-- a run that is not refused yields the record of the search reached
pub reached : (e : Bool) (b : Best) (k : ℕ) (s : Record) (t : Search) → record_after s (answer_of e b k) t ≡ record_of t
unfolding record_after answer_of
reached false b k s t = refl
reached true None k s t = refl
reached true (Some l) k s t = refl

-- what the planner's run yields, as C gets it
abbrev pub in_c : Ran × List ℕ → (Reply × Record) × List ℕ
in_c (r, list) = ((reply_of r.answer, record_of r.search), list)

by_cases : (o : Outcome (Unit {0})) (s : Search) (budget : ℕ) (list : List ℕ) → ran_as (record_of s) (ran_by o s budget list) ≡ in_c (ran_by o s budget list)
unfolding ran_by answered ran_as record_after
by_cases (refuse k) s budget list = refl
by_cases (accept u) s budget list =
    let t = nodes budget s in
    let a = answer_of t.ended t.best t.total in
    λ i. ((reply_of a, reached t.ended t.best t.total (record_of s) t i), starts_after a t.batch.n t.starts list)

-- a run on the record of a search is the planner's run on the search
pub run_same : (s : Search) (budget : ℕ) (list : List ℕ) → ran_record (record_of s) budget list ≡ in_c (ran s budget list)
unfolding ran_record ran
run_same s budget list =
    ap (λ (t : Search). ran_as (record_of s) (ran t budget list)) (search_back s) ∙ by_cases (run_refusal s budget (length list)) s budget list

-- a file that is opened yields the record of its fresh search
pub opened_same : (s : Record) (file : List ℕ) → (opened file).answer ≡ Ok tt → (opened_record s file).1 ≡ record_of (opened file).search
unfolding opened_record opened_as record_opened
opened_same s file e = rw e

-- a list of runs on the record of a search goes the way of the planner's list of runs on the search
pub runs_same : (s : Search) (cs : List Call) → after_runs (record_of s) cs ≡ record_of (after s cs)
unfolding after_runs after call
runs_same s [] = refl
runs_same s (c ∷ cs) =
    ap (λ (x : (Reply × Record) × List ℕ). after_runs x.0.1 cs) (run_same s c.budget c.starts) ∙ runs_same (ran s c.budget c.starts).0.search cs

-- ---- records from elsewhere: which of them are as the planner writes them

-- found and ended are 0 or 1, and without a best the latency is 0
pub record Plain (s : Record) : Type 0 where
  pub found : s.found ≤ 1
  pub ended : s.ended ≤ 1
  pub latency : s.found ≡ 0 → s.latency ≡ 0

-- every record that the planner writes is plain
record_plain : (s : Search) → Plain (record_of s)
unfolding record_of
record_plain s = record { found = (best s.best).0; ended = flag s.ended; latency = (best s.best).1 }
  where
    best : (b : Best) → (found_of b ≤ 1) × (found_of b ≡ 0 → latency_of b ≡ 0)
    best None = (omega arith, λ e. refl)
    best (Some l) = (omega arith, λ e. absurd (omega arith))

    flag : (e : Bool) → flag_of e ≤ 1
    flag true = omega arith
    flag false = omega arith

flag_kept : (e : ℕ) → e ≤ 1 → flag_of (not (eqb e 0)) ≡ e
flag_kept zero h = refl
flag_kept (suc zero) h = refl
flag_kept (suc (suc e)) h = absurd (omega arith)

best_kept : (f l : ℕ) → f ≤ 1 → (f ≡ 0 → l ≡ 0) → (found_of (best_in f l) ≡ f) × (latency_of (best_in f l) ≡ l)
unfolding best_in
best_kept zero l h e = (refl, sym (e refl))
best_kept (suc zero) l h e = (refl, refl)
best_kept (suc (suc f)) l h e = absurd (omega arith)

-- the record of the search that a record stands for is that record exactly where it is plain
pub record_back : (s : Record) → (record_of (search_in s) ≡ s) ↔ Plain s
unfolding search_in record_of
record_back s = (λ e. subst Plain e (record_plain (search_in s)), back)
  where
    back : Plain s → record_of (search_in s) ≡ s
    back p =
        let best = best_kept s.found s.latency p.found p.latency in
        λ i. record {
          total = s.total;
          latency = best.1 i;
          found = best.0 i;
          ended = flag_kept s.ended p.ended i;
          starts = s.starts;
          batch = s.batch;
          path = s.path;
        }

-- no node is visited with budget 0, nor on a search that has ended
no_node : (k : ℕ) (s : Record) → (k ≡ 0) ⊎ (s.ended ≢ 0) → nodes k (search_in s) ≡ search_in s
unfolding nodes nodes_on search_in
no_node zero s h = refl
no_node (suc k) s (inl e) = absurd (omega arith)
no_node (suc k) s (inr n) = rw (ne_eqb s.ended 0 n)

module _ (s : Record) (budget : ℕ) (list : List ℕ) (idle : (budget ≡ 0) ⊎ (s.ended ≢ 0)) (answers : run_refusal (search_in s) budget (length list) ≡ accept tt) where
  -- so a run that is answered there yields the record of the search that the record stands for
  pub idle_yields : (ran_record s budget list).0.1 ≡ record_of (search_in s)
  unfolding ran_record ran_as ran ran_by answered
  idle_yields =
      let t = nodes budget (search_in s) in
      ap (λ (o : Outcome (Unit {0})). (ran_as s (ran_by o (search_in s) budget list)).0.1) answers ∙ reached t.ended t.best t.total s t ∙ ap record_of (no_node budget s idle)

  -- which leaves a plain record as it is, and no other
  pub idle_keeps : ((ran_record s budget list).0.1 ≡ s) ↔ Plain s
  idle_keeps = (λ e. (record_back s).0 (sym idle_yields ∙ e), λ p. idle_yields ∙ (record_back s).1 p)
