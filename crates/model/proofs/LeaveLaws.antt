-- What each call leaves, read off the definitions: demand 1. A refusal leaves everything; a run touches the starts list only with a plan;
-- writing touches the buffer's first bytes only.
use Prim.Native.Nat.{ℕ, zero, suc, ◌+◌, ◌≤◌}
use mathlib.Core.Path.{◌≡◌, refl, ap, sym, ◌∙◌}
use mathlib.Core.Bool.{Bool, true, false, ◌||◌}
use mathlib.Core.Logic.{◌⊎◌, inl, inr}
use mathlib.Core.List.{List, ◌++◌}
use native.Mathlib.Omega.{arith}
use lib.ListN.{length, take, drop}
use lib.Dec.{leb}
use borrow.Author.Tests.{leb-true, leb-false}
use Rattle.model.specs.declared.Batch.{Batch}
use Rattle.model.specs.Best.{Best}
use Rattle.std.specs.Prelude.{None, Some}
use Rattle.model.specs.declared.Search.{Search}
use Rattle.model.specs.declared.Answer.{Answer}
use Rattle.model.specs.Common.{Outcome, refuse, accept, ◌>>=◌, require}
use Rattle.model.specs.Clash.{Clash, clashes}
use Rattle.model.specs.Search.{node, search_of, nodes_on, nodes}
use Rattle.model.specs.Refusal.{number, named}
use Rattle.model.specs.Open.{opened_as, opened}
use Rattle.model.specs.Limits.{most_budget, most_total}
use Rattle.model.specs.Sound.{sound}
use Rattle.model.specs.Run.{run_refusal, answer_of, starts_after, answered, ran_as, ran}
use Rattle.model.specs.Answers.{spent, plan, no_plan, run_told, verdict_of, open_told, write_told, best_told}
use Rattle.model.specs.Text.{fitting, written_as, written}
use Rattle.model.specs.Demands.{OpeningLeaves, RunLeaves, WritingLeaves}
use Rattle.model.proofs.OutcomeLaws.{refused, refuse_as, accept_eq, require_accepts}
use Rattle.model.proofs.RefusalLaws.{Given, given_number, open_given, run_given, open_refusals, run_refusals}
use Rattle.model.proofs.SoundLaws.{sound_nodes}

-- ---- opening

pub opening_leaves : (file : List ℕ) → OpeningLeaves file (opened file)
unfolding opened opened_as open_told
opening_leaves file =
    record {
      refused = λ k e. (ap (λ (o : Outcome Batch). open_told (opened_as o).answer) e ∙ ap refuse (given_number k (open_given (open_refusals file k e))), ap (λ (o : Outcome Batch). (opened_as o).search) e);
      accepted = λ b e. (ap (λ (o : Outcome Batch). open_told (opened_as o).answer) e, ap (λ (o : Outcome Batch). (opened_as o).search) e);
    }

-- ---- running

-- no node changes the batch
pub nodes_batch : (cs : List Clash) (k : ℕ) (s : Search) → (nodes_on cs k s).batch ≡ s.batch
unfolding nodes_on node search_of
nodes_batch cs zero s = refl
nodes_batch cs (suc k) s = go s.ended (nodes_batch cs k (node cs s))
  where
    at : Bool → Search
    at p = elim p [ true ↦ s | false ↦ nodes_on cs k (node cs s) ]

    go : (p : Bool) → (nodes_on cs k (node cs s)).batch ≡ s.batch → (at p).batch ≡ s.batch
    go true h = refl
    go false h = h

-- an answer tells what the search says
pub answer_told : (ended : Bool) (best : Best) (total : ℕ) → run_told (answer_of ended best total) ≡ accept (verdict_of ended (best_told best) total)
unfolding answer_of run_told verdict_of best_told
answer_told false best total = refl
answer_told true None total = refl
answer_told true (Some l) total = refl

-- what an answer says of the list that it leaves
record Listed (n : ℕ) (starts list : List ℕ) (a : Answer) : Type 0 where
  spent_list : (t : ℕ) → run_told a ≡ accept (spent t) → starts_after a n starts list ≡ list
  none_list : (t : ℕ) → run_told a ≡ accept (no_plan t) → starts_after a n starts list ≡ list
  plan_list : (l t : ℕ) → run_told a ≡ accept (plan l t) → starts_after a n starts list ≡ take n starts ++ drop n list

listed : (ended : Bool) (best : Best) (total n : ℕ) (starts list : List ℕ) → Listed n starts list (answer_of ended best total)
unfolding answer_of run_told starts_after
listed false best total n starts list =
    record {
      spent_list = λ t e. refl;
      none_list = λ t e. refl;
      plan_list = λ l t e. let z : ◌≡◌ {A = ℕ} 0 1 = cc in absurd (omega arith);
    }
listed true None total n starts list =
    record {
      spent_list = λ t e. refl;
      none_list = λ t e. refl;
      plan_list = λ l t e. let z : ◌≡◌ {A = ℕ} 0 1 = cc in absurd (omega arith);
    }
listed true (Some m) total n starts list =
    record {
      spent_list = λ t e. let z : ◌≡◌ {A = ℕ} 0 1 = cc in absurd (omega arith);
      none_list = λ t e. let z : ◌≡◌ {A = ℕ} 0 1 = cc in absurd (omega arith);
      plan_list = λ l t e. refl;
    }

-- a run that is not refused continues a sound record, within its limit
pub run_sound : (s : Search) (budget len : ℕ) → run_refusal s budget len ≡ accept tt → (sound s ≡ true) × ((s.ended ≡ true) ⊎ (s.total + budget ≤ most_total))
unfolding run_refusal require
run_sound s budget len e =
    let f = require_accepts 11 (leb budget most_budget) _ tt e in
    let g = require_accepts 12 (sound s) _ tt f.1 in
    let h = require_accepts 13 (leb s.batch.n len) _ tt g.1 in
    (g.0, room s.ended refl (leb (s.total + budget) most_total) refl h.1)
  where
    room : (p : Bool) → s.ended ≡ p → (q : Bool) → leb (s.total + budget) most_total ≡ q → require 14 (p || q) ≡ accept tt → (s.ended ≡ true) ⊎ (s.total + budget ≤ most_total)
    room true e q f g = inl e
    room false e true f g = inr (leb-true (s.total + budget) most_total f)
    room false e false f g = refused g

pub running_leaves : (s : Search) (budget : ℕ) (list : List ℕ) → RunLeaves s budget list (ran s budget list).0 (ran s budget list).1
unfolding ran ran_as answered run_told nodes
running_leaves s budget list = by (run_refusal s budget (length list)) refl
  where
    by : (o : Outcome (Unit {0})) → run_refusal s budget (length list) ≡ o → RunLeaves s budget list (ran_as o s budget list).0 (ran_as o s budget list).1
    by (refuse k) e =
        record {
          refused = λ j f. (ap refuse (given_number k (run_given (run_refusals s budget (length list) k e))) ∙ refuse_as (sym e ∙ f), refl, refl);
          reached = λ f. refused (sym e ∙ f);
          batch = refl;
          sound_kept = refl;
          spent_list = λ t f. refl;
          none_list = λ t f. refl;
          plan_list = λ l t f. refused f;
        }
    by (accept u) e =
        let r = nodes budget s in
        let same : r.batch ≡ s.batch = nodes_batch (clashes s.batch) budget s in
        let l = listed r.ended r.best r.total r.batch.n r.starts list in
        let k = run_sound s budget (length list) e in
        record {
          refused = λ j f. refused (sym (sym e ∙ f));
          reached = λ f. (refl, answer_told r.ended r.best r.total);
          batch = same;
          sound_kept = sound_nodes budget s k.0 k.1 ∙ sym k.0;
          spent_list = l.spent_list;
          none_list = l.none_list;
          plan_list = λ x t f. l.plan_list x t f ∙ ap (λ (b : Batch). take b.n r.starts ++ drop b.n list) same;
        }

-- ---- writing

pub writing_leaves : (text : Outcome (List ℕ)) → ((k : ℕ) → text ≡ refuse k → Given k) → (buffer : List ℕ) → WritingLeaves text buffer (written text buffer).0 (written text buffer).1
unfolding written written_as write_told fitting ◌>>=◌ require named number
writing_leaves (refuse k) given buffer =
    record { refused = λ j e. (ap refuse (given_number k (given k refl)) ∙ refuse_as e, refl); long = λ t e h. refused e; fits = λ t e h. refused e }
writing_leaves (accept t) given buffer = by (leb (length t) (length buffer)) refl
  where
    by : (p : Bool) → leb (length t) (length buffer) ≡ p → WritingLeaves (accept t) buffer (written_as (require 16 p >>= λ x. accept t) buffer).0 (written_as (require 16 p >>= λ x. accept t) buffer).1
    by true h =
        record {
          refused = λ k e. refused (sym e);
          long = λ u e g. absurd (omega (arith, leb-true (length t) (length buffer) h, ap length (accept_eq e)));
          fits = λ u e g. let z : t ≡ u = accept_eq e in (ap (λ (x : List ℕ). accept (length x)) z, ap (λ (x : List ℕ). x ++ drop (length x) buffer) z);
        }
    by false h =
        record {
          refused = λ k e. refused (sym e);
          long = λ u e g. (refl, refl);
          fits = λ u e g. absurd (omega (arith, leb-false (length t) (length buffer) h, ap length (accept_eq e)));
        }
