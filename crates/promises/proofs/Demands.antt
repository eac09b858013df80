-- Demands 1, 2 and 3 of the public calls: what the contracts say of the results makes them the definitions' results, of which model's laws show the demands.
use Prim.Native.Nat.{ℕ}
use mathlib.Core.Path.{◌≡◌, refl, ap, sym, ◌∙◌, subst}
use mathlib.Core.Logic.{◌↔◌}
use mathlib.Core.Bool.{true}
use mathlib.Core.Option.{some}
use mathlib.Core.List.{List}
use Rattle.model.specs.declared.Batch.{Batch}
use Rattle.model.specs.declared.Search.{Search}
use Rattle.model.specs.declared.Opened.{Opened}
use Rattle.model.specs.declared.Ran.{Ran}
use Rattle.std.specs.Prelude.{Result, Ok, Err}
use Rattle.model.specs.declared.refusal.Refusal.{Refusal}
use Rattle.model.specs.Refusal.{number, told, Written}
use Rattle.model.specs.Common.{Outcome, refuse, accept, ◌>>=◌}
use Rattle.model.specs.Search.{search_of, fresh_search}
use Rattle.model.specs.Format.{BatchFile}
use Rattle.model.specs.Open.{opened}
use Rattle.model.specs.Run.{ran}
use Rattle.model.specs.Text.{plan_lines, plan_text, batch_text, fitting, written_as, written}
use Rattle.model.specs.Answers.{plan, run_told, open_told, write_told, best_told}
use Rattle.model.specs.Calls.{Call, call, after, granted}
use Rattle.model.specs.Demands.{OpeningLeaves, RunLeaves, WritingLeaves, PlanWith, Reached}
use Rattle.model.proofs.OutcomeLaws.{refused, refuse_as}
use Rattle.model.proofs.NamedLaws.{named_number}
use Rattle.model.proofs.EndLaws.{ends_unique}
use Rattle.model.proofs.RefusalLaws.{Given, plan_text_given, batch_text_given}
use Rattle.model.proofs.LeaveLaws.{opening_leaves, running_leaves, writing_leaves}
use Rattle.model.proofs.OpenLaws.{after_append, N, file_end, after_reached, after_refused, after_answered, written_back, best_plans, answer_plans, text_plans, opens, yields}
use Rattle.promises.specs.Demands.{Called, none, more, Demand1, Demand2, LastCall, Demand3, Demands}

-- the record after the calls is the definitions' one
pub called_after : {s t : Search} {cs : List Call} → Called s cs t → t ≡ after s cs
unfolding after call
called_after none = refl
called_after (more {t} {c} {cs} r list' e h) = called_after h ∙ ap (λ (x : Ran × List ℕ). after x.0.search cs) e

-- ---- demand 1

pub writing : (text : Outcome (List ℕ)) → ((k : ℕ) → text ≡ refuse k → Given k) → (buffer : List ℕ) (w : Written) (buffer' : List ℕ) → (w, buffer') ≡ written text buffer → WritingLeaves text buffer w buffer'
writing text given buffer w buffer' e = subst (λ (x : Written × List ℕ). WritingLeaves text buffer x.0 x.1) (sym e) (writing_leaves text given buffer)

-- of a text whose refusal is one, by its type, nothing is asked
pub writing_told : (text : Result (List ℕ) Refusal) (buffer : List ℕ) (w : Written) (buffer' : List ℕ) → (w, buffer') ≡ written (told text) buffer → WritingLeaves (told text) buffer w buffer'
unfolding told written fitting written_as write_told ◌>>=◌
writing_told (Ok t) buffer w buffer' e = writing (accept t) (λ k f. refused (sym f)) buffer w buffer' e
writing_told (Err r) buffer w buffer' e =
    subst (λ (x : Written × List ℕ). WritingLeaves (refuse (number r)) buffer x.0 x.1) (sym e)
    (record { refused = λ k f. (ap refuse (ap number (named_number r)) ∙ refuse_as f, refl); long = λ t f h. refused f; fits = λ t f h. refused f })

pub demand_1 : Demand1
demand_1 =
    record {
      opening = λ file o e. subst (OpeningLeaves file) (sym e) (opening_leaves file);
      running = λ s budget list r list' e. subst (λ (x : Ran × List ℕ). RunLeaves s budget list x.0 x.1) (sym e) (running_leaves s budget list);
      plan_writing = λ s. writing (plan_text s) (plan_text_given s);
      batch_writing = λ s. writing (batch_text s) (batch_text_given s);
    }

-- ---- demand 2

pub demand_2 : (file : List ℕ) (o : Opened) → o ≡ opened file → Demand2 file o
unfolding call
demand_2 file o e =
    record {
      opens = subst (λ (o : Opened). (open_told o.answer ≡ accept tt) ↔ ((b : Batch) × BatchFile file b)) (sym e) (opens file);
      yields = fresh;
      written_back = λ b f cs s h buffer w buffer' room m.
          (writing (batch_text s) (batch_text_given s) buffer w buffer' m).fits file (ap batch_text (at b f cs s h) ∙ written_back file b f cs) room;
      best_plans = λ b f cs s h. subst (λ (x : Search). (l : ℕ) → best_told x.best ≡ some l → PlanWith b x.starts l) (sym (at b f cs s h)) (best_plans file b f cs);
      answer_plans = λ b f cs s h c r list' m.
          let z = m ∙ ap (λ (x : Search). ran x c.budget c.starts) (at b f cs s h) in
          subst (λ (x : Ran × List ℕ). (l t : ℕ) → run_told x.0.answer ≡ accept (plan l t) → PlanWith b x.1 l) (sym z) (answer_plans file b f cs c);
      text_plans = λ b f cs s h e buffer w buffer' room m.
          (writing (plan_text s) (plan_text_given s) buffer w buffer' m).fits _ (text b f cs s h e) room;
    }
  where
    fresh : (b : Batch) → BatchFile file b → o.search ≡ fresh_search b
    fresh b f = ap (λ (x : Opened). x.search) e ∙ yields file b f

    at : (b : Batch) → BatchFile file b → (cs : List Call) (s : Search) → Called o.search cs s → s ≡ after (fresh_search b) cs
    at b f cs s h = called_after h ∙ ap (λ (x : Search). after x cs) (fresh b f)

    text : (b : Batch) → BatchFile file b → (cs : List Call) (s : Search) → Called o.search cs s → s.ended ≡ true → plan_text s ≡ accept (plan_lines s.best b.n s.starts s.total)
    text b f cs s h = subst (λ (x : Search). x.ended ≡ true → plan_text x ≡ accept (plan_lines x.best b.n x.starts x.total)) (sym (at b f cs s h)) (text_plans file b f cs)

-- ---- demand 3

of_fresh : (file : List ℕ) (b : Batch) → BatchFile file b → Demand3 (fresh_search b)
unfolding fresh_search search_of call
of_fresh file b f =
    record {
      N = N file b f;
      ends = (file_end file b f).0;
      only = λ m h. ends_unique b (N file b f) m (file_end file b f).0 h;
      bound = (file_end file b f).1;
      lists = λ cs s h.
          record {
            reached = subst (Reached b (N file b f) (granted b (N file b f) 0 cs)) (sym (called_after h)) (after_reached file b f cs);
            last = λ before c e t k r list' z.
                let is : s ≡ (call (after (fresh_search b) before) c).0.search = called_after h ∙ ap (after (fresh_search b)) e ∙ after_append (fresh_search b) before c in
                let y = z ∙ ap (λ (x : Search). ran x c.budget c.starts) (called_after k) in
                subst (λ (x : Ran × List ℕ). LastCall b (N file b f) before c s x.0 x.1) (sym y)
                (record { returned = sym is; refused = after_refused file b f before c; answered = after_answered file b f before c });
          };
    }

pub demand_3 : (file : List ℕ) (o : Opened) → o ≡ opened file → open_told o.answer ≡ accept tt → Demand3 o.search
demand_3 file o e h =
    let (b, f) = (opens file).0 (ap (λ (x : Opened). open_told x.answer) (sym e) ∙ h) in
    subst Demand3 (sym (ap (λ (x : Opened). x.search) e ∙ yields file b f)) (of_fresh file b f)

-- ---- all three

pub demands : Demands
demands = record { demand_1 = demand_1; demand_2 = demand_2; demand_3 = demand_3 }
