-- What C's caller reads out of an answer's numbers. No refusal has the number 0, so 0 in the place of a refusal says that the call was answered, and
-- the kinds of a run's reply are 01's cases.
use Rattle.std.specs.Prelude.{if◌then◌else◌}
use Prim.Native.Nat.{ℕ}
use mathlib.Core.Path.{◌≡◌, refl, ap, sym, ◌∙◌, subst}
use mathlib.Core.Logic.{◌↔◌, ◌≢◌, ⊎_elim, inl, inr}
use mathlib.Core.Bool.{Bool, true, false}
use mathlib.Core.List.{List, ◌++◌}
use native.Mathlib.Omega.{arith}
use lib.Dec.{eqb}
use lib.ListN.{length, drop}
use Rattle.model.specs.declared.Batch.{Batch}
use Rattle.model.specs.Best.{Best}
use Rattle.std.specs.Prelude.{None, Some}
use Rattle.model.specs.declared.Ran.{Ran}
use Rattle.model.specs.declared.Answer.{Answer}
use Rattle.model.specs.declared.Answer.TheVariants.{Spent, Plan, NoPlan, Refused}
use Rattle.model.specs.Common.{Outcome, refuse, accept}
use Rattle.model.specs.Search.{fresh_search, nodes}
use Rattle.model.specs.Format.{BatchFile}
use Rattle.model.specs.Open.{open_file, opened_as as opened_by, opened}
use Rattle.model.specs.Run.{run_refusal, answer_of, answered, ran_as as ran_by, ran}
use Rattle.model.specs.Text.{plan_text, batch_text, fitting, written_as as written_by, written}
use Rattle.model.specs.Judge.{RightText, judge, judged_as, judged}
use Rattle.model.specs.Answers.{Verdict, spent, plan, no_plan, run_told}
use Rattle.model.proofs.OutcomeLaws.{refused, accept_eq}
use Rattle.model.proofs.RefusalLaws.{Given, given_number, open_given, run_given, judge_given, plan_given, batch_given, OpenNumber, RunNumber, PlanNumber, BatchNumber, JudgeNumber, open_refusals, run_refusals, plan_refusals, batch_refusals, judge_refusals}
use Rattle.model.proofs.OpenLaws.{open_format}
use Rattle.model.proofs.JudgeLaws.{judge_right}
use Rattle.planner_c.specs.declared.records.Record.{Record}
use Rattle.planner_c.specs.declared.replies.Reply.{Reply}
use Rattle.planner_c.specs.declared.replies.Text.{Text}
use Rattle.planner_c.specs.Records.{search_in, record_of}
use Rattle.planner_c.specs.Replies.{number_of, reply_of, text_of, judge_number}
use Rattle.planner_c.specs.Calls.{record_opened, opened_as, opened_record, record_after, ran_as, ran_record, text_as, written_text, judged_number}
use Rattle.planner_c.proofs.RecordLaws.{reached}

-- ---- opening

-- the number is 0 exactly where the file is a batch file that opens, and then the record is that of its fresh search; any other number is the refusal, 1 to
-- 10, 20 or 21, and the record is the one given
pub record OpenSays (s : Record) (file : List ℕ) (number : ℕ) (after : Record) : Type 0 where
  pub opens : (number ≡ 0) ↔ ((b : Batch) × BatchFile file b)
  pub fresh : (b : Batch) → BatchFile file b → after ≡ record_of (fresh_search b)
  pub refused : number ≢ 0 → OpenNumber number × (open_file file ≡ refuse number) × (after ≡ s)

-- no refusal of opening has the number 0
open_positive : (k : ℕ) → OpenNumber k → k ≡ 0 → ⊥
open_positive k (inl h) z = omega (arith, h.0)
open_positive k (inr h) z = omega arith

pub open_says : (s : Record) (file : List ℕ) → OpenSays s file (opened_record s file).0 (opened_record s file).1
unfolding opened_record opened_as record_opened number_of opened opened_by
open_says s file = by (open_file file) refl
  where
    by : (o : Outcome Batch) → open_file file ≡ o → OpenSays s file (opened_as s (opened_by o)).0 (opened_as s (opened_by o)).1
    by (refuse k) e =
        subst (λ n. OpenSays s file n s) (sym (given_number k (open_given (open_refusals file k e))))
        (record {
          opens = (λ z. absurd (open_positive k (open_refusals file k e) z), λ (b, f). refused (sym e ∙ (open_format file b).1 f));
          fresh = λ b f. refused (sym e ∙ (open_format file b).1 f);
          refused = λ n. (open_refusals file k e, e, refl);
        })
    by (accept b) e =
        record {
          opens = (λ z. (b, (open_format file b).0 e), λ x. refl);
          fresh = λ c f. ap (λ (c : Batch). record_of (fresh_search c)) (accept_eq (sym e ∙ (open_format file c).1 f));
          refused = λ n. absurd (n refl);
        }

-- ---- running

-- 01's answer, read out of a reply's numbers by its kind
unfoldable pub reply_told : Reply → Outcome Verdict
reply_told r =
    if eqb r.kind 0 then accept (spent r.total)
    else if eqb r.kind 1 then accept (plan r.latency r.total)
    else if eqb r.kind 2 then accept (no_plan r.total)
    else refuse r.refusal

-- a reply loses nothing of the answer
pub reply_told_lem : (a : Answer) → reply_told (reply_of a) ≡ run_told a
unfolding reply_told reply_of run_told
reply_told_lem (Spent total) = refl
reply_told_lem (Plan latency total) = refl
reply_told_lem (NoPlan total) = refl
reply_told_lem (Refused r) = refl

-- an answer that is no refusal has another kind, and 0 for a refusal
answer_kind : (e : Bool) (b : Best) (total : ℕ) → ((reply_of (answer_of e b total)).kind ≢ 3) × ((reply_of (answer_of e b total)).refusal ≡ 0)
unfolding reply_of answer_of
answer_kind false b total = (λ z. absurd (omega arith), refl)
answer_kind true None total = (λ z. absurd (omega arith), refl)
answer_kind true (Some l) total = (λ z. absurd (omega arith), refl)

-- the numbers are those of 01's answer. The kind is 3 exactly where 01's table refuses the run: then the refusal is 11 to 14, and record and list are those
-- given. Any other kind has refusal 0, and the record is that of the search reached
pub record RunSays (s : Record) (budget : ℕ) (list : List ℕ) (r : Reply) (after : Record) (list' : List ℕ) : Type 0 where
  pub told : reply_told r ≡ run_told (ran (search_in s) budget list).0.answer
  pub refuses : (r.kind ≡ 3) ↔ ((k : ℕ) × (run_refusal (search_in s) budget (length list) ≡ refuse k))
  pub refused : r.kind ≡ 3 → RunNumber r.refusal × (run_refusal (search_in s) budget (length list) ≡ refuse r.refusal) × (after ≡ s) × (list' ≡ list)
  pub answered : r.kind ≢ 3 → (r.refusal ≡ 0) × (after ≡ record_of (nodes budget (search_in s)))

pub run_says : (s : Record) (budget : ℕ) (list : List ℕ) → let x = ran_record s budget list in RunSays s budget list x.0.0 x.0.1 x.1
unfolding ran_record ran_as record_after reply_of reply_told ran ran_by answered
run_says s budget list = by (run_refusal (search_in s) budget (length list)) refl
  where
    run : Outcome (Unit {0}) → Ran × List ℕ
    run o = ran_by o (search_in s) budget list

    told : (o : Outcome (Unit {0})) → run_refusal (search_in s) budget (length list) ≡ o → reply_told (reply_of (run o).0.answer) ≡ run_told (ran (search_in s) budget list).0.answer
    told o e = reply_told_lem (run o).0.answer ∙ ap (λ (o : Outcome (Unit {0})). run_told (run o).0.answer) (sym e)

    by : (o : Outcome (Unit {0})) → run_refusal (search_in s) budget (length list) ≡ o → let x = ran_as s (run o) in RunSays s budget list x.0.0 x.0.1 x.1
    by (refuse k) e =
        let z = given_number k (run_given (run_refusals (search_in s) budget (length list) k e)) in
        subst (λ n. RunSays s budget list (record { kind = 3; refusal = n; latency = 0; total = 0 }) s list) (sym z)
        (record {
          told = ap refuse (sym z) ∙ told (refuse k) e;
          refuses = (λ z. (k, e), λ x. refl);
          refused = λ z. (run_refusals (search_in s) budget (length list) k e, e, refl, refl);
          answered = λ n. absurd (n refl);
        })
    by (accept u) e =
        let t = nodes budget (search_in s) in
        let kind = answer_kind t.ended t.best t.total in
        record {
          told = told (accept u) e;
          refuses = (λ z. absurd (kind.0 z), λ (k, f). refused (sym f ∙ e));
          refused = λ z. absurd (kind.0 z);
          answered = λ n. (kind.1, reached t.ended t.best t.total s t);
        }

-- ---- writing

-- the refusal is 0 exactly where there is a text and it fits: then the length is the text's, which fills the buffer's first bytes. Any other refusal is a
-- number that P holds of: then the length is 0, and the buffer is the one given
pub record TextSays (P : ℕ → Type 0) (text : Outcome (List ℕ)) (buffer : List ℕ) (t : Text) (buffer' : List ℕ) : Type 0 where
  pub writes : (t.refusal ≡ 0) ↔ ((x : List ℕ) × (fitting text (length buffer) ≡ accept x))
  pub bytes : (x : List ℕ) → fitting text (length buffer) ≡ accept x → (t.length ≡ length x) × (buffer' ≡ x ++ drop (length x) buffer)
  pub refused : t.refusal ≢ 0 → P t.refusal × (fitting text (length buffer) ≡ refuse t.refusal) × (t.length ≡ 0) × (buffer' ≡ buffer)

text_says :
    (P : ℕ → Type 0) → ((k : ℕ) → P k → Given k) → (text : Outcome (List ℕ)) (buffer : List ℕ) → ((k : ℕ) → fitting text (length buffer) ≡ refuse k → P k)
    → TextSays P text buffer (written_text text buffer).0 (written_text text buffer).1
unfolding written_text text_as text_of written written_by
text_says P given text buffer h = by (fitting text (length buffer)) refl
  where
    by : (o : Outcome (List ℕ)) → fitting text (length buffer) ≡ o → TextSays P text buffer (text_as (written_by o buffer)).0 (text_as (written_by o buffer)).1
    by (refuse k) e =
        let is = given k (h k e) in
        subst (λ n. TextSays P text buffer (record { length = 0; refusal = n }) buffer) (sym (given_number k is))
        (record {
          writes = (λ z. absurd (omega (arith, z, is.0)), λ (x, f). refused (sym e ∙ f));
          bytes = λ x f. refused (sym e ∙ f);
          refused = λ n. (h k e, e, refl, refl);
        })
    by (accept x) e =
        record {
          writes = (λ z. (x, e), λ y. refl);
          bytes = λ y f. let z : x ≡ y = accept_eq (sym e ∙ f) in (ap length z, ap (λ (y : List ℕ). y ++ drop (length y) buffer) z);
          refused = λ n. absurd (n refl);
        }

-- the plan text's refusals are 12, 15 and 16, the batch text's 12 and 16
pub plan_says : (s : Record) (buffer : List ℕ) → let w = written_text (plan_text (search_in s)) buffer in TextSays PlanNumber (plan_text (search_in s)) buffer w.0 w.1
plan_says s buffer = text_says PlanNumber (λ k. plan_given) (plan_text (search_in s)) buffer (plan_refusals (search_in s) (length buffer))

pub batch_says : (s : Record) (buffer : List ℕ) → let w = written_text (batch_text (search_in s)) buffer in TextSays BatchNumber (batch_text (search_in s)) buffer w.0 w.1
batch_says s buffer = text_says BatchNumber (λ k. batch_given) (batch_text (search_in s)) buffer (batch_refusals (search_in s) (length buffer))

-- ---- judging

-- the number is 0 exactly where the file opens and the text is a right plan text for its batch; any other number is the refusal, 1 to 10, 20, 21 or 17 to 19
pub record JudgeSays (file text : List ℕ) (number : ℕ) : Type 0 where
  pub passes : (number ≡ 0) ↔ ((b : Batch) × BatchFile file b × RightText b text)
  pub refused : number ≢ 0 → JudgeNumber number × (judge file text ≡ refuse number)

pub judge_says : (file text : List ℕ) → JudgeSays file text (judged_number file text)
unfolding judged_number number_of judged judged_as
judge_says file text = by (judge file text) refl
  where
    by : (o : Outcome (Unit {0})) → judge file text ≡ o → JudgeSays file text (judge_number (judged_as o))
    by (refuse k) e =
        let n = judge_refusals file text k e in
        subst (JudgeSays file text) (sym (given_number k (judge_given n)))
        (record {
          passes = (λ z. absurd (⊎_elim (λ h. open_positive k h z) (λ h. omega (arith, z, h.0)) n), λ r. refused (sym e ∙ (judge_right file text).1 r));
          refused = λ _. (n, e);
        })
    by (accept u) e = record { passes = (λ z. (judge_right file text).0 e, λ r. refl); refused = λ n. absurd (n refl) }
