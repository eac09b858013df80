-- Request Q-1 of the public calls: what the contracts say of the results makes them the definitions' results, of which model's laws show it. Then it is pinned:
-- an answer that meets `Judging` tells what the definition gives, and the finished plan is there to pass.
use Prim.Native.Nat.{ℕ, ◌≤◌, ◌<◌}
use mathlib.Core.Path.{◌≡◌, refl, ap, sym, ◌∙◌, subst}
use mathlib.Core.Bool.{Bool, true, false}
use mathlib.Core.Option.{some}
use mathlib.Core.List.{List}
use native.Mathlib.Omega.{arith}
use native.Mathlib.Decide.{dec_lt}
use lib.ListN.{length, take, drop}
use lib.Seq.{take_at}
use Rattle.model.specs.declared.Batch.{Batch}
use Rattle.model.specs.declared.Search.{Search}
use Rattle.model.specs.declared.Opened.{Opened}
use Rattle.model.specs.Refusal.{Written, Judgement, number, named}
use Rattle.model.specs.Common.{Outcome, refuse, accept}
use Rattle.model.specs.Search.{fresh_search}
use Rattle.model.specs.Format.{BatchFile}
use Rattle.model.specs.Open.{open_file, opened_as, opened}
use Rattle.model.specs.Text.{plan_lines, plan_text, written}
use Rattle.model.specs.Answers.{open_told, write_told, judge_told, best_told}
use Rattle.model.specs.Calls.{Call, after}
use Rattle.model.specs.Demands.{WritingLeaves}
use Rattle.model.specs.Judge.{RightText, Claim, Claims, RightJobs, RightPlan, read_claim, jobs_right, plan_right, judge, judged_as, judged}
use Rattle.model.proofs.BoolLaws.{apart}
use Rattle.model.proofs.OutcomeLaws.{refused, accept_eq}
use Rattle.model.proofs.RefusalLaws.{Given, given_number, open_given, judge_given, plan_text_given, open_refusals, judge_refusals}
use Rattle.model.proofs.OpenLaws.{open_format, opens, yields}
use Rattle.model.proofs.ClaimLaws.{claim_iff}
use Rattle.model.proofs.JudgeLaws.{jobs_iff, plan_iff, judge_refused, judge_form, judge_jobs, judge_plan, judge_passes, judge_right, plan_right_lem}
use Rattle.promises.specs.Judging.{Judging, Q1}
use Rattle.promises.proofs.Demands.{called_after, writing, demands}
use Rattle.promises.proofs.Pins.{called_there, every_plan_told}

-- the answer tells what the definition gives
told : (o : Outcome (Unit {0})) → ((k : ℕ) → o ≡ refuse k → Given k) → judge_told (judged_as o) ≡ o
unfolding judge_told judged_as
told (refuse k) given = ap refuse (given_number k (given k refl))
told (accept u) given = refl

told_judged : (file text : List ℕ) → judge_told (judged_as (judge file text)) ≡ judge file text
told_judged file text = told (judge file text) (λ k e. judge_given (judge_refusals file text k e))

-- a refused opening tells the number
open_told_lem : (file : List ℕ) (k : ℕ) → open_told (opened file).answer ≡ refuse k → open_file file ≡ refuse k
unfolding opened opened_as open_told
open_told_lem file k e = go (open_file file) refl e
  where
    go : (x : Outcome Batch) → open_file file ≡ x → open_told (opened_as x).answer ≡ refuse k → open_file file ≡ refuse k
    go (refuse j) h z = let y : number (named j) ≡ k = cc in h ∙ ap refuse (sym (given_number j (open_given (open_refusals file j h))) ∙ y)
    go (accept b) h z = refused (sym z)

-- ---- what is answered

judging_of : (file text : List ℕ) → Judging file (opened file) text (judged file text)
unfolding judged
judging_of file text =
    let is = told_judged file text in
    record {
      passes = (λ e. (judge_right file text).0 (sym is ∙ e), λ r. is ∙ (judge_right file text).1 r);
      first = λ k e. is ∙ judge_refused file text k (open_told_lem file k e);
      form = λ b f h. is ∙ judge_form file text b f h;
      jobs = λ b f c said h. is ∙ judge_jobs file text b f c said h;
      plan = λ b f c said j h. is ∙ judge_plan file text b f c said j h;
    }

-- ---- the finished plan

-- the bytes that were written are the text
written_bytes : (text : Outcome (List ℕ)) → ((k : ℕ) → text ≡ refuse k → Given k) → (buffer : List ℕ) (w : Written) (buffer' : List ℕ) → (w, buffer') ≡ written text buffer → (k : ℕ) → write_told w ≡ accept k
    → (x : List ℕ) × (text ≡ accept x) × (take k buffer' ≡ x)
written_bytes text given buffer w buffer' e k h = by text refl
  where
    leaves : WritingLeaves text buffer w buffer'
    leaves = writing text given buffer w buffer' e

    fitting : (x : List ℕ) → text ≡ accept x → Dec (length buffer < length x) → take k buffer' ≡ x
    fitting x is (yes long) = refused (sym (leaves.long x is long).0 ∙ h)
    fitting x is (no short) =
        let f = leaves.fits x is (omega arith) in
        ap (take k) f.1 ∙ take_at x (drop (length x) buffer) k (accept_eq (sym f.0 ∙ h))

    by : (o : Outcome (List ℕ)) → text ≡ o → (x : List ℕ) × (text ≡ accept x) × (take k buffer' ≡ x)
    by (refuse j) is = refused (sym (leaves.refused j is).0 ∙ h)
    by (accept x) is = (x, is, fitting x is (dec_lt (length buffer) (length x)))

-- ---- the request

pub q1 : Q1
unfolding judged
q1 =
    record {
      judging = λ file text o j e z. subst (λ (o : Opened). Judging file o text j) (sym e) (subst (Judging file (opened file) text) (sym z) (judging_of file text));
      finished = λ file o e yes cs s h l best buffer w buffer' m k fits j z.
          let (b, f) = (opens file).0 (ap (λ (x : Opened). open_told x.answer) (sym e) ∙ yes) in
          let fresh : o.search ≡ fresh_search b = ap (λ (x : Opened). x.search) e ∙ yields file b f in
          let at : s ≡ after (fresh_search b) cs = called_after h ∙ ap (λ (x : Search). after x cs) fresh in
          let (text, is, bytes) = written_bytes (plan_text s) (plan_text_given s) buffer w buffer' m k fits in
          let right : RightText b text = plan_right_lem file b f cs l (ap (λ (x : Search). best_told x.best) (sym at) ∙ best) text (ap plan_text (sym at) ∙ is) in
          ap judge_told (z ∙ ap (judged file) bytes) ∙ told_judged file text ∙ (judge_right file text).1 (b, f, right);
    }

-- ---- pinned

-- an answer that meets `Judging` tells what the definition gives, whichever of its facts applies
pub judging_one : (file text : List ℕ) (j : Judgement) → Judging file (opened file) text j → judge_told j ≡ judge file text
unfolding opened opened_as open_told
judging_one file text j h = by (open_file file) refl
  where
    planned : (b : Batch) (f : BatchFile file b) (c : Claim) (said : Claims text c) (jobs : RightJobs b c) (t : Bool) → plan_right b c ≡ t → judge_told j ≡ judge file text
    planned b f c said jobs true e = let right = judge_passes file text b f c said jobs ((plan_iff file b f c jobs).0 e) in h.passes.1 ((judge_right file text).0 right) ∙ sym right
    planned b f c said jobs false e = let wrong : ¬ RightPlan b c = λ r. apart (sym e ∙ (plan_iff file b f c jobs).1 r) in h.plan b f c said jobs wrong ∙ sym (judge_plan file text b f c said jobs wrong)

    named : (b : Batch) (f : BatchFile file b) (c : Claim) (said : Claims text c) (t : Bool) → jobs_right b c ≡ t → judge_told j ≡ judge file text
    named b f c said true e = planned b f c said ((jobs_iff b c).0 e) (plan_right b c) refl
    named b f c said false e = let wrong : ¬ RightJobs b c = λ r. apart (sym e ∙ (jobs_iff b c).1 r) in h.jobs b f c said wrong ∙ sym (judge_jobs file text b f c said wrong)

    read : (b : Batch) (f : BatchFile file b) (o : Outcome Claim) → read_claim text ≡ o → judge_told j ≡ judge file text
    read b f (refuse k) e = let none : (c : Claim) → ¬ Claims text c = λ c said. refused (sym e ∙ (claim_iff text c).1 said) in h.form b f none ∙ sym (judge_form file text b f none)
    read b f (accept c) e = named b f c ((claim_iff text c).0 e) (jobs_right b c) refl

    by : (o : Outcome Batch) → open_file file ≡ o → judge_told j ≡ judge file text
    by (refuse k) e = h.first k (ap (λ (o : Outcome Batch). open_told (opened_as o).answer) e ∙ ap refuse (given_number k (open_given (open_refusals file k e)))) ∙ sym (judge_refused file text k e)
    by (accept b) e = read b ((open_format file b).0 e) (read_claim text) refl

-- and what is passed is right
pub passed_right : (file : List ℕ) (o : Opened) (text : List ℕ) (j : Judgement) → Judging file o text j → judge_told j ≡ accept tt → (b : Batch) × BatchFile file b × RightText b text
passed_right file o text j h = h.passes.0

module _ (q : Q1) where
  -- for every file and text
  pub every_judging : (file text : List ℕ) → Judging file (opened file) text (judged file text)
  every_judging file text = q.judging file text (opened file) (judged file text) refl refl

  -- an ended search with a best has a plan text, which is written into every buffer that it fits, and passes
  pub every_finished :
      (file : List ℕ) (b : Batch) → BatchFile file b → (cs : List Call) → let s = after (opened file).search cs in
      s.ended ≡ true → (l : ℕ) → best_told s.best ≡ some l → let text = plan_lines s.best b.n s.starts s.total in
      (buffer : List ℕ) → length text ≤ length buffer → let x = written (plan_text s) buffer in
      (write_told x.0 ≡ accept (length text)) × (judge_told (judged file (take (length text) x.1)) ≡ accept tt)
  every_finished file b f cs ended l best buffer room =
      let s = after (opened file).search cs in
      let x = written (plan_text s) buffer in
      let told = (every_plan_told demands file b f cs ended buffer room).0 in
      (told, q.finished file (opened file) refl ((opens file).1 (b, f)) cs s (called_there (opened file).search cs) l best buffer x.0 x.1 refl _ told _ refl)
