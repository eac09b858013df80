-- The program's text: a plan text fits the buffer, a run goes on, ends or is refused, and each leaves its text at the buffer's front.
use Prim.Native.Nat.{ℕ, suc, ◌+◌, ◌-◌, ◌≤◌, ◌<◌}
use mathlib.Core.Path.{◌≡◌, refl, ap, ap₂, sym, ◌∙◌}
use mathlib.Core.Logic.{inl, inr}
use mathlib.Core.Bool.{Bool, true, false}
use mathlib.Core.List.{List, [], ◌∷◌, ◌++◌}
use native.Mathlib.Omega.{arith}
use lib.ListN.{length, drop, replicate}
use types.Run.{OneOf}
use denote.Enum.Declared.{tag_of}
use borrow.Author.Tests.{le-leb}
use Rattle.model.specs.declared.Batch.{Batch}
use Rattle.model.specs.Best.{Best}
use Rattle.std.specs.Prelude.{None, Some}
use Rattle.model.specs.declared.Search.{Search}
use Rattle.model.specs.declared.Ran.{Ran}
use Rattle.model.specs.declared.Opened.{Opened}
use Rattle.std.specs.Prelude.{Ok, Err}
use Rattle.model.specs.declared.refusal.Refusal.{Refusal}
use Rattle.model.specs.declared.Answer.{Answer}
use Rattle.model.specs.declared.Answer.TheVariants.{Spent, Plan, NoPlan, Refused}
use Rattle.model.specs.Refusal.{Written, number, named}
use Rattle.model.proofs.RefusalLaws.{given_number, open_given, open_refusals, plan_text_given}
use Rattle.model.specs.Common.{Outcome, refuse, accept, ◌>>=◌, require}
use Rattle.model.specs.Limits.{most_jobs, most_budget}
use Rattle.model.specs.Search.{fresh_search}
use Rattle.model.specs.Sound.{sound}
use Rattle.model.specs.Open.{open_file, opened_as, opened}
use Rattle.model.specs.Run.{ran}
use Rattle.model.specs.Answers.{run_told}
use Rattle.model.specs.Line.{digits_of, line}
use Rattle.model.specs.Text.{plan_lines, plan_text, refusal_line, fitting, written_as, written}
use Rattle.model.specs.Program.{go_on, planned, printed, text_for, at_front}
use Rattle.model.specs.contracts.Answer as A
use Rattle.model.proofs.OutcomeLaws.{refused, accept_eq}
use Rattle.lines.specs.Write.{overwritten}
use Rattle.lines.proofs.Puts.{put_front, put_digits, put_line, line_length}
use Rattle.frame_put.specs.Lines.{head_line, start_line, no_plan_line}
use Rattle.frame_put.proofs.Lengths.{no_plan_length}
use Rattle.writing.specs.Plan.{start_lines, found_lines}
use Rattle.writing.proofs.Texts.{found_length}
use Rattle.writing.proofs.Refusals.{sound_bounded, plan_unsound, plan_open, plan_ended}

-- ---- a refusal's line

module _ (buffer first second third : List ℕ) (k kind byte r : ℕ) (room : 5 ≤ length buffer) where
  pub refusal_put : (kind ≡ 0 + 2) × (first ≡ overwritten buffer 0 (digits_of (0xBF ∷ []))) → (byte ≡ kind + 2) × (second ≡ overwritten first kind (digits_of (k ∷ [])))
      → (r ≡ byte + 1) × (third ≡ overwritten second byte (10 ∷ [])) → (r, third) ≡ at_front (refusal_line k) buffer
  unfolding at_front refusal_line
  refusal_put (a, f) (b, g) (c, h) =
      let size = line_length (0xBF ∷ k ∷ []) in
      let both = put_digits buffer 0 (0xBF ∷ []) (k ∷ []) (omega arith) (omega arith) f g in
      let whole = put_line buffer 0 (0xBF ∷ k ∷ []) (omega arith) (omega arith) both h in
      ap₂ (λ (x : ℕ) (l : List ℕ). (x, l)) (omega (arith, size)) (whole ∙ put_front buffer (line (0xBF ∷ k ∷ [])))

-- ---- a plan text has at most 235 bytes

lines_room : (best : Best) (n : ℕ) (starts : List ℕ) (total : ℕ) → n ≤ 24 → length (plan_lines best n starts total) ≤ 235
unfolding plan_lines no_plan_line found_lines head_line start_lines start_line
lines_room None n starts total h = omega (arith, no_plan_length total)
lines_room (Some l) n starts total h = omega (arith, found_length n l starts total)

plan_room : (s : Search) (t : List ℕ) → plan_text s ≡ accept t → length t ≤ 235
plan_room s t e = go (sound s) s.ended refl refl
  where
    go : (p q : Bool) → sound s ≡ p → s.ended ≡ q → length t ≤ 235
    go false q h g = refused (plan_unsound s h ∙ e)
    go true false h g = refused (plan_open s h g ∙ e)
    go true true h g = omega (arith, ap length (accept_eq (plan_ended s h g ∙ e)), lines_room s.best s.batch.n s.starts s.total (sound_bounded s h).jobs)

-- ---- what writing a plan text leaves, in a buffer of at least 235 bytes

module _ (s : Search) (buffer : List ℕ) (room : 235 ≤ length buffer) where
  wrote : (o : Outcome (List ℕ)) → plan_text s ≡ o → Written × List ℕ
  wrote (accept t) e = (Ok (length t), t ++ drop (length t) buffer)
  wrote (refuse k) e = (Err (named k), buffer)

  wrote_is : (o : Outcome (List ℕ)) (e : plan_text s ≡ o) → written (plan_text s) buffer ≡ wrote o e
  unfolding written fitting written_as require ◌>>=◌ wrote
  wrote_is (accept t) e = ap (λ (o : Outcome (List ℕ)). written o buffer) e ∙ rw (le-leb (length t) (length buffer) (omega (arith, plan_room s t e)))
  wrote_is (refuse k) e = ap (λ (o : Outcome (List ℕ)). written o buffer) e

  module _ (w : Written) (buffer' : List ℕ) (h : (w, buffer') ≡ written (plan_text s) buffer) where
    told : (o : Outcome (List ℕ)) (e : plan_text s ≡ o) → (w, buffer') ≡ wrote o e
    told o e = h ∙ wrote_is o e

    -- it is written whole, and the number of its bytes is told
    text_of : (n : ℕ) → w ≡ Ok n → (o : Outcome (List ℕ)) → plan_text s ≡ o → (n, buffer') ≡ at_front (printed o) buffer
    unfolding wrote at_front printed
    text_of n b (accept t) e =
        let y : n ≡ length t = cc (sym b ∙ ap (λ (x : Written × List ℕ). x.0) (told (accept t) e)) in
        ap₂ (λ (x : ℕ) (l : List ℕ). (x, l)) y (ap (λ (x : Written × List ℕ). x.1) (told (accept t) e))
    text_of n b (refuse k) e =
        let y : ◌≡◌ {A = ℕ} 0 1 = cc (sym b ∙ ap (λ (x : Written × List ℕ). x.0) (told (refuse k) e)) in absurd (omega arith)

    pub wrote_text : (n : ℕ) → w ≡ Ok n → (n, buffer') ≡ at_front (printed (plan_text s)) buffer
    wrote_text n b = text_of n b (plan_text s) refl

    -- or it is refused, and the buffer is as it was
    refusal_of : (r : Refusal) → w ≡ Err r → (o : Outcome (List ℕ)) → plan_text s ≡ o → (printed o ≡ refusal_line (number r)) × (buffer' ≡ buffer)
    unfolding wrote printed
    refusal_of r b (accept t) e =
        let y : ◌≡◌ {A = ℕ} 0 1 = cc (sym b ∙ ap (λ (x : Written × List ℕ). x.0) (told (accept t) e)) in absurd (omega arith)
    refusal_of r b (refuse j) e =
        let y : r ≡ named j = cc (sym b ∙ ap (λ (x : Written × List ℕ). x.0) (told (refuse j) e)) in
        (ap refusal_line (sym (given_number j (plan_text_given s j e)) ∙ ap number (sym y)), ap (λ (x : Written × List ℕ). x.1) (told (refuse j) e))

    pub wrote_nothing : (r : Refusal) → w ≡ Err r → (q : ℕ) (last : List ℕ) → (q, last) ≡ at_front (refusal_line (number r)) buffer' → (q, last) ≡ at_front (printed (plan_text s)) buffer
    wrote_nothing r b q last e =
        let z = refusal_of r b (plan_text s) refl in
        e ∙ ap₂ at_front (sym z.0) z.1

-- ---- runs until one is not spent

-- an answer that is a plan or that there is none
ended_on : (a : Answer) → OneOf (1 ∷ 2 ∷ []) (tag_of A.the_type a) → (k : ℕ) (s : Search) → (run_told a >>= go_on (planned k) s) ≡ plan_text s
unfolding run_told go_on ◌>>=◌
ended_on (Spent total) (inl e) k s = absurd (omega (arith, e))
ended_on (Spent total) (inr e) k s = absurd (omega (arith, e))
ended_on (Plan latency total) one k s = refl
ended_on (NoPlan total) one k s = refl
ended_on (Refused x) (inl e) k s = absurd (omega (arith, e))
ended_on (Refused x) (inr e) k s = absurd (omega (arith, e))

module _ (k : ℕ) (s : Search) (r : Ran) (e : r ≡ (ran s most_budget (replicate most_jobs 0)).0) where
  planned_is : planned (suc k) s ≡ (run_told r.answer >>= go_on (planned k) r.search)
  unfolding planned
  planned_is = ap (λ (x : Ran). run_told x.answer >>= go_on (planned k) x.search) (sym e)

  run_spent : (total : ℕ) → r.answer ≡ Spent total → planned (suc k) s ≡ planned k r.search
  unfolding run_told go_on ◌>>=◌
  run_spent total a = planned_is ∙ rw a

  run_refused : (x : Refusal) → r.answer ≡ Refused x → planned (suc k) s ≡ refuse (number x)
  unfolding run_told go_on ◌>>=◌
  run_refused x a = planned_is ∙ rw a

  run_ended : OneOf (1 ∷ 2 ∷ []) (tag_of A.the_type r.answer) → planned (suc k) s ≡ plan_text r.search
  run_ended one = planned_is ∙ ended_on r.answer one k r.search

-- the loop: what the runs that are left give is what all of them give, and the buffer is as it was
module _ (runs : ℕ) (fresh s : Search) (left : planned (101 - runs) s ≡ planned 101 fresh) (text text₀ : List ℕ) (same : text ≡ text₀) where
  -- a text at the front of the buffer is the one that is due
  placed : (t : List ℕ) (o : Outcome (List ℕ)) → o ≡ planned 101 fresh → t ≡ printed o → (q : ℕ) (last : List ℕ) → (q, last) ≡ at_front t text → (q, last) ≡ at_front (printed (planned 101 fresh)) text₀
  placed t o e p q last h = h ∙ ap₂ at_front (p ∙ ap printed e) same

  pub no_runs : 101 ≤ runs → (q : ℕ) (last : List ℕ) → (q, last) ≡ at_front (refusal_line 14) text → (q, last) ≡ at_front (printed (planned 101 fresh)) text₀
  unfolding planned printed
  no_runs h = let z : 0 ≡ 101 - runs = omega arith in placed (refusal_line 14) (refuse 14) (ap (λ (k : ℕ). planned k s) z ∙ left) refl

  module _ (more : runs < 101) (r : Ran) (e : r ≡ (ran s most_budget (replicate most_jobs 0)).0) where
    whole : planned (suc (100 - runs)) s ≡ planned 101 fresh
    whole = let z : suc (100 - runs) ≡ 101 - runs = omega arith in ap (λ (k : ℕ). planned k s) z ∙ left

    pub goes_on : (total : ℕ) → r.answer ≡ Spent total → planned (101 - (runs + 1)) r.search ≡ planned 101 fresh
    goes_on total a =
        let z : 101 - (runs + 1) ≡ 100 - runs = omega arith in
        ap (λ (k : ℕ). planned k r.search) z ∙ sym (run_spent (100 - runs) s r e total a) ∙ whole

    pub is_refused : (x : Refusal) → r.answer ≡ Refused x → (q : ℕ) (last : List ℕ) → (q, last) ≡ at_front (refusal_line (number x)) text → (q, last) ≡ at_front (printed (planned 101 fresh)) text₀
    unfolding printed
    is_refused x a = placed (refusal_line (number x)) (refuse (number x)) (sym (run_refused (100 - runs) s r e x a) ∙ whole) refl

    pub is_ended : OneOf (1 ∷ 2 ∷ []) (tag_of A.the_type r.answer) → (q : ℕ) (last : List ℕ) → (q, last) ≡ at_front (printed (plan_text r.search)) text
        → (q, last) ≡ at_front (printed (planned 101 fresh)) text₀
    is_ended one = placed (printed (plan_text r.search)) (plan_text r.search) (sym (run_ended (100 - runs) s r e one) ∙ whole) refl

-- ---- the text for a file

module _ (file : List ℕ) (o : Opened) (e : o ≡ opened file) where
  text_as_lem : (x : Outcome Batch) → open_file file ≡ x → o ≡ opened_as x
  unfolding opened
  text_as_lem x h = e ∙ ap opened_as h

  opens : o.answer ≡ Ok tt → (x : Outcome Batch) → open_file file ≡ x → printed (planned 101 o.search) ≡ printed (x >>= λ b. planned 101 (fresh_search b))
  unfolding opened_as ◌>>=◌
  opens a (accept b) h = ap (λ (p : Opened). printed (planned 101 p.search)) (text_as_lem (accept b) h)
  opens a (refuse k) h = let y : ◌≡◌ {A = ℕ} 0 1 = cc (sym a ∙ ap (λ (p : Opened). p.answer) (text_as_lem (refuse k) h)) in absurd (omega arith)

  pub text_opened : o.answer ≡ Ok tt → (text : List ℕ) (q : ℕ) (last : List ℕ) → (q, last) ≡ at_front (printed (planned 101 o.search)) text → (q, last) ≡ at_front (text_for file) text
  unfolding text_for
  text_opened a text q last h = h ∙ ap (λ (t : List ℕ). at_front t text) (opens a (open_file file) refl)

  closes : (r : Refusal) → o.answer ≡ Err r → (x : Outcome Batch) → open_file file ≡ x → refusal_line (number r) ≡ printed (x >>= λ b. planned 101 (fresh_search b))
  unfolding opened_as ◌>>=◌ printed
  closes r a (accept b) h = let y : ◌≡◌ {A = ℕ} 0 1 = cc (sym a ∙ ap (λ (p : Opened). p.answer) (text_as_lem (accept b) h)) in absurd (omega arith)
  closes r a (refuse k) h = let y : r ≡ named k = cc (sym a ∙ ap (λ (p : Opened). p.answer) (text_as_lem (refuse k) h)) in ap refusal_line (ap number y ∙ given_number k (open_given (open_refusals file k h)))

  pub text_closed : (r : Refusal) → o.answer ≡ Err r → (text : List ℕ) (q : ℕ) (last : List ℕ) → (q, last) ≡ at_front (refusal_line (number r)) text → (q, last) ≡ at_front (text_for file) text
  unfolding text_for
  text_closed r a text q last h = h ∙ ap (λ (t : List ℕ). at_front t text) (closes r a (open_file file) refl)
