-- The numbers that each call refuses with: opening 1 to 10, 20 and 21, a run 11 to 14, the plan text 12, 15 or 16, the batch text 12 or 16, judging those of
-- opening and 17 to 19. A chain of steps refuses only with numbers that its steps refuse with.
use Rattle.std.specs.Prelude.{if◌then◌else◌}
use Prim.Native.Nat.{ℕ, zero, suc, ◌≤◌}
use mathlib.Core.Path.{◌≡◌, refl, sym, subst}
use mathlib.Core.Logic.{◌⊎◌, inl, inr}
use mathlib.Core.Bool.{Bool, true, false}
use mathlib.Core.Option.{Option, none, some}
use mathlib.Core.List.{List, [], ◌∷◌, ◌++◌}
use native.Mathlib.Omega.{arith}
use Rattle.model.specs.declared.Search.{Search}
use Rattle.model.specs.Common.{is_empty, Outcome, refuse, accept, ◌>>=◌, require, given}
use lib.ListN.{length}
use lib.Dec.{eqb}
use borrow.Author.Tests.{eqb-true, eqb-false}
use Rattle.model.specs.Line.{read_line, at}
use Rattle.model.specs.Format.{no_further}
use Rattle.model.specs.Window.{WindowLine, window}
use Rattle.model.specs.Rest.{RestLine, rest}
use Rattle.model.specs.Open.{header, job, delay, due, read_one, read_all, read_kind, nothing_left, read_further, read_rest, read_file, open_file}
use Rattle.model.specs.Run.{run_refusal}
use Rattle.model.specs.Text.{plan_text, batch_text, fitting}
use Rattle.model.specs.Judge.{read_claim, as17, judge_text, judge}
use Rattle.model.specs.Refusal.{number, named}
use Rattle.model.proofs.OutcomeLaws.{refused, refuse_as}
use Rattle.model.proofs.NamedLaws.{number_named}

-- every refusal of this answer has a number that P holds of
pub record Only {A : Type 0} (P : ℕ → Type 0) (o : Outcome A) : Type 0 where
  pub number : (k : ℕ) → o ≡ refuse k → P k

-- ---- the steps

module _ {P : ℕ → Type 0} where
  only_accept : {A : Type 0} (a : A) → Only P (accept a)
  only_accept a = record { number = λ k e. refused (sym e) }

  only_refuse : {A : Type 0} {j : ℕ} → P j → Only {A = A} P (refuse j)
  only_refuse {j} p = record { number = λ k e. let z : j ≡ k = cc in subst P z p }

  only_bind_at : {A B : Type 0} {m : Outcome A} (f : A → Outcome B) → Only P m → ((a : A) → m ≡ accept a → Only P (f a)) → Only P (m >>= f)
  unfolding ◌>>=◌
  only_bind_at {m = refuse j} f h g = record { number = λ k e. h.number k (refuse_as e) }
  only_bind_at {m = accept a} f h g = g a refl

  only_bind : {A B : Type 0} {m : Outcome A} (f : A → Outcome B) → Only P m → ((a : A) → Only P (f a)) → Only P (m >>= f)
  only_bind f h g = only_bind_at f h (λ a e. g a)

  only_require : (j : ℕ) (t : Bool) → P j → Only P (require j t)
  unfolding require
  only_require j true p = only_accept tt
  only_require j false p = only_refuse p

  only_given : {A : Type 0} (j : ℕ) (o : Option A) → P j → Only P (given j o)
  unfolding given
  only_given j none p = only_refuse p
  only_given j (some a) p = only_accept a

  -- a test and what follows it
  only_after : {B : Type 0} (j : ℕ) (t : Bool) (f : Unit {0} → Outcome B) → P j → Only P (f tt) → Only P (require j t >>= f)
  only_after j t f p g = only_bind f (only_require j t p) (λ u. g)

-- ---- opening

-- what a line after the header is refused with in either edition
pub record InLines (P : ℕ → Type 0) : Type 0 where
  pub n1 : P 1
  pub n2 : P 2
  pub n4 : P 4
  pub n5 : P 5
  pub n6 : P 6
  pub n7 : P 7

-- and what a further line is refused with beside these
pub record InFurther (P : ℕ → Type 0) : Type 0 where
  pub n20 : P 20
  pub n21 : P 21

module _ {P : ℕ → Type 0} (p : InLines P) where
  only_header : P 3 → (f : List ℕ) → Only P (header f)
  unfolding header
  only_header n3 f = only_after 2 _ _ p.n2 (only_after 3 _ _ n3 (only_after 4 _ _ p.n4 (only_accept _)))

  only_job : (f : List ℕ) → Only P (job f)
  unfolding job
  only_job f = only_after 2 _ _ p.n2 (only_after 4 _ _ p.n4 (only_accept _))

  only_delay : (n : ℕ) (f : List ℕ) → Only P (delay n f)
  unfolding delay
  only_delay n f = only_after 2 _ _ p.n2 (only_after 5 _ _ p.n5 (only_after 6 _ _ p.n6 (only_accept _)))

  only_due : (file : List ℕ) → Only P (due file)
  unfolding due
  only_due file = only_after 7 _ _ p.n7 (only_given 1 (read_line file) p.n1)

  module _ {A : Type 0} (frame : List ℕ → Outcome A) (h : (f : List ℕ) → Only P (frame f)) where
    pub only_one : (file : List ℕ) → Only P (read_one frame file)
    unfolding read_one
    only_one file = only_bind _ (only_due file) (λ (f, rest). only_bind _ (h f) (λ x. only_accept _))

    only_all : (k : ℕ) (file : List ℕ) → Only P (read_all frame k file)
    unfolding read_all
    only_all zero file = only_accept _
    only_all (suc k) file = only_bind _ (only_one file) (λ (x, rest). only_bind _ (only_all k rest) (λ (xs, end). only_accept _))

  -- the header alone also with 3
  pub only_first : P 3 → (file : List ℕ) → Only P (read_one header file)
  only_first n3 = only_one header (only_header n3)

  only_window : P 20 → (n : ℕ) (before : List WindowLine) (f : List ℕ) → Only P (window n before f)
  unfolding window
  only_window n20 n before f = only_after 2 _ _ p.n2 (only_after 20 _ _ n20 (only_accept _))

  only_rest_line : P 21 → (before : List RestLine) (f : List ℕ) → Only P (rest before f)
  unfolding rest
  only_rest_line n21 before f = only_after 2 _ _ p.n2 (only_after 21 _ _ n21 (only_accept _))

  module _ {A : Type 0} (kind : ℕ) (frame : List A → List ℕ → Outcome A) (h : (before : List A) (f : List ℕ) → Only P (frame before f)) where
    only_kind : (k : ℕ) (before : List A) (file : List ℕ) → Only P (read_kind kind frame k before file)
    unfolding read_kind
    only_kind zero before file = only_accept _
    only_kind (suc k) before [] = only_accept _
    only_kind (suc k) before (c ∷ cs) = only_bind _ (only_given 1 (read_line (c ∷ cs)) p.n1) (λ (f, rest). go f rest (eqb (at f 0) kind) (only_kind k))
      where
        go : (f rest : List ℕ) (t : Bool) → ((before : List A) (file : List ℕ) → Only P (read_kind kind frame k before file))
            → Only {A = List A × List ℕ} P (elim t [ true ↦ (frame before f >>= λ x. read_kind kind frame k (before ++ (x ∷ [])) rest) | false ↦ accept (before, c ∷ cs) ])
        go f rest true rec = only_bind _ (h before f) (λ x. rec (before ++ (x ∷ [])) rest)
        go f rest false rec = only_accept _

  only_nothing : (end : List ℕ) → Only P (nothing_left end)
  unfolding nothing_left
  only_nothing [] = only_accept tt
  only_nothing (c ∷ cs) = only_bind _ (only_given 1 (read_line (c ∷ cs)) p.n1) (λ x. only_refuse p.n2)

  only_further : InFurther P → (n : ℕ) (file : List ℕ) → Only P (read_further n file)
  unfolding read_further
  only_further f n file =
      only_bind _ (only_kind 0xA3 (window n) (only_window f.n20 n) (length file) [] file) (λ (windows, after_windows).
      only_bind _ (only_kind 0xA4 rest (only_rest_line f.n21) (length after_windows) [] after_windows) (λ (rests, end).
      only_bind _ (only_nothing end) (λ u. only_accept _)))

  -- edition 01 with 8 after the delays, another with the numbers of further lines
  only_rest : (edition n : ℕ) (end : List ℕ) → (edition ≡ 1 → P 8) → (¬ (edition ≡ 1) → InFurther P) → Only P (read_rest edition n end)
  unfolding read_rest
  only_rest edition n end n8 further = go (eqb edition 1) refl
    where
      go : (t : Bool) → eqb edition 1 ≡ t → Only P (if t then (require 8 (is_empty end) >>= λ u. accept no_further) else read_further n end)
      go true e = only_after 8 _ _ (n8 (eqb-true edition 1 e)) (only_accept _)
      go false e = only_further (further (eqb-false edition 1 e)) n end

  -- a whole file, by what its header says
  module _ (file : List ℕ) (n9 : P 9) (n10 : P 10) (first : Only P (read_one header file))
      (by_edition : (edition n m : ℕ) (rest : List ℕ) → read_one header file ≡ accept ((edition, n, m), rest) → (edition ≡ 1 → P 8) × (¬ (edition ≡ 1) → InFurther P)) where
    only_file : Only P (read_file file)
    unfolding read_file
    only_file =
        only_bind_at _ first (λ ((edition, n, m), after_header) e.
        only_bind _ (only_all job only_job n after_header) (λ (jobs, after_jobs).
        only_bind _ (only_all (delay n) (only_delay n) m after_jobs) (λ (delays, end).
        only_bind _ (let r = by_edition edition n m after_header e in only_rest edition n end r.0 r.1) (λ further. only_accept _))))

    pub only_open : Only P (open_file file)
    unfolding open_file
    only_open = only_bind _ only_file (λ b. only_after 9 _ _ n9 (only_after 10 _ _ n10 (only_accept b)))

abbrev pub OpenNumber : ℕ → Type 0
OpenNumber k = ((1 ≤ k) × (k ≤ 10)) ⊎ ((20 ≤ k) × (k ≤ 21))

open_lines : InLines OpenNumber
open_lines =
    record {
      n1 = inl (omega arith, omega arith);
      n2 = inl (omega arith, omega arith);
      n4 = inl (omega arith, omega arith);
      n5 = inl (omega arith, omega arith);
      n6 = inl (omega arith, omega arith);
      n7 = inl (omega arith, omega arith);
    }

-- opening refuses with 1 to 10, 20 or 21
pub open_refusals : (file : List ℕ) (k : ℕ) → open_file file ≡ refuse k → OpenNumber k
open_refusals file =
    (only_open open_lines file (inl (omega arith, omega arith)) (inl (omega arith, omega arith)) (only_first open_lines (inl (omega arith, omega arith)) file)
    (λ edition n m rest e. (λ one. inl (omega arith, omega arith), λ two. record { n20 = inr (omega arith, omega arith); n21 = inr (omega arith, omega arith) }))).number

-- ---- running

abbrev pub RunNumber : ℕ → Type 0
RunNumber k = (11 ≤ k) × (k ≤ 14)

only_run : (s : Search) (budget places : ℕ) → Only RunNumber (run_refusal s budget places)
unfolding run_refusal
only_run s budget places =
    only_after 11 _ _ (omega arith, omega arith) (only_after 12 _ _ (omega arith, omega arith)
    (only_after 13 _ _ (omega arith, omega arith) (only_require 14 _ (omega arith, omega arith))))

-- a run refuses with 11 to 14
pub run_refusals : (s : Search) (budget places k : ℕ) → run_refusal s budget places ≡ refuse k → RunNumber k
run_refusals s budget places = (only_run s budget places).number

-- ---- writing

abbrev pub PlanNumber : ℕ → Type 0
PlanNumber k = (k ≡ 12) ⊎ ((k ≡ 15) ⊎ (k ≡ 16))

abbrev pub BatchNumber : ℕ → Type 0
BatchNumber k = (k ≡ 12) ⊎ (k ≡ 16)

-- into a buffer a text is refused as it is, or with 16
only_fitting : {P : ℕ → Type 0} (text : Outcome (List ℕ)) (room : ℕ) → P 16 → Only P text → Only P (fitting text room)
unfolding fitting
only_fitting text room p h = only_bind _ h (λ t. only_after 16 _ _ p (only_accept t))

only_plan : (s : Search) → Only PlanNumber (plan_text s)
unfolding plan_text
only_plan s = only_after 12 _ _ (inl refl) (only_after 15 _ _ (inr (inl refl)) (only_accept _))

only_batch : (s : Search) → Only BatchNumber (batch_text s)
unfolding batch_text
only_batch s = only_after 12 _ _ (inl refl) (only_accept _)

-- writing a plan text refuses with 12, 15 or 16
pub plan_refusals : (s : Search) (room k : ℕ) → fitting (plan_text s) room ≡ refuse k → PlanNumber k
plan_refusals s room = (only_fitting (plan_text s) room (inr (inr refl)) (only_plan s)).number

-- writing a batch text refuses with 12 or 16
pub batch_refusals : (s : Search) (room k : ℕ) → fitting (batch_text s) room ≡ refuse k → BatchNumber k
batch_refusals s room = (only_fitting (batch_text s) room (inr refl) (only_batch s)).number

-- ---- judging

abbrev pub JudgeNumber : ℕ → Type 0
JudgeNumber k = OpenNumber k ⊎ ((17 ≤ k) × (k ≤ 19))

only_as17 : {A : Type 0} {P : ℕ → Type 0} (o : Outcome A) → P 17 → Only P (as17 o)
unfolding as17
only_as17 (refuse k) p = only_refuse p
only_as17 (accept a) p = only_accept a

only_judge : (file text : List ℕ) → Only JudgeNumber (judge file text)
unfolding judge judge_text
only_judge file text =
    only_bind _ (record { number = λ k e. inl (open_refusals file k e) }) (λ b.
    only_bind _ (only_as17 (read_claim text) (inr (omega arith, omega arith))) (λ c.
    only_after 18 _ _ (inr (omega arith, omega arith)) (only_require 19 _ (inr (omega arith, omega arith)))))

-- judging refuses as opening does, or with 17 to 19
pub judge_refusals : (file text : List ℕ) (k : ℕ) → judge file text ≡ refuse k → JudgeNumber k
judge_refusals file text = (only_judge file text).number

-- ---- every call

-- so each of these is the number of a refusal
abbrev pub Given : ℕ → Type 0
Given k = (1 ≤ k) × (k ≤ 21)

pub given_number : (k : ℕ) → Given k → number (named k) ≡ k
given_number k h = number_named k h.0 h.1

pub open_given : {k : ℕ} → OpenNumber k → Given k
open_given (inl h) = (omega (arith, h.0), omega (arith, h.1))
open_given (inr h) = (omega (arith, h.0), omega (arith, h.1))

pub run_given : {k : ℕ} → RunNumber k → Given k
run_given h = (omega (arith, h.0), omega (arith, h.1))

pub judge_given : {k : ℕ} → JudgeNumber k → Given k
judge_given (inl h) = open_given h
judge_given (inr h) = (omega (arith, h.0), omega (arith, h.1))

pub plan_given : {k : ℕ} → PlanNumber k → Given k
plan_given (inl z) = (omega (arith, z), omega (arith, z))
plan_given (inr (inl z)) = (omega (arith, z), omega (arith, z))
plan_given (inr (inr z)) = (omega (arith, z), omega (arith, z))

pub batch_given : {k : ℕ} → BatchNumber k → Given k
batch_given (inl z) = (omega (arith, z), omega (arith, z))
batch_given (inr z) = (omega (arith, z), omega (arith, z))

pub plan_text_given : (s : Search) (k : ℕ) → plan_text s ≡ refuse k → Given k
plan_text_given s k e = plan_given ((only_plan s).number k e)

pub batch_text_given : (s : Search) (k : ℕ) → batch_text s ≡ refuse k → Given k
batch_text_given s k e = batch_given ((only_batch s).number k e)
