-- A run by the cases of its refusals: what each leaves, and what a run that is not refused comes to.
use Prim.Native.Nat.{ℕ, ◌+◌, ◌-◌, ◌≤◌, ◌<◌}
use mathlib.Core.Path.{◌≡◌, refl, ap, sym, ◌∙◌}
use mathlib.Core.Bool.{Bool, true, false, not, ◌||◌}
use mathlib.Core.List.{List}
use native.Mathlib.Omega.{arith}
use lib.ListN.{length}
use lib.Dec.{leb, ltb}
use borrow.Author.Tests.{le-leb, lt-leb, leb-true, ltb-true, ltb-false}
use Rattle.model.specs.declared.Batch.{Batch}
use Rattle.model.specs.declared.Search.{Search}
use Rattle.model.specs.declared.Answer.{Answer}
use Rattle.model.specs.declared.Answer.TheVariants.{Refused}
use Rattle.model.specs.declared.Ran.{Ran}
use Rattle.model.specs.Common.{Outcome, refuse, accept, ◌>>=◌, require}
use Rattle.model.specs.Limits.{most_budget, most_total}
use Rattle.model.specs.Clash.{clashes}
use Rattle.model.specs.Search.{nodes, nodes_on}
use Rattle.model.specs.Sound.{sound}
use Rattle.model.specs.Refusal.{named}
use Rattle.model.specs.Run.{run_refusal, answer_of, starts_after, answered, ran_as, ran}
use Rattle.model.proofs.LeaveLaws.{nodes_batch}
use Rattle.model.proofs.SoundLaws.{fits, record_passes}
use Rattle.nodes.proofs.NodesLaws.{nodes_over}

-- the tests of the table, in turn
tests : Bool → Bool → Bool → Bool → Outcome (Unit {0})
tests p q r t = do
  _ ← require 11 p
  _ ← require 12 q
  _ ← require 13 r
  require 14 t

module _ (s : Search) (budget : ℕ) (list : List ℕ) where
  tested : (p q r t : Bool) → leb budget most_budget ≡ p → sound s ≡ q → leb s.batch.n (length list) ≡ r → (s.ended || leb (s.total + budget) most_total) ≡ t → run_refusal s budget (length list) ≡ tests p q r t
  unfolding run_refusal tests
  tested p q r t e f g h = rw (← e, ← f, ← g, ← h)

  -- a refused run leaves the record and the list
  refused : (k : ℕ) → run_refusal s budget (length list) ≡ refuse k → (record { answer = Refused (named k); search = s }, list) ≡ ran s budget list
  unfolding ran ran_as
  refused k e = sym (ap (λ (o : Outcome (Unit {0})). ran_as o s budget list) e)

  abbrev LeftAs : ℕ → Type 0
  LeftAs k = ◌≡◌ {A = Ran × List ℕ} (record { answer = Refused (named k); search = s }, list) (ran s budget list)

  pub ran_11 : most_budget < budget → LeftAs 11
  unfolding tests ◌>>=◌ require
  ran_11 h = refused 11 (tested false _ _ _ (lt-leb budget most_budget h) refl refl refl)

  pub ran_12 : budget ≤ most_budget → sound s ≡ false → LeftAs 12
  unfolding tests ◌>>=◌ require
  ran_12 h e = refused 12 (tested true false _ _ (le-leb budget most_budget h) e refl refl)

  pub ran_13 : budget ≤ most_budget → sound s ≡ true → length list < s.batch.n → LeftAs 13
  unfolding tests ◌>>=◌ require
  ran_13 h e l = refused 13 (tested true true false _ (le-leb budget most_budget h) e (lt-leb s.batch.n (length list) l) refl)

  pub ran_14 : budget ≤ most_budget → sound s ≡ true → s.batch.n ≤ length list → (p : Bool) → not p ≡ (s.ended || leb (s.total + budget) most_total) → p ≡ true → LeftAs 14
  unfolding tests ◌>>=◌ require
  ran_14 h e l p o g =
      refused 14 (tested true true true false (le-leb budget most_budget h) e (le-leb s.batch.n (length list) l) (sym o ∙ ap not g))

  -- a run that is not refused
  pub ran_on : (after : Search) (answer : Answer) (list' : List ℕ) → budget ≤ most_budget → sound s ≡ true → s.batch.n ≤ length list → (p : Bool) → not p ≡ (s.ended || leb (s.total + budget) most_total) → p ≡ false → after ≡ nodes budget s
      → (answer ≡ answer_of after.ended after.best after.total) × (list' ≡ starts_after answer after.batch.n after.starts list) → ◌≡◌ {A = Ran × List ℕ} (record { answer = answer; search = after }, list') (ran s budget list)
  unfolding ran ran_as answered tests ◌>>=◌ require
  ran_on after answer list' h e l p o g a (b, c) =
      let go : run_refusal s budget (length list) ≡ accept tt = tested true true true true (le-leb budget most_budget h) e (le-leb s.batch.n (length list) l) (sym o ∙ ap not g) in
      ap (λ (x : List ℕ). (record { answer = answer; search = after }, x)) c
      ∙ ap (λ (x : Answer). (record { answer = x; search = after }, starts_after x after.batch.n after.starts list)) b
      ∙ ap (λ (x : Search). answered x list) a ∙ sym (ap (λ (o : Outcome (Unit {0})). ran_as o s budget list) go)

-- a record whose run leaves it as it is
pub left_as : (s : Search) (budget k : ℕ) (list : List ℕ) (r : Ran) → r ≡ record { answer = Refused (named k); search = s } → ◌≡◌ {A = Ran × List ℕ} (record { answer = Refused (named k); search = s }, list) (ran s budget list) → ◌≡◌ {A = Ran × List ℕ} (r, list) (ran s budget list)
left_as s budget k list r e h = ap (λ (x : Ran). (x, list)) e ∙ h

-- ---- the limit on total

pub drawn : (ended : Bool) (total budget : ℕ) → ended ≡ false → budget ≤ 1000000 → not (ltb (100000000 - budget) total) ≡ (ended || leb (total + budget) 100000000)
drawn ended total budget e h = go (ltb (100000000 - budget) total) refl ∙ ap (λ (p : Bool). p || leb (total + budget) 100000000) (sym e)
  where
    go : (p : Bool) → ltb (100000000 - budget) total ≡ p → not p ≡ leb (total + budget) 100000000
    go true f = sym (lt-leb (total + budget) 100000000 (omega (arith, ltb-true (100000000 - budget) total f)))
    go false f = sym (le-leb (total + budget) 100000000 (omega (arith, ltb-false (100000000 - budget) total f)))

pub drawn_ended : (ended : Bool) (total budget : ℕ) → ended ≡ true → not (not ended) ≡ (ended || leb (total + budget) 100000000)
drawn_ended ended total budget e = rw e refl

-- no nodes
pub no_nodes : (s : Search) (budget : ℕ) → budget ≡ 0 → s ≡ nodes budget s
unfolding nodes nodes_on
no_nodes s budget h = rw h

-- a search that has not ended has room for the budget
pub has_room : (ended : Bool) (total budget : ℕ) → (ended || leb (total + budget) 100000000) ≡ true → ended ≡ false → total + budget ≤ 100000000
has_room ended total budget e h = leb-true (total + budget) 100000000 (ap (λ (p : Bool). p || leb (total + budget) 100000000) (sym h) ∙ e)

-- an ended search counts nothing
pub over : (s : Search) (budget : ℕ) → s.ended ≡ true → s ≡ nodes budget s
unfolding nodes
over s budget e = sym (nodes_over (clashes s.batch) s budget e)

-- no node changes n
pub jobs_kept : (s r : Search) (budget : ℕ) → r ≡ nodes budget s → r.batch.n ≡ s.batch.n
unfolding nodes
jobs_kept s r budget e = ap (λ (x : Search). x.batch.n) e ∙ ap (λ (b : Batch). b.n) (nodes_batch (clashes s.batch) budget s)

-- the limits of a sound record
pub sound_jobs : (s : Search) → sound s ≡ true → s.batch.n ≤ 24
sound_jobs s e = (fits s.batch (record_passes s e)).jobs
