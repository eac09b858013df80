-- What a caller knows of a step by its answer: the refusal that `?` hands on, and what was read, with the place behind it.
use Prim.Native.Nat.{ℕ, ◌≤◌}
use mathlib.Core.Path.{◌≡◌, refl, ap, sym, ◌∙◌}
use mathlib.Core.List.{List}
use native.Mathlib.Omega.{arith}
use lib.ListN.{length, drop}
use Rattle.std.specs.Prelude.{Result, Ok, Err}
use Rattle.std.specs.Result.{IsErrAnd}
use Rattle.model.specs.declared.refusal.Refusal.{Refusal}
use Rattle.model.specs.Common.{Outcome, refuse, accept, ◌>>=◌, pad}
use Rattle.model.specs.Refusal.{number, told}
use Rattle.model.specs.Open.{read_one, read_all}
use Rattle.model.proofs.OutcomeLaws.{refused, accept_eq}
use Rattle.frame_read.specs.Answer.{place_of}
use Rattle.frame_read.proofs.FileRest.{one_rest, all_rest}
use Rattle.reading.specs.Read.{one_told, all_told}

-- what is answered is accepted
pub told_is : {A : Type 0} {a : A} → told (Ok a) ≡ accept a
unfolding told
told_is = refl

-- a refusal that is handed on
pub exit_told : {A : Type 0} (r : Result A Refusal) (e : Refusal) → IsErrAnd r (λ y. y ≡ e) → told r ≡ refuse (number e)
unfolding told
exit_told (Ok a) e h = absurd h
exit_told (Err y) e h = ap (λ (x : Refusal). refuse (number x)) h

-- what is accepted in another form is refused with the same number
pub then_refused : {A B : Type 0} (g : A → B) (o : Outcome A) (k : ℕ) → (o >>= λ x. accept (g x)) ≡ refuse k → o ≡ refuse k
unfolding ◌>>=◌
then_refused g (refuse j) k e = let z : j ≡ k = cc in ap refuse z
then_refused g (accept a) k e = refused (sym e)

module _ {A : Type 0} (f : List ℕ → Outcome A) (file : List ℕ) where
  -- one item was read
  pub one_at : (at : ℕ) (x : A) (next : ℕ) → one_told file (read_one f (drop at file)) ≡ accept (x, next) → (next ≤ length file) × (read_one f (drop at file) ≡ accept (x, drop next file))
  unfolding one_told ◌>>=◌
  one_at at x next h = go (read_one f (drop at file)) refl h
    where
      go : (o : Outcome (A × List ℕ)) → read_one f (drop at file) ≡ o → one_told file o ≡ accept (x, next) → (next ≤ length file) × (read_one f (drop at file) ≡ accept (x, drop next file))
      go (refuse j) e h = refused h
      go (accept p) e h =
          let w : ◌≡◌ {A = A × ℕ} (p.0, place_of file p.1) (x, next) = accept_eq h in
          let y : p.0 ≡ x = ap (λ (q : A × ℕ). q.0) w in
          let z : place_of file p.1 ≡ next = ap (λ (q : A × ℕ). q.1) w in
          let r = one_rest f file at p.0 p.1 e in
          (omega (arith, r.inside), e ∙ ap (λ (a : A). accept (a, p.1)) y ∙ ap (λ (s : List ℕ). accept (x, s)) (r.is ∙ ap (λ (i : ℕ). drop i file) z))

  -- the k items that were read from a place, the place behind them, and the array that they fill
  pub record Items (places : ℕ) (blank : A) (k at next : ℕ) (array : List A) : Type 0 where
    pub items : List A
    pub is : read_all f k (drop at file) ≡ accept (items, drop next file)
    pub size : length items ≡ k
    pub inside : next ≤ length file
    pub filled : array ≡ pad places blank items

  pub items_at : (places : ℕ) (blank : A) (k at : ℕ) → at ≤ length file → (array : List A) (next : ℕ) → all_told places blank file (read_all f k (drop at file)) ≡ accept (array, next) → Items places blank k at next array
  unfolding all_told ◌>>=◌
  items_at places blank k at l array next h = go (read_all f k (drop at file)) refl h
    where
      go : (o : Outcome (List A × List ℕ)) → read_all f k (drop at file) ≡ o → all_told places blank file o ≡ accept (array, next) → Items places blank k at next array
      go (refuse j) e h = refused h
      go (accept p) e h =
          let w : ◌≡◌ {A = List A × ℕ} (pad places blank p.0, place_of file p.1) (array, next) = accept_eq h in
          let y : pad places blank p.0 ≡ array = ap (λ (q : List A × ℕ). q.0) w in
          let z : place_of file p.1 ≡ next = ap (λ (q : List A × ℕ). q.1) w in
          let r = all_rest f file k at l p.0 p.1 e in
          record {
            items = p.0;
            is = e ∙ ap (λ (s : List ℕ). accept (p.0, s)) (r.1.is ∙ ap (λ (i : ℕ). drop i file) z);
            size = r.0;
            inside = omega (arith, r.1.inside);
            filled = sym y;
          }
