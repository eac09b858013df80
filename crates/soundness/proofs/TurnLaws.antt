-- Sound turns, one more at the end: it is sound when its clash is listed, its side is 0 or 1, and no earlier turn is on its clash.
use Prim.Native.Nat.{ℕ}
use mathlib.Core.Path.{◌≡◌, refl, ap, sym, ◌∙◌}
use mathlib.Core.Bool.{Bool, true, false, ◌&&◌, ◌||◌, not}
use mathlib.Core.List.{List, [], ◌∷◌, ◌++◌, append-nil}
use lib.Dec.{leb, ltb, eqb}
use lib.Seq.{append_snoc}
use borrow.Author.Tests.{eqb-true, eqb-false, eq-eqb, ne_eqb}
use Rattle.model.specs.declared.Turn.{Turn}
use Rattle.model.specs.Common.{all, any}
use Rattle.model.specs.Sound.{distinct, sound_turns}
use Rattle.model.proofs.BoolLaws.{apart, both, and_false}
use Rattle.model.proofs.BackLaws.{numbers}
use Rattle.model.proofs.GoodLaws.{numbers_append}

-- ---- lists with one more at the end

module _ {A : Type 0} (f : A → Bool) where
  all_snoc : (xs : List A) (x : A) → all f (xs ++ (x ∷ [])) ≡ (all f xs && f x)
  unfolding all
  all_snoc [] x = go (f x)
    where
      go : (p : Bool) → (elim p [ true ↦ true | false ↦ false ]) ≡ p
      go true = refl
      go false = refl
  all_snoc (y ∷ xs) x = go (f y) (all_snoc xs x)
    where
      go : (p : Bool) → all f (xs ++ (x ∷ [])) ≡ (all f xs && f x) → (elim p [ true ↦ all f (xs ++ (x ∷ [])) | false ↦ false ]) ≡ ((elim p [ true ↦ all f xs | false ↦ false ]) && f x)
      go true e = e
      go false e = refl

  pub any_snoc : (xs : List A) (x : A) → any f (xs ++ (x ∷ [])) ≡ (any f xs || f x)
  unfolding any
  any_snoc [] x = go (f x)
    where
      go : (p : Bool) → (elim p [ true ↦ true | false ↦ false ]) ≡ p
      go true = refl
      go false = refl
  any_snoc (y ∷ xs) x = go (f y) (any_snoc xs x)
    where
      go : (p : Bool) → any f (xs ++ (x ∷ [])) ≡ (any f xs || f x) → (elim p [ true ↦ true | false ↦ any f (xs ++ (x ∷ [])) ]) ≡ ((elim p [ true ↦ true | false ↦ any f xs ]) || f x)
      go true e = refl
      go false e = e

eqb_sym : (x y : ℕ) → eqb x y ≡ eqb y x
eqb_sym x y = go (eqb x y) refl
  where
    go : (p : Bool) → eqb x y ≡ p → p ≡ eqb y x
    go true e = sym (eq-eqb y x (sym (eqb-true x y e)))
    go false e = sym (ne_eqb y x (λ q. eqb-false x y e (sym q)))

distinct_snoc : (xs : List ℕ) (x : ℕ) → distinct (xs ++ (x ∷ [])) ≡ (distinct xs && not (any (eqb x) xs))
unfolding distinct any
distinct_snoc [] x = refl
distinct_snoc (y ∷ xs) x =
    ap (λ (p : Bool). not p && distinct (xs ++ (x ∷ []))) (any_snoc (eqb y) xs x)
    ∙ ap (λ (p : Bool). not (any (eqb y) xs || p) && distinct (xs ++ (x ∷ []))) (eqb_sym y x)
    ∙ ap (λ (p : Bool). not (any (eqb y) xs || eqb x y) && p) (distinct_snoc xs x)
    ∙ go (any (eqb y) xs) (eqb x y) (distinct xs)
  where
    go : (a e d : Bool) → (not (a || e) && (d && not (any (eqb x) xs))) ≡ ((not a && d) && not (elim e [ true ↦ true | false ↦ any (eqb x) xs ]))
    go true e d = refl
    go false true d = sym (and_false d)
    go false false d = refl

-- ---- turns

-- the turn may follow these turns
unfoldable pub may_follow : ℕ → List Turn → Turn → Bool
may_follow D ts t = (ltb t.clash D && leb t.side 1) && not (any (eqb t.clash) (numbers ts))

pub sound_none : (D : ℕ) → sound_turns D [] ≡ true
unfolding sound_turns all distinct
sound_none D = refl

pub sound_snoc : (D : ℕ) (ts : List Turn) (t : Turn) → sound_turns D (ts ++ (t ∷ [])) ≡ (sound_turns D ts && may_follow D ts t)
unfolding sound_turns may_follow numbers
sound_snoc D ts t =
    let ok : Turn → Bool = λ t. ltb t.clash D && leb t.side 1 in
    ap (λ (p : Bool). p && distinct (numbers (ts ++ (t ∷ [])))) (all_snoc ok ts t)
    ∙ ap (λ (l : List ℕ). (all ok ts && ok t) && distinct l) (numbers_append ts t)
    ∙ ap (λ (p : Bool). (all ok ts && ok t) && p) (distinct_snoc (numbers ts) t.clash)
    ∙ go (all ok ts) (ok t) (distinct (numbers ts)) (not (any (eqb t.clash) (numbers ts)))
  where
    go : (a o d n : Bool) → ((a && o) && (d && n)) ≡ ((a && d) && (o && n))
    go true true d n = refl
    go true false d n = sym (and_false d)
    go false o d n = refl

-- the first of sound turns are sound
sound_first : (D : ℕ) (ts us : List Turn) → sound_turns D (ts ++ us) ≡ true → sound_turns D ts ≡ true
sound_first D ts [] e = ap (sound_turns D) (sym (append-nil ts)) ∙ e
sound_first D ts (u ∷ us) e =
    (both (sound_turns D ts) (may_follow D ts u)
    (sym (sound_snoc D ts u) ∙ sound_first D (ts ++ (u ∷ [])) us (ap (sound_turns D) (append_snoc ts u us) ∙ e))).0

-- a turn that may not follow spoils the whole
pub sound_spoilt : (D : ℕ) (ts us : List Turn) (t : Turn) → may_follow D ts t ≡ false → sound_turns D (ts ++ (t ∷ us)) ≡ false
sound_spoilt D ts us t e = go (sound_turns D (ts ++ (t ∷ us))) refl
  where
    go : (p : Bool) → sound_turns D (ts ++ (t ∷ us)) ≡ p → p ≡ false
    go false h = refl
    go true h =
        apart (sym e ∙ (both (sound_turns D ts) (may_follow D ts t)
        (sym (sound_snoc D ts t) ∙ sound_first D (ts ++ (t ∷ [])) us (ap (sound_turns D) (append_snoc ts t us) ∙ h))).1)
