-- Pieces of c bytes or of none, one for each item of a list: together they have c bytes for each item that has a piece.
use Rattle.std.specs.Prelude.{if◌then◌else◌}
use Prim.Native.Nat.{ℕ, suc, ◌+◌, ◌*◌, ◌<◌}
use mathlib.Core.Path.{◌≡◌, ap, sym, ◌∙◌}
use mathlib.Core.Bool.{Bool, true, false}
use mathlib.Core.List.{List, [], ◌∷◌}
use native.Mathlib.Nat.{add-zero}
use native.Mathlib.Omega.{arith}
use lib.ListN.{length, get_or, length-append}
use Rattle.std.specs.List.{count_by}
use Rattle.std.proofs.lemmas.List.Sums.{sum_by-cons}
use Rattle.model.specs.Common.{count, joined}
use Rattle.frame_put.proofs.Pieces.{pieces}

module _ {A : Type 0} (has : A → Bool) (f : ℕ → List ℕ) (c : ℕ) (d : A) where
  -- from a on, each piece goes by its item
  Each : ℕ → List A → Type 0
  Each a xs = (i : ℕ) → i < length xs → length (f (a + i)) ≡ (if has (get_or xs i d) then c else 0)

  step : (t : Bool) (m n k : ℕ) → m ≡ (if t then c else 0) → n ≡ c * k → m + n ≡ c * ((if t then 1 else 0) + k)
  step true m n k p q = omega arith
  step false m n k p q = omega arith

  go : (a : ℕ) (xs : List A) → Each a xs → length (joined f (count a (length xs))) ≡ c * count_by has xs
  unfolding joined count Each
  go a [] h = omega arith
  go a (x ∷ xs) h =
      let here : length (f a) ≡ (if has x then c else 0) = ap (λ (n : ℕ). length (f n)) (sym (add-zero a)) ∙ h 0 (omega arith) in
      let rest = go (suc a) xs (λ i l. let e : suc a + i ≡ a + suc i = omega arith in ap (λ (n : ℕ). length (f n)) e ∙ h (suc i) (omega arith)) in
      length-append (f a) (joined f (count (suc a) (length xs)))
      ∙ step (has x) _ _ _ here rest
      ∙ ap (λ (k : ℕ). c * k) (sym (sum_by-cons (λ y. if has y then 1 else 0) x xs))

  pub counted : (xs : List A) → ((i : ℕ) → i < length xs → length (f i) ≡ (if has (get_or xs i d) then c else 0)) → length (pieces f (length xs)) ≡ c * count_by has xs
  unfolding pieces Each
  counted xs h = go 0 xs (λ i l. let e : 0 + i ≡ i = omega arith in ap (λ (n : ℕ). length (f n)) e ∙ h i l)
