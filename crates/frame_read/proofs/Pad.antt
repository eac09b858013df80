-- An array that is filled from its start: the items so far, and then blanks.
use Prim.Native.Nat.{ℕ, ◌+◌, ◌-◌, ◌<◌}
use mathlib.Core.Path.{◌≡◌, ap, sym, ◌∙◌}
use mathlib.Core.List.{List, [], ◌∷◌, ◌++◌}
use native.Mathlib.Omega.{arith}
use native.Mathlib.Numerals.{add-one}
use lib.ListN.{length, get_or, set, take, replicate}
use lib.Seq.{take-suc, length-take-le}
use Rattle.model.specs.Common.{pad}
use Rattle.model.proofs.SeqLaws.{pad_put}

module _ {A : Type 0} where
  -- nothing is filled yet
  pub pad_nil : (n : ℕ) (blank : A) → replicate n blank ≡ pad n blank []
  unfolding pad
  pad_nil n blank = let e : n ≡ n - 0 = omega arith in ap (λ (k : ℕ). replicate k blank) e

  -- one item more of a list
  pub pad_take : (n : ℕ) (blank : A) (xs : List A) (k : ℕ) (d x : A) → k < length xs → k < n → x ≡ get_or xs k d → set (pad n blank (take k xs)) k x ≡ pad n blank (take (k + 1) xs)
  pad_take n blank xs k d x l h e =
      pad_put n blank (take k xs) k x (length-take-le k xs (omega arith)) h
      ∙ ap (λ (y : A). pad n blank (take k xs ++ (y ∷ []))) e
      ∙ ap (pad n blank) (sym (take-suc xs k d l) ∙ ap (λ (j : ℕ). take j xs) (sym (add-one k)))
