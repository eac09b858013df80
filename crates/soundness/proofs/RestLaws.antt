-- The rest of a path: no turn stands in it. How a loop over its places settles that.
use mathlib.Core.Path.{◌≡◌, refl}
use mathlib.Core.Bool.{Bool, true, false, ◌&&◌, not}
use mathlib.Core.List.{List, [], ◌∷◌}
use Rattle.std.specs.List.{fold}
use Rattle.model.specs.declared.Turn.{Turn}
use Rattle.model.specs.Common.{all}
use Rattle.model.specs.Search.{is_turn}
use Rattle.soundness.specs.Path.{rest_empty}

module _ {A : Type 0} (f : A → Bool) where
  fold_false : (xs : List A) → fold (λ b x. b && f x) false xs ≡ false
  fold_false [] = refl
  fold_false (x ∷ xs) = fold_false xs

  fold_all : (xs : List A) → fold (λ b x. b && f x) true xs ≡ all f xs
  unfolding all
  fold_all [] = refl
  fold_all (x ∷ xs) = go (f x) (fold_all xs) (fold_false xs)
    where
      go : (p : Bool) → fold (λ b x. b && f x) true xs ≡ all f xs → fold (λ b x. b && f x) false xs ≡ false
          → fold (λ b x. b && f x) p xs ≡ (elim p [ true ↦ all f xs | false ↦ false ])
      go true e n = e
      go false e n = n

pub rest_folded : (rest : List Turn) → fold (λ b t. b && not (is_turn t)) true rest ≡ rest_empty rest
unfolding rest_empty
rest_folded rest = fold_all (λ t. not (is_turn t)) rest
