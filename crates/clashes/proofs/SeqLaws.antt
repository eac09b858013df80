-- Kept and mapped lists, in either order and in parts.
use Rattle.std.specs.Prelude.{if◌then◌else◌}
use mathlib.Core.Path.{◌≡◌, refl}
use mathlib.Core.Bool.{Bool, true, false}
use mathlib.Core.List.{List, [], ◌∷◌, ◌++◌, map}
use Rattle.model.specs.Common.{keep}

module _ {A B : Type 0} where
  -- keeping and mapping in either order
  pub keep_map : (f : B → Bool) (g : A → B) (xs : List A) → keep f (map g xs) ≡ map g (keep (λ x. f (g x)) xs)
  unfolding keep
  keep_map f g [] = refl
  keep_map f g (x ∷ xs) = go (f (g x)) (keep_map f g xs)
    where
      go : (p : Bool) → keep f (map g xs) ≡ map g (keep (λ x. f (g x)) xs)
          → (if p then g x ∷ keep f (map g xs) else keep f (map g xs)) ≡ map g (if p then x ∷ keep (λ x. f (g x)) xs else keep (λ x. f (g x)) xs)
      go true e = rw e
      go false e = e

  -- a mapped list in two parts
  pub map_append : (g : A → B) (xs ys : List A) → map g (xs ++ ys) ≡ map g xs ++ map g ys
  map_append g [] ys = refl
  map_append g (x ∷ xs) ys = rw (map_append g xs ys)
