-- Further lines of a kind that has at most one line for each number, a job's (02, Q-4) or a station's (Q-5): the numbers rise from line to line, and the record
-- has a place for each.
use Rattle.std.specs.Prelude.{ℕ, Bool, ◌&&◌, List, [], ◌∷◌, ltb, eqb, if◌then◌else◌}
use Rattle.model.specs.Common.{all}

module _ {A : Type 0} (number : A → ℕ) where
  -- below the limit, and above the number of every line before
  unfoldable pub rises : ℕ → List A → ℕ → Bool
  rises limit before i = ltb i limit && all (λ x. ltb (number x) i) before

  -- the place of number i: what its line puts there, or blank
  unfoldable pub place_in : {P : Type 0} → (A → P) → P → List A → ℕ → P
  place_in place blank [] i = blank
  place_in place blank (x ∷ xs) i = if eqb (number x) i then place x else place_in place blank xs i
