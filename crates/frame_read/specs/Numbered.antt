-- Further lines of a kind whose numbers rise, as they are read: what the code knows of the lines before one.
use Rattle.std.specs.Prelude.{ℕ, ◌≡◌, List, leb, ltb}
use Rattle.model.specs.Common.{all}

-- the numbers above those of all lines before are those from `low` on
unfoldable pub Lowest : {A : Type 0} → (A → ℕ) → ℕ → List A → Type 0
Lowest number low before = (j : ℕ) → all (λ x. ltb (number x) j) before ≡ leb low j
