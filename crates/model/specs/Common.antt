-- What the definitions are written with, and nothing of 01 yet: a choice by a test, numbers in a row, lists, and an answer that may
-- be a refusal. Tests stop at the first item that decides them.
use Rattle.std.specs.Prelude.{ℕ, zero, suc, ◌-◌, Bool, true, false, ◌&&◌, List, [], ◌∷◌, ◌++◌, length, replicate, leb, eqb, ℤ, pos, negsuc, if◌then◌else◌}
use Rattle.std.proofs.Math.Option.{Option, none, some}

-- lo ≤ x ≤ hi
unfoldable pub between : ℕ → ℕ → ℕ → Bool
between lo x hi = leb lo x && leb x hi

unfoldable pub eq_z : ℤ → ℤ → Bool
eq_z (pos a) (pos b) = eqb a b
eq_z (pos a) (negsuc b) = false
eq_z (negsuc a) (pos b) = false
eq_z (negsuc a) (negsuc b) = eqb a b

-- a, a + 1, .. (k numbers)
unfoldable pub count : ℕ → ℕ → List ℕ
count a zero = []
count a (suc k) = a ∷ count (suc a) k

module _ {A : Type 0} where
  unfoldable pub all : (A → Bool) → List A → Bool
  all f [] = true
  all f (x ∷ xs) = elim (f x) [ true ↦ all f xs | false ↦ false ]

  unfoldable pub any : (A → Bool) → List A → Bool
  any f [] = false
  any f (x ∷ xs) = elim (f x) [ true ↦ true | false ↦ any f xs ]

  -- the items that pass, in order
  unfoldable pub keep : (A → Bool) → List A → List A
  keep f [] = []
  keep f (x ∷ xs) = if f x then x ∷ keep f xs else keep f xs

  -- the items before the first that fails
  unfoldable pub up_to : (A → Bool) → List A → List A
  up_to f [] = []
  up_to f (x ∷ xs) = elim (f x) [ true ↦ x ∷ up_to f xs | false ↦ [] ]

  -- n places: the list's items, and then blanks
  unfoldable pub pad : ℕ → A → List A → List A
  pad n blank xs = xs ++ replicate (n - length xs) blank

  unfoldable pub joined : {B : Type 0} → (A → List B) → List A → List B
  joined f [] = []
  joined f (x ∷ xs) = f x ++ joined f xs

  unfoldable pub is_empty : List A → Bool
  is_empty [] = true
  is_empty (x ∷ xs) = false

  unfoldable pub is_some : Option A → Bool
  is_some none = false
  is_some (some x) = true

-- an answer, or the number of a refusal
pub data Outcome (A : Type 0) : Type 0 where
  refuse : ℕ → Outcome A
  accept : A → Outcome A

infixl 4 ◌>>=◌
unfoldable pub ◌>>=◌ : {A B : Type 0} → Outcome A → (A → Outcome B) → Outcome B
refuse k >>= f = refuse k
accept a >>= f = f a

-- refusal k where the test fails
unfoldable pub require : ℕ → Bool → Outcome (Unit {0})
require k true = accept tt
require k false = refuse k

-- refusal k where there is nothing
unfoldable pub given : {A : Type 0} → ℕ → Option A → Outcome A
given k none = refuse k
given k (some a) = accept a
