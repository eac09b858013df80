-- Tests as equations: what a test that passes or fails gives, tests joined by &&, and a test as the code asks it.
use Prim.Native.Nat.{ℕ}
use mathlib.Core.Path.{◌≡◌, refl, sym, ◌∙◌, ap}
use mathlib.Core.Bool.{Bool, true, false, not, ◌&&◌}
use native.Mathlib.Omega.{arith}
use lib.Dec.{T}
use borrow.Author.Tests.{not-true, not-false}

-- a test is not both passed and failed
pub apart : {X : Type 0} → false ≡ true → X
apart e = let z : ◌≡◌ {A = ℕ} 0 1 = cc in absurd (omega arith)

-- both tests of a conjunction pass, and the other way
pub both : (a b : Bool) → (a && b) ≡ true → (a ≡ true) × (b ≡ true)
both true b e = (refl, e)
both false b e = apart e

pub and : {a b : Bool} → a ≡ true → b ≡ true → (a && b) ≡ true
and p q = rw (p, q)

-- a test as a type, and as an equation
pub T_true : (b : Bool) → T b → b ≡ true
T_true true t = refl
T_true false t = absurd t

pub true_T : {b : Bool} → b ≡ true → T b
true_T e = rw e tt

-- what does not pass fails
pub decide : (p : Bool) → (p ≡ true → ⊥) → p ≡ false
decide true h = absurd (h refl)
decide false h = refl

-- tests that pass together are the same test
pub same_test : (p q : Bool) → (p ≡ true → q ≡ true) → (q ≡ true → p ≡ true) → p ≡ q
same_test true q f g = sym (f refl)
same_test false true f g = g refl
same_test false false f g = refl

-- the second test passes, and the first decides
pub and_true : (a : Bool) → (a && true) ≡ a
and_true true = refl
and_true false = refl

pub and_assoc : (a b c : Bool) → (a && (b && c)) ≡ (a && b && c)
and_assoc true b c = refl
and_assoc false b c = refl

-- the second test fails, and so does the whole
pub and_false : (a : Bool) → (a && false) ≡ false
and_false true = refl
and_false false = refl

-- tests joined by && as the code joins them: the first passes, and the answer is the second's
pub and_then : (x a b : Bool) → x ≡ a → x ≡ true → b ≡ (a && b)
and_then x a b p q = ap (λ (z : Bool). z && b) (sym q ∙ p)

-- or the first fails, and so does the whole
pub and_else : (x a b : Bool) → x ≡ a → x ≡ false → x ≡ (a && b)
and_else x a b p q = q ∙ ap (λ (z : Bool). z && b) (sym q ∙ p)

-- a test t that the code has as b, and asks as !b: it passes, or it fails
pub passes : {b t : Bool} → b ≡ t → not b ≡ false → t ≡ true
passes {b} e h = sym e ∙ not-false b h

pub fails : {b t : Bool} → b ≡ t → not b ≡ true → t ≡ false
fails {b} e h = sym e ∙ not-true b h
