-- Answers that may be a refusal: what an accepted answer says of each step that led to it, and steps that accept one after the other.
use Prim.Native.Nat.{ℕ}
use mathlib.Core.Path.{◌≡◌, refl, ap}
use mathlib.Core.Bool.{Bool, true, false}
use mathlib.Core.Option.{Option, none, some}
use native.Mathlib.Omega.{arith}
use Rattle.model.specs.Common.{Outcome, refuse, accept, ◌>>=◌, require, given}

-- no refusal is an answer
pub refused : {A X : Type 0} {k : ℕ} {a : A} → refuse k ≡ accept a → X
refused e = let z : ◌≡◌ {A = ℕ} 0 1 = cc in absurd (omega arith)

-- the same refusal of another kind of answer
pub refuse_as : {A B : Type 0} {k j : ℕ} → ◌≡◌ {A = Outcome A} (refuse k) (refuse j) → ◌≡◌ {A = Outcome B} (refuse k) (refuse j)
refuse_as {k} {j} e = let z : k ≡ j = cc in ap refuse z

pub accept_eq : {A : Type 0} {a c : A} → accept a ≡ accept c → a ≡ c
accept_eq e = cc

-- a step and what follows it
pub bind_accepts : {A B : Type 0} (m : Outcome A) (f : A → Outcome B) (c : B) → (m >>= f) ≡ accept c → (a : A) × (m ≡ accept a) × (f a ≡ accept c)
unfolding ◌>>=◌
bind_accepts (refuse k) f c e = refused e
bind_accepts (accept a) f c e = (a, refl, e)

pub accepts_bind : {A B : Type 0} {m : Outcome A} {a : A} (f : A → Outcome B) → m ≡ accept a → (m >>= f) ≡ f a
unfolding ◌>>=◌
accepts_bind f e = rw e

-- a test and what follows it
pub require_accepts : {B : Type 0} (k : ℕ) (t : Bool) (f : Unit {0} → Outcome B) (c : B) → (require k t >>= f) ≡ accept c → (t ≡ true) × (f tt ≡ accept c)
unfolding ◌>>=◌ require
require_accepts k true f c e = (refl, e)
require_accepts k false f c e = refused e

pub accepts_require : {B : Type 0} (k : ℕ) {t : Bool} (f : Unit {0} → Outcome B) → t ≡ true → (require k t >>= f) ≡ f tt
unfolding ◌>>=◌ require
accepts_require k f e = rw e

pub refuses_require : {B : Type 0} (k : ℕ) {t : Bool} (f : Unit {0} → Outcome B) → t ≡ false → (require k t >>= f) ≡ refuse k
unfolding ◌>>=◌ require
refuses_require k f e = rw e

pub given_accepts : {A : Type 0} (k : ℕ) (o : Option A) (a : A) → given k o ≡ accept a → o ≡ some a
unfolding given
given_accepts k none a e = refused e
given_accepts k (some x) a e = cc
