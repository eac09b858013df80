-- A step that refuses, and one that only what it stands on refuses.
use Prim.Native.Nat.{ℕ}
use mathlib.Core.Path.{◌≡◌, sym}
use Rattle.model.specs.Common.{Outcome, refuse, accept, ◌>>=◌}
use Rattle.model.proofs.OutcomeLaws.{refused, refuse_as}

-- a step that refuses, and what follows it
pub refuses_bind : {A B : Type 0} {m : Outcome A} {k : ℕ} (f : A → Outcome B) → m ≡ refuse k → (m >>= f) ≡ refuse k
unfolding ◌>>=◌
refuses_bind f e = rw e

-- what is made of an accepted answer refuses nothing
pub bind_refuses : {A B : Type 0} {m : Outcome A} {k : ℕ} (f : A → B) → (m >>= λ x. accept (f x)) ≡ refuse k → m ≡ refuse k
unfolding ◌>>=◌
bind_refuses {m = refuse j} f e = refuse_as e
bind_refuses {m = accept a} f e = refused (sym e)
