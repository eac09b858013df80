-- The bits of a mask: one that is not 0 has a bit.
use Prim.Native.Nat.{ℕ, zero, suc, ◌/◌, ◌%◌, ◌^◌, ◌<◌, suc-le-suc}
use mathlib.Core.Path.{◌≡◌, ◌∙◌}
use mathlib.Core.Logic.{◌≢◌}
use mathlib.Core.Bool.{true}
use native.Mathlib.Nat.{pow-suc, mul_comm, div-div-eq-div-mul}
use native.Mathlib.Omega.{arith}
use native.Mathlib.Decide.{ℕ_discrete}
use borrow.Author.Tests.{eqb-true, eq-eqb}
use Rattle.model.specs.Batch.{bit}

-- bit 0 is the remainder, and bit s + 1 is bit s of the half
pub bit_zero : (m : ℕ) → bit m 0 ≡ true → m % 2 ≡ 1
unfolding bit
bit_zero m t = let e : m / 1 ≡ m = omega arith in rw e at (eqb-true (m / 1 % 2) 1 t)

pub zero_bit : (m : ℕ) → m % 2 ≡ 1 → bit m 0 ≡ true
unfolding bit
zero_bit m h = let e : m / 1 ≡ m = omega arith in eq-eqb (m / 1 % 2) 1 (rw e h)

pub bit_suc : (m s : ℕ) → bit m (suc s) ≡ bit (m / 2) s
unfolding bit
bit_suc m s = let e : m / 2 ^ suc s ≡ m / 2 / 2 ^ s = rw (div-div-eq-div-mul, pow-suc, mul_comm (2 ^ s) 2) in rw e

-- 0 has no bit
pub bit_none : (m s : ℕ) → m ≡ 0 → bit m s ≡ true → ⊥
bit_none m zero e t = omega (arith, bit_zero m t)
bit_none m (suc s) e t = bit_none (m / 2) s (omega arith) (rw bit_suc at t)

-- any other number has one
pub bit_some : (k m : ℕ) → m < 2 ^ k → m ≢ 0 → (s : ℕ) × (s < k) × (bit m s ≡ true)
bit_some zero m h ne = absurd (ne (omega arith))
bit_some (suc k) m h ne = go (ℕ_discrete (m / 2) 0) (bit_some k (m / 2) (omega arith))
  where
    go : Dec (m / 2 ≡ 0) → (m / 2 ≢ 0 → (s : ℕ) × (s < k) × (bit (m / 2) s ≡ true)) → (s : ℕ) × (s < suc k) × (bit m s ≡ true)
    go (yes e) rec = let z : m ≢ 0 = ne in (0, omega arith, zero_bit m (omega arith))
    go (no e) rec = let r = rec e in (suc r.0, suc-le-suc r.1, bit_suc m r.0 ∙ r.2)
