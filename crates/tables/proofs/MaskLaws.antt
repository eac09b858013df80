-- Two masks share a station exactly when their bitwise and is not 0.
use mathlib.Core.Path.{◌≡◌, sym, ◌∙◌}
use mathlib.Core.Logic.{◌≢◌}
use mathlib.Core.Bool.{true, not, ◌&&◌}
use Prim.Native.Nat.{ℕ, zero, suc, ◌/◌, ◌%◌, ◌^◌, ◌<◌, min, suc-le-suc}
use native.Mathlib.Omega.{arith}
use native.Mathlib.Decide.{ℕ_discrete}
use lib.Dec.{eqb}
use lib.Bits.{bit_and, and_step, and_zero_l}
use borrow.Author.Tests.{eq-eqb, ne_eqb}
use Rattle.model.specs.Batch.{bit}
use Rattle.model.specs.Common.{count}
use Rattle.model.proofs.BoolLaws.{decide, both, and}
use Rattle.model.proofs.ListLaws.{any_some, some_any, count_some, some_count}
use Rattle.model.proofs.BitLaws.{bit_zero, zero_bit, bit_suc}
use Rattle.tables.specs.Tables.{shares}

-- masks that share a station have one in common
pub shares_some : (m m' : ℕ) → shares m m' ≡ true → (s : ℕ) × (s < 16) × (bit m s ≡ true) × (bit m' s ≡ true)
unfolding shares
shares_some m m' e =
    let s = any_some (λ s. bit m s && bit m' s) (count 0 16) e in
    let h = both (bit m s.0) (bit m' s.0) s.2 in
    (s.0, omega (arith, (count_some 0 16 s.0 s.1).1), h.0, h.1)

-- and back
pub some_shares : (m m' s : ℕ) → s < 16 → bit m s ≡ true → bit m' s ≡ true → shares m m' ≡ true
unfolding shares
some_shares m m' s h p q = some_any (λ s. bit m s && bit m' s) (count 0 16) (some_count 0 16 s (omega arith) (omega arith)) (and p q)

-- a bit in both is a bit of the and
both_and : (s m k : ℕ) → bit m s ≡ true → bit k s ≡ true → bit_and m k ≢ 0
both_and zero m k p q e = omega (arith, and_step m k, bit_zero m p, bit_zero k q)
both_and (suc s) m k p q e =
    both_and s (m / 2) (k / 2) (rw bit_suc at p) (rw bit_suc at q) (omega (arith, and_step m k))

-- a bit of the and is in both
and_both : (n m k : ℕ) → m < 2 ^ n → bit_and m k ≢ 0 → (s : ℕ) × (s < n) × (bit m s ≡ true) × (bit k s ≡ true)
and_both zero m k h ne = let e : m ≡ 0 = omega arith in absurd (ne (rw e (and_zero_l k)))
and_both (suc n) m k h ne = side (ℕ_discrete (bit_and (m / 2) (k / 2)) 0) (λ f. and_both n (m / 2) (k / 2) (omega arith) f)
  where
    side : Dec (bit_and (m / 2) (k / 2) ≡ 0) → (bit_and (m / 2) (k / 2) ≢ 0 → (s : ℕ) × (s < n) × (bit (m / 2) s ≡ true) × (bit (k / 2) s ≡ true))
        → (s : ℕ) × (s < suc n) × (bit m s ≡ true) × (bit k s ≡ true)
    side (yes e) f =
        let low : min (m % 2) (k % 2) ≢ 0 = λ z. ne (and_step m k ∙ omega arith) in
        (0, omega arith, zero_bit m (omega arith), zero_bit k (omega arith))
    side (no e) f =
        let r : (s : ℕ) × (s < n) × (bit (m / 2) s ≡ true) × (bit (k / 2) s ≡ true) = f e in
        (suc r.0, suc-le-suc r.1, bit_suc m r.0 ∙ r.2, bit_suc k r.0 ∙ r.3)

-- the test of two masks
pub shares_and : (m k : ℕ) → m < 65_536 → not (eqb (bit_and m k) 0) ≡ shares m k
shares_and m k h = go (ℕ_discrete (bit_and m k) 0)
  where
    go : Dec (bit_and m k ≡ 0) → not (eqb (bit_and m k) 0) ≡ shares m k
    go (yes e) =
        rw (eq-eqb (bit_and m k) 0 e)
        (sym (decide (shares m k) λ t. let r = shares_some m k t in both_and r.0 m k r.2 r.3 e))
    go (no e) =
        let r = and_both 16 m k h e in
        rw (ne_eqb (bit_and m k) 0 e) (sym (some_shares m k r.0 r.1 r.2 r.3))
