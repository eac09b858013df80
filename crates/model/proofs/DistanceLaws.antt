-- Distances of two ticks without the integers: p − q = a − b is p + b = a + q, t + (a − b) ≤ u is t + a ≤ u + b, and ticks that are too close are at most r apart.
use Prim.Native.Nat.{ℕ, zero, suc, ◌+◌, ◌-◌, ◌≤◌, ◌<◌}
use mathlib.Core.Path.{◌≡◌, refl, ap, sym}
use mathlib.Core.Bool.{Bool, true, false, cond}
use native.Mathlib.Omega.{arith}
use lib.IntN.{ℤ, pos, negsuc, sub_ℕ, ◌-ℤ◌}
use lib.Signed.{◌≤ℤ◌}
use lib.Dec.{ltb, le→leb}
use borrow.Author.Tests.{leb-true, le-leb, ltb-true, ltb-false, eqb-true, eq-eqb}
use Rattle.model.specs.Common.{eq_z}
use Rattle.model.specs.Plan.{too_close}
use Rattle.model.specs.Starts.{plus}
use Rattle.model.proofs.BoolLaws.{apart}

-- the test of two distances says that they are equal
pub eq_z_eq : (x y : ℤ) → eq_z x y ≡ true → x ≡ y
unfolding eq_z
eq_z_eq (pos a) (pos b) e = ap pos (eqb-true a b e)
eq_z_eq (pos a) (negsuc b) e = apart e
eq_z_eq (negsuc a) (pos b) e = apart e
eq_z_eq (negsuc a) (negsuc b) e = ap negsuc (eqb-true a b e)

-- and finds equal ones
pub eq_z_refl : (x : ℤ) → eq_z x x ≡ true
unfolding eq_z
eq_z_refl (pos a) = eq-eqb a a refl
eq_z_refl (negsuc a) = eq-eqb a a refl

-- p − q, by whether it is below 0
diff : ℕ → ℕ → Bool → ℤ
diff p q c = cond c (negsuc (q - suc p)) (pos (p - q))

-- equal differences have equal sums crosswise
pub sub_sum : (p q a b : ℕ) → sub_ℕ p q ≡ sub_ℕ a b → p + b ≡ a + q
unfolding diff
sub_sum p q a b e = go (ltb p q) refl (ltb a b) refl e
  where
    go : (c : Bool) → ltb p q ≡ c → (d : Bool) → ltb a b ≡ d → diff p q c ≡ diff a b d → p + b ≡ a + q
    go true h true k e = let z : q - suc p ≡ b - suc a = cc in omega (arith, ltb-true p q h, ltb-true a b k)
    go true h false k e = let z : ◌≡◌ {A = ℕ} 0 1 = cc in absurd (omega arith)
    go false h true k e = let z : ◌≡◌ {A = ℕ} 0 1 = cc in absurd (omega arith)
    go false h false k e = let z : p - q ≡ a - b = cc in omega (arith, ltb-false p q h, ltb-false a b k)

-- and back
pub sum_sub : (p q a b : ℕ) → p + b ≡ a + q → sub_ℕ p q ≡ sub_ℕ a b
unfolding diff
sum_sub p q a b e = go (ltb p q) refl (ltb a b) refl
  where
    go : (c : Bool) → ltb p q ≡ c → (d : Bool) → ltb a b ≡ d → diff p q c ≡ diff a b d
    go true h true k = ap negsuc (omega (arith, ltb-true p q h, ltb-true a b k))
    go true h false k = absurd (omega (arith, ltb-true p q h, ltb-false a b k))
    go false h true k = absurd (omega (arith, ltb-false p q h, ltb-true a b k))
    go false h false k = ap pos (omega (arith, ltb-false p q h, ltb-false a b k))

-- t + (a − b) ≤ u, without the integers
pub sub_le : (t u a b : ℕ) → plus t (sub_ℕ a b) ≤ u → t + a ≤ u + b
unfolding plus diff
sub_le t u a b h = go (ltb a b) refl h
  where
    go : (c : Bool) → ltb a b ≡ c → plus t (diff a b c) ≤ u → t + a ≤ u + b
    go true e h = omega (arith, ltb-true a b e)
    go false e h = omega (arith, ltb-false a b e)

-- and back
pub le_sub : (t u a b : ℕ) → t + a ≤ u + b → plus t (sub_ℕ a b) ≤ u
unfolding plus diff
le_sub t u a b h = go (ltb a b) refl
  where
    go : (c : Bool) → ltb a b ≡ c → plus t (diff a b c) ≤ u
    go true e = omega (arith, ltb-true a b e)
    go false e = omega (arith, ltb-false a b e)

-- u − t is k
pub sub_pos : (u t k : ℕ) → sub_ℕ u t ≡ pos k → u ≡ t + k
unfolding diff
sub_pos u t k h = go (ltb u t) refl h
  where
    go : (c : Bool) → ltb u t ≡ c → diff u t c ≡ pos k → u ≡ t + k
    go true e h = let z : ◌≡◌ {A = ℕ} 0 1 = cc in absurd (omega arith)
    go false e h = let z : u - t ≡ k = cc in omega (arith, ltb-false u t e)

pub pos_sub : (u t k : ℕ) → u ≡ t + k → sub_ℕ u t ≡ pos k
unfolding diff
pos_sub u t k h = go (ltb u t) refl
  where
    go : (c : Bool) → ltb u t ≡ c → diff u t c ≡ pos k
    go true e = absurd (omega (arith, ltb-true u t e))
    go false e = ap pos (omega arith)

-- u − t is −(k + 1)
pub sub_neg : (u t k : ℕ) → sub_ℕ u t ≡ negsuc k → t ≡ u + suc k
unfolding diff
sub_neg u t k h = go (ltb u t) refl h
  where
    go : (c : Bool) → ltb u t ≡ c → diff u t c ≡ negsuc k → t ≡ u + suc k
    go true e h = let z : t - suc u ≡ k = cc in omega (arith, ltb-true u t e)
    go false e h = let z : ◌≡◌ {A = ℕ} 0 1 = cc in absurd (omega arith)

pub neg_sub : (u t k : ℕ) → t ≡ u + suc k → sub_ℕ u t ≡ negsuc k
unfolding diff
neg_sub u t k h = go (ltb u t) refl
  where
    go : (c : Bool) → ltb u t ≡ c → diff u t c ≡ negsuc k
    go true e = ap negsuc (omega arith)
    go false e = absurd (omega (arith, ltb-false u t e))

-- ---- every integer is a distance, and so is the distance of two

pub record Between (d : ℤ) : Type 0 where
  pub later : ℕ
  pub earlier : ℕ
  pub is : sub_ℕ later earlier ≡ d

pub between_some : (d : ℤ) → Between d
between_some (pos k) = record { later = k; earlier = 0; is = pos_sub k 0 k (omega arith) }
between_some (negsuc k) = record { later = 0; earlier = suc k; is = neg_sub 0 (suc k) k (omega arith) }

-- (a − c) − (u − t) = (t + a) − (u + c)
pub sub_sub : (a c u t : ℕ) → sub_ℕ a c -ℤ sub_ℕ u t ≡ sub_ℕ (t + a) (u + c)
unfolding diff
sub_sub a c u t = go (sub_ℕ a c) refl (sub_ℕ u t) refl
  where
    go : (x : ℤ) → sub_ℕ a c ≡ x → (y : ℤ) → sub_ℕ u t ≡ y → x -ℤ y ≡ sub_ℕ (t + a) (u + c)
    go (pos k) e (pos zero) f = sym (pos_sub (t + a) (u + c) (k + 0) (omega (arith, sub_pos a c k e, sub_pos u t 0 f)))
    go (pos k) e (pos (suc l)) f = sum_sub k (suc l) (t + a) (u + c) (omega (arith, sub_pos a c k e, sub_pos u t (suc l) f))
    go (pos k) e (negsuc l) f = sym (pos_sub (t + a) (u + c) (k + suc l) (omega (arith, sub_pos a c k e, sub_neg u t l f)))
    go (negsuc k) e (pos zero) f = sum_sub 0 (suc k) (t + a) (u + c) (omega (arith, sub_neg a c k e, sub_pos u t 0 f))
    go (negsuc k) e (pos (suc l)) f = sym (neg_sub (t + a) (u + c) (suc (k + l)) (omega (arith, sub_neg a c k e, sub_pos u t (suc l) f)))
    go (negsuc k) e (negsuc l) f = sum_sub (suc l) (suc k) (t + a) (u + c) (omega (arith, sub_neg a c k e, sub_neg u t l f))

-- ---- ticks that are too close

-- x and y are at most r apart
pub close_le : (r x y : ℕ) → too_close r (sub_ℕ x y) ≡ true → (x ≤ y + r) × (y ≤ x + r)
unfolding too_close diff
close_le r x y h = go (sub_ℕ x y) refl h
  where
    go : (z : ℤ) → sub_ℕ x y ≡ z → too_close r z ≡ true → (x ≤ y + r) × (y ≤ x + r)
    go (pos k) e h = let l = leb-true k r h in (omega (arith, sub_pos x y k e), omega (arith, sub_pos x y k e))
    go (negsuc k) e h = let l = leb-true (suc k) r h in (omega (arith, sub_neg x y k e), omega (arith, sub_neg x y k e))

-- and back
pub le_close : (r x y : ℕ) → x ≤ y + r → y ≤ x + r → too_close r (sub_ℕ x y) ≡ true
unfolding too_close diff
le_close r x y h g = go (sub_ℕ x y) refl
  where
    go : (z : ℤ) → sub_ℕ x y ≡ z → too_close r z ≡ true
    go (pos k) e = le-leb k r (omega (arith, sub_pos x y k e))
    go (negsuc k) e = le-leb (suc k) r (omega (arith, sub_neg x y k e))

-- ---- k − 22 for k below 45 is −22 to 22

pub lifted_near : (k : ℕ) → k < 45 → (negsuc 21 ≤ℤ sub_ℕ k 22) × (sub_ℕ k 22 ≤ℤ pos 22)
lifted_near k h = go (ltb k 22) refl
  where
    go : (p : Bool) → ltb k 22 ≡ p → (negsuc 21 ≤ℤ cond p (negsuc (22 - suc k)) (pos (k - 22))) × (cond p (negsuc (22 - suc k)) (pos (k - 22)) ≤ℤ pos 22)
    go true e = (record { le = le→leb (22 - suc k) 21 (omega arith) }, record { le = tt })
    go false e = (record { le = tt }, record { le = le→leb (k - 22) 22 (omega (arith, ltb-false k 22 e)) })
