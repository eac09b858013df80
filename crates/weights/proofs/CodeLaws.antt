-- Codes of weights: where a weight is within its limits, adding 1,000 and taking its code off is adding the weight, and codes fall as
-- weights rise. Codes of clashes: job numbers and distance are read back from the digits.
use mathlib.Core.Path.{◌≡◌, refl, ◌∙◌, ap}
use mathlib.Core.Bool.{true, false}
use Prim.Native.Nat.{ℕ, zero, suc, ◌+◌, ◌-◌, ◌/◌, ◌%◌, ◌≤◌}
use native.Mathlib.Omega.{arith}
use lib.Dec.{leb→le, le→leb}
use lib.IntN.{ℤ, pos, negsuc, ◌+ℤ◌, ◌-ℤ◌, sub_ℕ, nat_abs}
use lib.Signed.{le_z, ◌≤ℤ◌}
use mir.Syntax.{w16}
use mir.Val.{SFits, to_z, of_z}
use mir.ValLaws.{to_z-of_z}
use borrow.Author.Tests.{lt-ltb, le-ltb, leb-true, leb-false}
use Rattle.model.specs.Clash.{Clash}
use Rattle.model.specs.Starts.{plus}
use Rattle.clashes.specs.Code.{lift, code_of}
use Rattle.weights.specs.Code.{Limited, coded, ClashFits}

-- ---- weights

pub coded_most : (w : ℤ) → Limited w → coded w ≤ 2000
unfolding coded
coded_most (pos k) h = omega arith
coded_most (negsuc k) h = let p : k ≤ 999 = leb→le _ _ h.low.le in omega arith

-- a code stands for its weight
pub plus_coded : (t : ℕ) (w : ℤ) → Limited w → plus t w ≡ t + 1000 - coded w
unfolding plus coded
plus_coded t (pos k) h = let p : k ≤ 1000 = leb→le _ _ h.high.le in omega arith
plus_coded t (negsuc k) h = omega arith

pub coded_le : (v w : ℤ) → le_z v w ≡ true → coded w ≤ coded v
unfolding coded
coded_le (pos a) (pos b) e = omega (arith, leb-true a b e)
coded_le (pos a) (negsuc b) e = let z : ◌≡◌ {A = ℕ} 0 1 = cc in absurd (omega arith)
coded_le (negsuc a) (pos b) e = omega arith
coded_le (negsuc a) (negsuc b) e = omega (arith, leb-true b a e)

pub coded_gt : (v w : ℤ) → le_z v w ≡ false → coded v ≤ coded w
unfolding coded
coded_gt (pos a) (pos b) e = omega (arith, leb-false a b e)
coded_gt (pos a) (negsuc b) e = omega arith
coded_gt (negsuc a) (pos b) e = let z : ◌≡◌ {A = ℕ} 0 1 = cc in absurd (omega arith)
coded_gt (negsuc a) (negsuc b) e = omega (arith, leb-false b a e)

-- ---- the machine's sixteen signed bits

-- a weight that went by its bits
pub limited_fits : (w : ℤ) → Limited w → SFits w16 w
limited_fits (pos k) h = let p : k ≤ 1000 = leb→le _ _ h.high.le in record { sfits = omega arith }
limited_fits (negsuc k) h = let p : k ≤ 999 = leb→le _ _ h.low.le in record { sfits = omega arith }

-- 1,000 less it, which is not negative
lowered : (w : ℤ) → Limited w → pos 1000 -ℤ w ≡ pos (coded w)
unfolding coded
lowered (pos zero) h = refl
lowered (pos (suc k)) h = let p : suc k ≤ 1000 = leb→le _ _ h.high.le in rw (le-ltb 1000 (suc k) p) refl
lowered (negsuc k) h = refl

lowered16 : (w : ℤ) → Limited w → pos 1000 -ℤ to_z w16 (of_z w16 w) ≡ pos (coded w)
lowered16 w h = rw (to_z-of_z w16 w (limited_fits w h)) (lowered w h)

pub coded_is : (w : ℤ) → Limited w → nat_abs (to_z w16 (of_z w16 (pos 1000 -ℤ to_z w16 (of_z w16 w)))) ≡ coded w
coded_is w h =
    ap (λ (z : ℤ). nat_abs (to_z w16 (of_z w16 z))) (lowered16 w h)
    ∙ ap nat_abs (to_z-of_z w16 (pos (coded w)) (record { sfits = omega (arith, coded_most w h) }))

pub told_limited : (w : ℤ) → Limited w → Limited (to_z w16 (of_z w16 w))
told_limited w h = rw (to_z-of_z w16 w (limited_fits w h)) h

pub told_coded : (w : ℤ) (r : ℕ) → SFits w16 w → r ≡ coded (to_z w16 (of_z w16 w)) → r ≡ coded w
told_coded w r f e = e ∙ ap coded (to_z-of_z w16 w f)

-- ---- clashes

module _ (n : ℕ) (few : n ≤ 24) (c : Clash) (f : ClashFits n c) where
  pub lift_most : lift c.d ≤ 44
  unfolding lift
  lift_most = go c.d f.high
    where
      go : (d : ℤ) → d ≤ℤ pos 22 → lift d ≤ 44
      go (pos k) h = let p : k ≤ 22 = leb→le _ _ h.le in omega arith
      go (negsuc k) h = omega arith

  pub clash_i : code_of c / 2048 ≡ c.i
  unfolding code_of
  clash_i = omega (arith, lift_most, f.i, f.j)

  pub clash_j : code_of c / 64 % 32 ≡ c.j
  unfolding code_of
  clash_j = omega (arith, lift_most, f.i, f.j)

  pub clash_d : code_of c % 64 ≡ lift c.d
  unfolding code_of
  clash_d = omega (arith, lift_most, f.i, f.j)

-- 1 − (k + 2)
below_0 : (k : ℕ) → sub_ℕ 1 (suc (suc k)) ≡ negsuc k
below_0 k = rw (lt-ltb 1 (suc (suc k)) (omega arith)) (ap negsuc (omega arith))

-- −k − 1, for a small k
few_below : (k : ℕ) → k ≤ 21 → Limited (negsuc k)
few_below k h = record { low = record { le = le→leb k 999 (omega arith) }; high = record { le = tt } }

few_above : (k : ℕ) → k ≤ 23 → Limited (pos k)
few_above k h = record { low = record { le = tt }; high = record { le = le→leb k 1000 (omega arith) } }

-- d + 1, the weight of side 0
pub side0_code : (d : ℤ) → negsuc 21 ≤ℤ d → d ≤ℤ pos 22 → coded (d +ℤ pos 1) ≡ 1021 - lift d
unfolding coded lift
side0_code (pos k) l h = omega arith
side0_code (negsuc zero) l h = refl
side0_code (negsuc (suc k)) l h = let p : suc k ≤ 21 = leb→le (suc k) 21 l.le in rw (below_0 k) (omega arith)

pub side0_limited : (d : ℤ) → negsuc 21 ≤ℤ d → d ≤ℤ pos 22 → Limited (d +ℤ pos 1)
side0_limited (pos k) l h = let p : k ≤ 22 = leb→le k 22 h.le in few_above (k + 1) (omega arith)
side0_limited (negsuc zero) l h = few_above 0 (omega arith)
side0_limited (negsuc (suc k)) l h =
    let p : suc k ≤ 21 = leb→le (suc k) 21 l.le in rw (below_0 k) (few_below k (omega arith))

-- 1 − d, the weight of side 1
pub side1_code : (d : ℤ) → negsuc 21 ≤ℤ d → d ≤ℤ pos 22 → coded (pos 1 -ℤ d) ≡ lift d + 977
unfolding coded lift
side1_code (pos zero) l h = refl
side1_code (pos (suc zero)) l h = refl
side1_code (pos (suc (suc k))) l h =
    let p : suc (suc k) ≤ 22 = leb→le (suc (suc k)) 22 h.le in rw (below_0 k) (omega arith)
side1_code (negsuc k) l h = let p : k ≤ 21 = leb→le k 21 l.le in omega arith

pub side1_limited : (d : ℤ) → negsuc 21 ≤ℤ d → d ≤ℤ pos 22 → Limited (pos 1 -ℤ d)
side1_limited (pos zero) l h = few_above 1 (omega arith)
side1_limited (pos (suc zero)) l h = few_above 0 (omega arith)
side1_limited (pos (suc (suc k))) l h =
    let p : suc (suc k) ≤ 22 = leb→le (suc (suc k)) 22 h.le in rw (below_0 k) (few_below k (omega arith))
side1_limited (negsuc k) l h = let p : k ≤ 21 = leb→le k 21 l.le in few_above (1 + suc k) (omega arith)
