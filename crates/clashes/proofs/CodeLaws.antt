-- A code names its clash: what the parts of the code of a clash in range are.
use Prim.Native.Nat.{ℕ, suc, ◌+◌, ◌-◌, ◌*◌, ◌/◌, ◌%◌, ◌<◌}
use mathlib.Core.Path.{◌≡◌, refl, sym, ap, ◌∙◌}
use mathlib.Core.Bool.{Bool, true, false, cond}
use mathlib.Core.List.{Memᴰ}
use native.Mathlib.Omega.{arith}
use lib.IntN.{ℤ, pos, negsuc, sub_ℕ}
use lib.Dec.{ltb}
use borrow.Author.Tests.{ltb-true, ltb-false}
use Rattle.model.specs.declared.Batch.{Batch}
use Rattle.model.specs.Clash.{Clash, clashes}
use Rattle.model.proofs.ClashLaws.{Listed, clash_listed}
use Rattle.clashes.specs.Code.{lift, code_of, clash_of}
use Rattle.clashes.specs.List.{Tabled}
use Rattle.clashes.specs.First.{Named}

-- a distance that is k − 22 is lifted to k
pub lift_sub : (k : ℕ) → lift (sub_ℕ k 22) ≡ k
unfolding lift
lift_sub k = go (ltb k 22) refl
  where
    go : (c : Bool) → ltb k 22 ≡ c → lift (cond c (negsuc (22 - suc k)) (pos (k - 22))) ≡ k
    go true h = omega (arith, ltb-true k 22 h)
    go false h = omega (arith, ltb-false k 22 h)

-- a clash of two of 24 jobs at a distance from −22 to 22, which is k − 22
pub record Ranged (c : Clash) : Type 0 where
  pub rising : c.i < c.j
  pub known : c.j < 24
  pub k : ℕ
  pub k_in : k < 45
  pub distance : c.d ≡ sub_ℕ k 22

-- no other is listed
ranged_at : (b : Batch) (c : Clash) → Tabled b → Listed b c → Ranged c
ranged_at b c t l = record { rising = l.rising; known = omega (arith, l.known, t.few); k = l.lifted; k_in = l.lifted_in; distance = sym l.distance }

-- every listed clash is in range
pub listed_ranged : (b : Batch) → Tabled b → (c : Clash) → Memᴰ c (clashes b) → Ranged c
listed_ranged b t c m = ranged_at b c t (clash_listed b c m)

-- the code of a clash in range, with its distance as k − 22
code_sum : (c : Clash) (r : Ranged c) → code_of c ≡ c.i * 2048 + c.j * 64 + r.k
unfolding code_of
code_sum c r = let e : lift c.d ≡ r.k = ap lift r.distance ∙ lift_sub r.k in rw e

-- clashes with the same parts are the same
same_clash : {i i' j j' : ℕ} {d d' : ℤ} → i ≡ i' → j ≡ j' → d ≡ d' → ◌≡◌ {A = Clash} (record { i = i; j = j; d = d }) (record { i = i'; j = j'; d = d' })
same_clash p q r = rw (p, q, r)

-- the code gives its clash back
pub code_back : (c : Clash) → Ranged c → clash_of (code_of c) ≡ c
unfolding clash_of
code_back c r =
    let e = code_sum c r in
    let low : code_of c % 64 ≡ r.k = omega (arith, r.k_in) in
    let high : code_of c / 64 ≡ c.i * 32 + c.j = omega (arith, r.k_in) in
    same_clash (omega (arith, r.known, r.k_in)) (rw high (omega (arith, r.known)))
    (ap (λ (k : ℕ). sub_ℕ k 22) low ∙ sym r.distance)

-- it names two jobs
pub code_named : (c : Clash) → Ranged c → Named (code_of c)
code_named c r =
    rw (code_sum c r)
    (record { first = omega (arith, r.rising, r.known, r.k_in); second = omega (arith, r.known, r.k_in) })

-- at a distance that is 22 at most
pub code_near : (c : Clash) → Ranged c → code_of c % 64 < 45
code_near c r = rw (code_sum c r) (omega (arith, r.k_in))
