-- A scan of the codes finds the first clash that the starts meet.
use Prim.Native.Nat.{ℕ, zero, suc, ◌+◌, ◌-◌, ◌/◌, ◌%◌, ◌≤◌, ◌<◌}
use mathlib.Core.Path.{◌≡◌, refl, sym, ap, ◌∙◌}
use mathlib.Core.Bool.{Bool, true, false}
use mathlib.Core.List.{List, [], ◌∷◌, map, Memᴰ}
use mathlib.Core.Option.{Option as Found, some}
use native.Mathlib.Numerals.{add-one}
use native.Mathlib.Omega.{arith}
use native.Mathlib.Decide.{ℕ_discrete}
use lib.IntN.{ℤ, sub_ℕ}
use lib.Dec.{eqb}
use borrow.Author.Tests.{eq-eqb, ne_eqb}
use lib.ListN.{get_or}
use Rattle.model.specs.Common.{count, eq_z}
use Rattle.model.specs.Clash.{Clash}
use Rattle.model.specs.Plan.{start}
use Rattle.model.specs.Search.{met, first_met}
use Rattle.model.proofs.BoolLaws.{apart, decide}
use Rattle.model.proofs.SeqLaws.{count_more, count_end}
use Rattle.model.proofs.DistanceLaws.{eq_z_eq, eq_z_refl, sub_sum, sum_sub}
use Rattle.std.specs.Prelude.{Option, None, Some}
use Rattle.clashes.specs.Code.{clash_of}
use Rattle.clashes.specs.First.{Unmet, clashes_in, met_of, first_code}

-- the test of two distances is one of two sums
eq_z_sum : (p q a b : ℕ) → eqb (p + b) (q + a) ≡ eq_z (sub_ℕ p q) (sub_ℕ a b)
eq_z_sum p q a b = go (ℕ_discrete (p + b) (q + a))
  where
    go : Dec (p + b ≡ q + a) → eqb (p + b) (q + a) ≡ eq_z (sub_ℕ p q) (sub_ℕ a b)
    go (yes e) =
        eq-eqb (p + b) (q + a) e
        ∙ sym (ap (λ (z : ℤ). eq_z z (sub_ℕ a b)) (sum_sub p q a b (omega arith)) ∙ eq_z_refl (sub_ℕ a b))
    go (no e) =
        ne_eqb (p + b) (q + a) e
        ∙ sym (decide (eq_z (sub_ℕ p q) (sub_ℕ a b)) λ t. e (omega (arith, sub_sum p q a b (eq_z_eq (sub_ℕ p q) (sub_ℕ a b) t))))

-- t_j − t_i = d for the clash of code x, without the integers; t and u are the starts of j and i
pub code_met : (ts : List ℕ) (x y t u : ℕ) → y ≡ x → t ≡ get_or ts (y / 64 % 32) 0 → u ≡ get_or ts (y / 2048) 0 → eqb (t + 22) (u + y % 64) ≡ met ts (clash_of x)
unfolding met clash_of start
code_met ts x y t u e p q = rw (p, q, e) (eq_z_sum (get_or ts (x / 64 % 32) 0) (get_or ts (x / 2048) 0) (x % 64) 22)

-- the first clash is met, or it is not
met_now : (c : Clash) (cs : List Clash) (ts : List ℕ) (k : ℕ) → met ts c ≡ true → first_met (c ∷ cs) ts k ≡ some k
unfolding first_met
met_now c cs ts k e = go (met ts c) e
  where
    go : (p : Bool) → p ≡ true → (elim p [ true ↦ some k | false ↦ first_met cs ts (suc k) ]) ≡ some k
    go true e = refl
    go false e = apart e

met_later : (c : Clash) (cs : List Clash) (ts : List ℕ) (k : ℕ) → met ts c ≡ false → first_met (c ∷ cs) ts k ≡ first_met cs ts (suc k)
unfolding first_met
met_later c cs ts k e = go (met ts c) e
  where
    go : (p : Bool) → p ≡ false → (elim p [ true ↦ some k | false ↦ first_met cs ts (suc k) ]) ≡ first_met cs ts (suc k)
    go true e = apart (sym e)
    go false e = refl

-- the first that is met from code k on
unfoldable pub first_from : List ℕ → List ℕ → ℕ → ℕ → Option ℕ
first_from codes ts k n = met_of (first_met (map (λ k. clash_of (get_or codes k 0)) (count k (n - k))) ts k)

module _ (codes ts : List ℕ) (k n : ℕ) where
  -- code k is met: it is the first
  pub first_found : (r : Bool) → k < n → r ≡ met ts (clash_of (get_or codes k 0)) → r ≡ true → Some k ≡ first_from codes ts k n
  unfolding first_from met_of
  first_found r h e t =
      rw (count_more k n h)
      (sym (ap met_of (met_now (clash_of (get_or codes k 0)) (map (λ k. clash_of (get_or codes k 0)) (count (k + 1) (n - (k + 1)))) ts k (sym e ∙ t))))

  -- it is not: go on from k + 1
  pub first_more : (r : Bool) → k < n → r ≡ met ts (clash_of (get_or codes k 0)) → r ≡ false → first_from codes ts (k + 1) n ≡ first_from codes ts k n
  unfolding first_from
  first_more r h e t =
      rw (count_more k n h)
      (rw (met_later (clash_of (get_or codes k 0)) (map (λ k. clash_of (get_or codes k 0)) (count (k + 1) (n - (k + 1)))) ts k (sym e ∙ t), add-one k))

  -- no code is left
  pub first_end : n ≤ k → None ≡ first_from codes ts k n
  unfolding first_from first_met met_of
  first_end h = rw (count_end k n h)

-- from code 0 on, it is the first of all
pub first_all : (codes ts : List ℕ) (n : ℕ) → first_from codes ts 0 n ≡ first_code codes n ts
unfolding first_from first_code clashes_in
first_all codes ts n = let e : n - 0 ≡ n = omega arith in rw e

-- and from code k on, where none before it is met
pub first_rest : (codes ts : List ℕ) (n k : ℕ) → k ≤ n → Unmet codes ts k → first_from codes ts k n ≡ first_code codes n ts
first_rest codes ts n zero h u = first_all codes ts n
first_rest codes ts n (suc k) h u =
    (rw add-one at (first_more codes ts k n false (omega arith) (sym (u.each k (omega arith))) refl))
    ∙ first_rest codes ts n k (omega arith) (record { each = λ i g. u.each i (omega arith) })

-- none is met before code 0
pub unmet_none : (codes ts : List ℕ) → Unmet codes ts 0
unmet_none codes ts = record { each = λ k h. absurd (omega arith) }

-- starts that meet the same clashes have the same first
pub first_agree : (cs : List Clash) (us ts : List ℕ) (k : ℕ) → ((c : Clash) → Memᴰ c cs → met us c ≡ met ts c) → first_met cs us k ≡ first_met cs ts k
unfolding first_met
first_agree [] us ts k same = refl
first_agree (c ∷ cs) us ts k same =
    go (met us c) (met ts c) (same c (Memᴰ.head refl)) (first_agree cs us ts (suc k) (λ d m. same d (Memᴰ.tail m)))
  where
    go : (p q : Bool) → p ≡ q → first_met cs us (suc k) ≡ first_met cs ts (suc k)
        → ◌≡◌ {A = Found ℕ} (elim p [ true ↦ some k | false ↦ first_met cs us (suc k) ]) (elim q [ true ↦ some k | false ↦ first_met cs ts (suc k) ])
    go true true e rec = refl
    go true false e rec = apart (sym e)
    go false true e rec = apart e
    go false false e rec = rec
