-- Two jobs keep the rest of every station exactly when their distance is no clash (02, Q-5), and starts keep the stations exactly when no listed clash is met.
use Prim.Native.Nat.{ℕ, suc, ◌+◌, ◌-◌, ◌≤◌, ◌<◌}
use mathlib.Core.Path.{◌≡◌, refl, ap, sym, ◌∙◌, subst}
use mathlib.Core.Bool.{Bool, true, false, ◌&&◌}
use mathlib.Core.Logic.{◌↔◌}
use mathlib.Core.List.Memᴰ
use mathlib.Core.List.{List, Memᴰ}
use native.Mathlib.Omega.{arith}
use lib.IntN.{ℤ, sub_ℕ, ◌-ℤ◌}
use Rattle.model.specs.declared.Batch.{Batch}
use Rattle.model.specs.Common.{count, any, keep, joined}
use Rattle.model.specs.Batch.{ticks, mask, bit, rest_of}
use Rattle.model.specs.Plan.{start, Holds, too_close, Apart, KeepsStations}
use Rattle.model.specs.Clash.{Clash, meet, clashing, distances, clashes_of, clashes}
use Rattle.model.specs.Search.{met}
use Rattle.model.proofs.BoolLaws.{apart, decide, both, and, T_true, true_T}
use Rattle.model.proofs.DistanceLaws.{eq_z_eq, eq_z_refl, sum_sub, between_some, sub_sub, close_le}
use Rattle.model.proofs.ListLaws.{any_some, some_any, keep_some, some_keep, map_some, some_map, joined_some, some_joined, count_some, some_count}
use Rattle.model.proofs.OrderLaws.{keep_in}

unfoldable pub Unmet : Batch → List ℕ → Type 0
Unmet b ts = (c : Clash) → Memᴰ c (clashes b) → met ts c ≡ false

-- ---- what a clash is: a station that both hold, in ticks that are too close there

pub record Shared (p : Batch) (i j : ℕ) (d : ℤ) : Type 0 where
  pub a : ℕ
  pub b : ℕ
  pub s : ℕ
  pub a_in : a < ticks p i
  pub b_in : b < ticks p j
  pub s_in : s < 16
  pub first : bit (mask p i a) s ≡ true
  pub second : bit (mask p j b) s ≡ true
  pub close : too_close (rest_of p s) (sub_ℕ a b -ℤ d) ≡ true

module _ (p : Batch) (i j : ℕ) (d : ℤ) where
  abbrev at : ℕ → ℕ → ℕ → Bool
  at a b s = bit (mask p i a) s && bit (mask p j b) s && too_close (rest_of p s) (sub_ℕ a b -ℤ d)

  shared_at : (a b s : ℕ) → a < ticks p i → b < ticks p j → s < 16 → at a b s ≡ true → Shared p i j d
  shared_at a b s ha hb hs e =
      let r = both (bit (mask p i a) s && bit (mask p j b) s) _ e in
      let q = both (bit (mask p i a) s) _ r.0 in
      record { a = a; b = b; s = s; a_in = ha; b_in = hb; s_in = hs; first = q.0; second = q.1; close = r.1 }

  pub clashing_shared : clashing p i j d ≡ true → Shared p i j d
  unfolding clashing meet
  clashing_shared e =
      let a = any_some (λ a. any (λ b. any (at a b) (count 0 16)) (count 0 (ticks p j))) (count 0 (ticks p i)) e in
      let b = any_some (λ b. any (at a.0 b) (count 0 16)) (count 0 (ticks p j)) a.2 in
      let s = any_some (at a.0 b.0) (count 0 16) b.2 in
      shared_at a.0 b.0 s.0 (omega (arith, (count_some 0 (ticks p i) a.0 a.1).1)) (omega (arith, (count_some 0 (ticks p j) b.0 b.1).1)) (omega (arith, (count_some 0 16 s.0 s.1).1)) s.2

  pub shared_clashing : Shared p i j d → clashing p i j d ≡ true
  unfolding clashing meet
  shared_clashing h =
      some_any (λ a. any (λ b. any (at a b) (count 0 16)) (count 0 (ticks p j))) (count 0 (ticks p i))
      (some_count 0 (ticks p i) h.a (omega arith) (omega (arith, h.a_in)))
      (some_any (λ b. any (at h.a b) (count 0 16)) (count 0 (ticks p j))
      (some_count 0 (ticks p j) h.b (omega arith) (omega (arith, h.b_in)))
      (some_any (at h.a h.b) (count 0 16) (some_count 0 16 h.s (omega arith) (omega (arith, h.s_in))) (and (and h.first h.second) h.close)))

-- ---- the law: two jobs keep the rest at all stations exactly when their distance is no clash, for every rest and every distance

-- ticks a and b of jobs that start at t and u, in the plan's own ticks
pub in_plan : (r a b t u : ℕ) → too_close r (sub_ℕ a b -ℤ sub_ℕ u t) ≡ too_close r (sub_ℕ (t + a) (u + b))
in_plan r a b t u = ap (too_close r) (sub_sub a b u t)

pub apart_iff : (p : Batch) (ts : List ℕ) (i j : ℕ) → Apart p ts i j ↔ (clashing p i j (sub_ℕ (start ts j) (start ts i)) ≡ false)
unfolding Apart Holds
apart_iff p ts i j = (forth, back)
  where
    d : ℤ
    d = sub_ℕ (start ts j) (start ts i)

    forth : Apart p ts i j → clashing p i j d ≡ false
    forth free =
        decide (clashing p i j d) λ e.
        let x = clashing_shared p i j d e in
        free x.s (start ts i + x.a) (start ts j + x.b) x.s_in (x.a, x.a_in, refl, true_T x.first) (x.b, x.b_in, refl, true_T x.second)
        (true_T (sym (in_plan (rest_of p x.s) x.a x.b (start ts i) (start ts j)) ∙ x.close))

    back : clashing p i j d ≡ false → Apart p ts i j
    back none s x y hs (a, ha, ea, ta) (b, hb, eb, tb) c =
        apart (sym none
        ∙ shared_clashing p i j d (
        record {
          a = a;
          b = b;
          s = s;
          a_in = ha;
          b_in = hb;
          s_in = hs;
          first = T_true _ ta;
          second = T_true _ tb;
          close =
              in_plan (rest_of p s) a b (start ts i) (start ts j)
              ∙ ap (λ (z : ℤ). too_close (rest_of p s) z) (λ k. sub_ℕ (sym ea k) (sym eb k)) ∙ T_true _ c;
        }
        ))

-- ---- the list

pub record Listed (p : Batch) (c : Clash) : Type 0 where
  pub rising : c.i < c.j
  pub known : c.j < p.n
  pub clashes_at : clashing p c.i c.j c.d ≡ true
  pub lifted : ℕ
  pub lifted_in : lifted < 45
  pub distance : sub_ℕ lifted 22 ≡ c.d

listed_at : (p : Batch) (c : Clash) (i j : ℕ) → i < j → j < p.n → Memᴰ c (clashes_of p i j) → Listed p c
unfolding clashes_of distances
listed_at p c i j h g m =
    let d = map_some {A = ℤ} {B = Clash} (λ d. record { i = i; j = j; d = d }) (keep (clashing p i j) distances) m in
    let k = map_some (λ k. sub_ℕ k 22) (count 0 45) (keep_in (λ (x y : ℤ). x ≡ y) (clashing p i j) distances d.0 d.1) in
    subst (λ (c : Clash). Listed p c) (sym d.2) (
    record { rising = h; known = g; clashes_at = keep_some (clashing p i j) distances d.1; lifted = k.0; lifted_in = omega (arith, (count_some 0 45 k.0 k.1).1); distance = sym k.2 }
    )

pub clash_listed : (p : Batch) (c : Clash) → Memᴰ c (clashes p) → Listed p c
unfolding clashes
clash_listed p c m =
    let i = joined_some (λ i. joined (clashes_of p i) (count (suc i) (p.n - suc i))) (count 0 p.n) m in
    let j = joined_some (clashes_of p i.0) (count (suc i.0) (p.n - suc i.0)) i.2 in
    let h = count_some (suc i.0) (p.n - suc i.0) j.0 j.1 in
    listed_at p c i.0 j.0 h.0 (omega (arith, h.1, (count_some 0 p.n i.0 i.1).1)) j.2

-- −22 to 22 are all the distances at which tables of at most 16 ticks clash, where no station rests more than 7 ticks
pub distance_listed : (p : Batch) (i j : ℕ) (d : ℤ) → ticks p i ≤ 16 → ticks p j ≤ 16 → ((s : ℕ) → s < 16 → rest_of p s ≤ 7) → clashing p i j d ≡ true → Memᴰ d distances
unfolding distances
distance_listed p i j d hi hj low e =
    let x = clashing_shared p i j d e in
    let w = between_some d in
    let u = w.later in
    let t = w.earlier in
    let near = close_le (rest_of p x.s) (t + x.a) (u + x.b) (sym (in_plan (rest_of p x.s) x.a x.b t u) ∙ ap (λ (z : ℤ). too_close (rest_of p x.s) (sub_ℕ x.a x.b -ℤ z)) w.is ∙ x.close) in
    let r : rest_of p x.s ≤ 7 = low x.s x.s_in in
    Memᴰ.cast (sym w.is ∙ sum_sub u t (u + 22 - t) 22 (omega (arith, near.0, near.1, x.a_in, x.b_in)))
    (some_map (λ k. sub_ℕ k 22) (count 0 45) (some_count 0 45 (u + 22 - t) (omega arith) (omega (arith, near.0, near.1, x.a_in, x.b_in))))

pub clashing_listed : (p : Batch) (i j : ℕ) (d : ℤ) → i < j → j < p.n → Memᴰ d distances → clashing p i j d ≡ true → Memᴰ (record { i = i; j = j; d = d }) (clashes p)
unfolding clashes clashes_of
clashing_listed p i j d h g m e =
    some_joined (λ i. joined (clashes_of p i) (count (suc i) (p.n - suc i))) (count 0 p.n) (some_count 0 p.n i (omega arith) (omega arith))
    (some_joined (clashes_of p i) (count (suc i) (p.n - suc i)) (some_count (suc i) (p.n - suc i) j h (omega arith))
    (some_map {A = ℤ} {B = Clash} (λ d. record { i = i; j = j; d = d }) (keep (clashing p i j) distances) (some_keep (clashing p i j) distances m e)))

-- ---- so starts keep the stations exactly when they meet no listed clash

pub apart_unmet : (p : Batch) (ts : List ℕ) → KeepsStations p ts → Unmet p ts
unfolding KeepsStations Unmet met
apart_unmet p ts free c m =
    let l = clash_listed p c m in
    decide (met ts c) λ e.
    apart (sym ((apart_iff p ts c.i c.j).0 (free c.i c.j l.rising l.known)) ∙ ap (clashing p c.i c.j) (eq_z_eq _ _ e) ∙ l.clashes_at)

pub unmet_apart : (p : Batch) (ts : List ℕ) → ((i : ℕ) → i < p.n → ticks p i ≤ 16) → ((s : ℕ) → s < 16 → rest_of p s ≤ 7) → Unmet p ts → KeepsStations p ts
unfolding KeepsStations Unmet met
unmet_apart p ts short low un i j h g =
    let d = sub_ℕ (start ts j) (start ts i) in
    (apart_iff p ts i j).1 (decide (clashing p i j d) λ e.
    apart (sym (un (record { i = i; j = j; d = d }) (clashing_listed p i j d h g (distance_listed p i j d (short i (omega arith)) (short j g) low e) e)) ∙ eq_z_refl d))
