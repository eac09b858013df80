-- Where no station rests, stations and clashes are 01's, as specs/First has them: the same plans keep the stations, and the same clashes are listed, with the same numbers
-- (02, Q-5: "with r = 0 as today's rule").
use Prim.Native.Nat.{ℕ, suc, ◌+◌, ◌-◌, ◌≤◌, ◌<◌}
use mathlib.Core.Path.{◌≡◌, refl, ap, sym, ◌∙◌, subst}
use mathlib.Core.Logic.{◌⊎◌, inl, inr, ◌↔◌}
use mathlib.Core.Bool.{Bool, true, false, ◌&&◌}
use mathlib.Core.List.{List, [], ◌++◌, append-nil, map}
use native.Mathlib.Omega.{arith}
use lib.IntN.{ℤ, sub_ℕ, ◌-ℤ◌}
use Rattle.model.specs.declared.Batch.{Batch}
use Rattle.model.specs.Common.{count, any, keep, eq_z}
use Rattle.model.specs.Limits.{stations, most_ticks}
use Rattle.model.specs.Batch.{ticks, mask, bit, rest_of}
use Rattle.model.specs.Plan.{Holds, too_close, Apart, KeepsStations}
use Rattle.model.specs.Clash.{clashing, distances, clashes_of, clashes}
use Rattle.model.specs.First.{KeepsStations01, meet01, clashing01, distances01, clashes_of01, clashes01}
use Rattle.model.proofs.BoolLaws.{decide, both, and, T_true, true_T, same_test}
use Rattle.model.proofs.ListLaws.{any_some, some_any, map_some, count_some, some_count, joined_cong, keep_append, keep_none}
use Rattle.model.proofs.DistanceLaws.{eq_z_eq, eq_z_refl, sub_sum, sum_sub, between_some, close_le, le_close}
use Rattle.model.proofs.ClashLaws.{Shared, clashing_shared, shared_clashing, in_plan}

-- no station rests
abbrev pub NoRests : Batch → Type 0
NoRests b = (s : ℕ) → s < stations → rest_of b s ≡ 0

-- ---- a clash of 01: a station that both hold, at that distance

record Shared01 (p : Batch) (i j : ℕ) (d : ℤ) : Type 0 where
  a : ℕ
  b : ℕ
  s : ℕ
  a_in : a < ticks p i
  b_in : b < ticks p j
  s_in : s < 16
  distance : sub_ℕ a b ≡ d
  first : bit (mask p i a) s ≡ true
  second : bit (mask p j b) s ≡ true

module _ (p : Batch) (i j : ℕ) (d : ℤ) where
  abbrev at : ℕ → ℕ → Bool
  at a b = eq_z (sub_ℕ a b) d && any (λ s. bit (mask p i a) s && bit (mask p j b) s) (count 0 16)

  clashing_shared01 : clashing01 p i j d ≡ true → Shared01 p i j d
  unfolding clashing01 meet01
  clashing_shared01 e =
      let a = any_some (λ a. any (at a) (count 0 (ticks p j))) (count 0 (ticks p i)) e in
      let b = any_some (at a.0) (count 0 (ticks p j)) a.2 in
      let r = both (eq_z (sub_ℕ a.0 b.0) d) _ b.2 in
      let s = any_some (λ s. bit (mask p i a.0) s && bit (mask p j b.0) s) (count 0 16) r.1 in
      let q = both (bit (mask p i a.0) s.0) _ s.2 in
      record {
        a = a.0;
        b = b.0;
        s = s.0;
        a_in = omega (arith, (count_some 0 (ticks p i) a.0 a.1).1);
        b_in = omega (arith, (count_some 0 (ticks p j) b.0 b.1).1);
        s_in = omega (arith, (count_some 0 16 s.0 s.1).1);
        distance = eq_z_eq (sub_ℕ a.0 b.0) d r.0;
        first = q.0;
        second = q.1;
      }

  shared_clashing01 : Shared01 p i j d → clashing01 p i j d ≡ true
  unfolding clashing01 meet01
  shared_clashing01 h =
      some_any (λ a. any (at a) (count 0 (ticks p j))) (count 0 (ticks p i)) (some_count 0 (ticks p i) h.a (omega arith) (omega (arith, h.a_in)))
      (some_any (at h.a) (count 0 (ticks p j)) (some_count 0 (ticks p j) h.b (omega arith) (omega (arith, h.b_in)))
      (and (ap (λ (z : ℤ). eq_z z d) h.distance ∙ eq_z_refl d)
      (some_any (λ s. bit (mask p i h.a) s && bit (mask p j h.b) s) (count 0 16) (some_count 0 16 h.s (omega arith) (omega (arith, h.s_in))) (and h.first h.second))))

-- further apart than 15, tables of 16 ticks do not clash
far01 : (p : Batch) (i j k : ℕ) → ticks p i ≤ 16 → ticks p j ≤ 16 → (k < 7) ⊎ (38 ≤ k) → clashing01 p i j (sub_ℕ k 22) ≡ false
far01 p i j k hi hj far =
    decide (clashing01 p i j (sub_ℕ k 22)) λ e.
    let x = clashing_shared01 p i j (sub_ℕ k 22) e in
    by far x (sub_sum x.a x.b k 22 x.distance)
  where
    by : (k < 7) ⊎ (38 ≤ k) → {d : ℤ} → (x : Shared01 p i j d) → x.a + 22 ≡ k + x.b → ⊥
    by (inl h) x e = omega (arith, x.a_in, x.b_in)
    by (inr h) x e = omega (arith, x.a_in, x.b_in)

module _ (b : Batch) (none : NoRests b) where
  -- ---- stations: ticks are too close only where they are one tick

  same_tick : (s x y : ℕ) → s < 16 → too_close (rest_of b s) (sub_ℕ x y) ≡ true → x ≡ y
  same_tick s x y h e = let r = close_le (rest_of b s) x y e in omega (arith, none s h, r.0, r.1)

  pub stations_first : (ts : List ℕ) → KeepsStations b ts ↔ KeepsStations01 b ts
  unfolding KeepsStations Apart KeepsStations01
  stations_first ts = (
    λ v i j s x h g hs p q. v i j h g s x x hs p q (true_T (le_close (rest_of b s) x x (omega arith) (omega arith))),
    λ v i j h g s x y hs p q c. v i j s x h g hs p (subst (Holds b ts j s) (sym (same_tick s x y hs (T_true _ c))) q),
  )

  -- ---- clashes, at every distance

  pub clashing_first : (i j : ℕ) (d : ℤ) → clashing b i j d ≡ clashing01 b i j d
  clashing_first i j d = same_test (clashing b i j d) (clashing01 b i j d) (λ e. shared_clashing01 b i j d (forth (clashing_shared b i j d e))) (λ e. shared_clashing b i j d (back (clashing_shared01 b i j d e)))
    where
      forth : Shared b i j d → Shared01 b i j d
      forth x =
          let w = between_some d in
          let z = same_tick x.s (w.earlier + x.a) (w.later + x.b) x.s_in (sym (in_plan (rest_of b x.s) x.a x.b w.earlier w.later)
          ∙ ap (λ (z : ℤ). too_close (rest_of b x.s) (sub_ℕ x.a x.b -ℤ z)) w.is ∙ x.close) in
          record { a = x.a; b = x.b; s = x.s; a_in = x.a_in; b_in = x.b_in; s_in = x.s_in; first = x.first; second = x.second; distance = sum_sub x.a x.b w.later w.earlier (omega arith) ∙ w.is }

      back : Shared01 b i j d → Shared b i j d
      back x =
          record {
            a = x.a;
            b = x.b;
            s = x.s;
            a_in = x.a_in;
            b_in = x.b_in;
            s_in = x.s_in;
            first = x.first;
            second = x.second;
            close =
                ap (λ (z : ℤ). too_close (rest_of b x.s) (sub_ℕ x.a x.b -ℤ z)) (sym x.distance) ∙ in_plan (rest_of b x.s) x.a x.b x.b x.a
                ∙ le_close (rest_of b x.s) (x.b + x.a) (x.a + x.b) (omega arith) (omega arith);
          }

  -- ---- the list: no clash stands before −15 or after 15

  module _ (i j : ℕ) (hi : ticks b i ≤ 16) (hj : ticks b j ≤ 16) where
    abbrev low : List ℤ
    low = map (λ k. sub_ℕ k 22) (count 0 7)

    abbrev high : List ℤ
    high = map (λ k. sub_ℕ k 22) (count 38 7)

    split : distances ≡ low ++ (distances01 ++ high)
    unfolding distances distances01 count
    split = refl

    none_in : (a k : ℕ) → ((x : ℕ) → a ≤ x → x < a + k → (x < 7) ⊎ (38 ≤ x)) → keep (clashing01 b i j) (map (λ k. sub_ℕ k 22) (count a k)) ≡ []
    none_in a k far =
        keep_none (clashing01 b i j) (map (λ k. sub_ℕ k 22) (count a k)) (λ d m.
        let x = map_some (λ k. sub_ℕ k 22) (count a k) m in
        let h = count_some a k x.0 x.1 in
        ap (clashing01 b i j) x.2 ∙ far01 b i j x.0 hi hj (far x.0 h.0 h.1))

    pub pair_first : clashes_of b i j ≡ clashes_of01 b i j
    unfolding clashes_of clashes_of01
    pair_first =
        ap (map (λ d. record { i = i; j = j; d = d })) (
        (λ z. keep (λ d. clashing_first i j d z) distances) ∙ ap (keep (clashing01 b i j)) split
        ∙ keep_append (clashing01 b i j) low (distances01 ++ high)
        ∙ (λ z. none_in 0 7 (λ x h g. inl (omega arith)) z ++ keep_append (clashing01 b i j) distances01 high z)
        ∙ (λ z. keep (clashing01 b i j) distances01 ++ none_in 38 7 (λ x h g. inr (omega arith)) z) ∙ append-nil (keep (clashing01 b i j) distances01)
        )

  pub clashes_first : ((i : ℕ) → i < b.n → ticks b i ≤ most_ticks) → clashes b ≡ clashes01 b
  unfolding clashes clashes01
  clashes_first short =
      joined_cong _ _ (count 0 b.n) (λ i m.
      joined_cong _ _ (count (suc i) (b.n - suc i)) (λ j k.
      let h = count_some 0 b.n i m in
      let g = count_some (suc i) (b.n - suc i) j k in
      pair_first i j (short i (omega (arith, h.1))) (short j (omega (arith, h.1, g.1)))))
