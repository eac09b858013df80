-- The loop over the distances of a pair adds the pair's codes, and these are the codes of the model's clashes of the two jobs: the one's table, widened by the rests, meets
-- the other's exactly where the jobs clash.
use Prim.Native.Nat.{ℕ, zero, suc, ◌+◌, ◌-◌, ◌*◌, ◌≤◌, ◌<◌}
use mathlib.Core.Path.{◌≡◌, refl, sym, ap, ◌∙◌}
use mathlib.Core.Bool.{Bool, true, false}
use mathlib.Core.List.{List, map}
use mathlib.Core.Logic.{inl, inr}
use native.Mathlib.Omega.{arith}
use lib.IntN.{ℤ, sub_ℕ}
use Rattle.model.specs.declared.Job.{Job}
use Rattle.model.specs.declared.Batch.{Batch}
use Rattle.model.specs.Common.{count, keep}
use Rattle.model.specs.Batch.{job_of, ticks, mask, rest_of}
use Rattle.model.specs.Clash.{Clash, clashing, distances, clashes_of}
use Rattle.model.proofs.BoolLaws.{same_test}
use Rattle.model.proofs.SeqLaws.{count_more, count_end, map_map}
use Rattle.model.proofs.DistanceLaws.{close_le, le_close}
use Rattle.model.proofs.ClashLaws.{Shared, clashing_shared, shared_clashing, in_plan}
use Rattle.clashes.specs.declared.Clashes.{Clashes}
use Rattle.clashes.specs.Code.{lift, code_of}
use Rattle.tables.specs.Tables.{tables_meet}
use Rattle.tables.specs.Rest.{Longest, Widens}
use Rattle.clashes.specs.List.{put, add_all, pair_codes, Grown, Tabled}
use Rattle.clashes.proofs.SeqLaws.{keep_map}
use Rattle.clashes.proofs.CodeLaws.{lift_sub}
use Rattle.tables.proofs.MaskLaws.{shares_some, some_shares}
use Rattle.tables.proofs.TableLaws.{Meets, meets_some, some_meets, tables_apart}

module _ (low end : ℕ) (places : List ℕ) (second : Job) (base : ℕ) where
  -- the codes from the distance k − 22 on
  unfoldable pub pair_from : ℕ → List ℕ
  pair_from k = map (λ k. base + k) (keep (λ k. tables_meet low end places second (sub_ℕ k 15)) (count k (45 - k)))

  -- the loop has come from the list `from` to l at distance k − 22: what is left of the pair's codes completes it
  pub record Pairing (from l : Clashes) (k : ℕ) : Type 0 where
    pub within : k ≤ 45
    pub few : l.count ≤ from.count + k
    pub rest : add_all l (pair_from k) ≡ add_all from (pair_codes low end places second base)

  pair_none : (l : Clashes) → Pairing l l 0
  unfolding pair_from pair_codes
  pair_none l = record { within = omega arith; few = omega arith; rest = refl }

  -- with no distance left the pair is complete
  pair_end : (from l : Clashes) (k : ℕ) → Pairing from l k → 45 ≤ k → Grown from l (pair_codes low end places second base) 45
  unfolding add_all pair_from keep
  pair_end from l k p h = record { all = rw (count_end k 45 h) at p.rest; few = omega (arith, p.few, p.within) }

  module _ (from l m : Clashes) (k : ℕ) (r : Bool) (p : Pairing from l k) (h : k < 45) (e : r ≡ tables_meet low end places second (sub_ℕ k 15)) where
    -- one turn, which makes m of l
    turn : m.count ≤ l.count + 1 → add_all m (pair_from (k + 1)) ≡ add_all l (pair_from k) → Pairing from m (k + 1)
    turn n q = record { within = omega arith; few = omega (arith, p.few); rest = q ∙ p.rest }

    -- the tables meet: the code is put
    pub pair_in : r ≡ true → m ≡ put l (base + k) → Pairing from m (k + 1)
    unfolding add_all put pair_from keep
    pair_in t q =
        turn (omega (arith, ap (λ (x : Clashes). x.count) q))
        (ap (λ (x : Clashes). add_all x (pair_from (k + 1))) q ∙ (rw (count_more k 45 h, sym e ∙ t)))

    -- they do not: the list stays
    pub pair_out : r ≡ false → m ≡ l → Pairing from m (k + 1)
    unfolding pair_from keep
    pair_out t q =
        turn (omega (arith, ap (λ (x : Clashes). x.count) q))
        (ap (λ (x : Clashes). add_all x (pair_from (k + 1))) q ∙ (rw (count_more k 45 h, sym e ∙ t)))

  -- distances at which the tables do not meet are passed over
  pair_skip : (from l : Clashes) (k n : ℕ) → Pairing from l k → k + n ≤ 45 → ((x : ℕ) → k ≤ x → x < k + n → tables_meet low end places second (sub_ℕ x 15) ≡ false) → Pairing from l (k + n)
  pair_skip from l k zero p h f = let e : k + 0 ≡ k = omega arith in rw e p
  pair_skip from l k (suc n) p h f =
      let e : k + suc n ≡ k + n + 1 = omega arith in
      rw e
      (pair_out from l l (k + n) _ (pair_skip from l k n p (omega arith) (λ x a b. f x a (omega arith))) (omega arith) refl (f (k + n) (omega arith) (omega arith)) refl)

  -- before the first turn: the distances that are too far below
  pub pair_first : (l : Clashes) (k : ℕ) → k ≡ low + 16 - second.ticks → low ≤ 30 → k ≤ 45 → Pairing l l k
  pair_first l k e h g =
      let z : 0 + k ≡ k = omega arith in
      rw z at (pair_skip l l 0 k (pair_none l) (omega arith) (λ x a b. tables_apart low end places second x (inl (omega arith))))

  -- after the last turn: those that are too far above, and the pair is complete
  pub pair_last : (from l : Clashes) (k : ℕ) → Pairing from l k → end + 15 ≤ k → Grown from l (pair_codes low end places second base) 45
  pair_last from l k p h =
      let e : k + (45 - k) ≡ 45 = omega (arith, p.within) in
      pair_end from l 45
      (rw e at (pair_skip from l k (45 - k) p (omega (arith, p.within)) (λ x a b. tables_apart low end places second x (inr (omega arith))))) (omega arith)

-- ---- the clashes of two jobs of a batch, from the one's table widened and the other's as it is

module _ (b : Batch) (t : Tabled b) (w : ℕ) (longest : Longest b.rests w 16) (places : List ℕ) (i j : ℕ) (hi : i < b.n) (wide : Widens b.rests (job_of b i) (7 - w) (7 + ticks b i + w) places) where
  abbrev low : ℕ
  low = 7 - w

  abbrev end : ℕ
  end = 7 + ticks b i + w

  -- they meet exactly where the jobs clash: tick a of job i is within the rest of place x exactly when it is within the rest of the tick over x
  pub pair_clashing : (k : ℕ) → tables_meet low end places (job_of b j) (sub_ℕ k 15) ≡ clashing b i j (sub_ℕ k 22)
  unfolding ticks mask rest_of
  pair_clashing k = same_test _ _ (λ e. shared_clashing b i j (sub_ℕ k 22) (forth (meets_some low end places (job_of b j) k e))) (λ e. some_meets low end places (job_of b j) k (back (clashing_shared b i j (sub_ℕ k 22) e)))
    where
      forth : Meets low end places (job_of b j) k → Shared b i j (sub_ℕ k 22)
      forth m =
          let s = shares_some _ _ m.shared in
          let n = (wide.each m.x m.from m.x_in).found s.0 s.1 s.2 in
          let r = close_le (rest_of b s.0) (n.0 + 7) m.x n.3 in
          record {
            a = n.0;
            b = m.c;
            s = s.0;
            a_in = n.1;
            b_in = m.c_in;
            s_in = s.1;
            first = n.2;
            second = s.3;
            close =
                in_plan (rest_of b s.0) n.0 m.c 22 k
                ∙ le_close (rest_of b s.0) (22 + n.0) (k + m.c) (omega (arith, r.0, m.over)) (omega (arith, r.1, m.over));
          }

      back : Shared b i j (sub_ℕ k 22) → Meets low end places (job_of b j) k
      back s =
          let r = close_le (rest_of b s.s) (22 + s.a) (k + s.b) (sym (in_plan (rest_of b s.s) s.a s.b 22 k) ∙ s.close) in
          let few : rest_of b s.s ≤ w = longest.each s.s s.s_in in
          let most : w ≤ 7 = longest.most in
          let x = k + s.b - 15 in
          let from : 7 - w ≤ x = omega (arith, r.0) in
          let here : x < 7 + ticks b i + w = omega (arith, r.0, r.1, s.a_in) in
          record {
            x = x;
            c = s.b;
            from = from;
            x_in = here;
            c_in = s.b_in;
            over = omega (arith, r.0);
            shared =
                some_shares _ _ s.s s.s_in
                ((wide.each x from here).has s.s s.a s.s_in s.a_in s.first (le_close (rest_of b s.s) (s.a + 7) x (omega (arith, r.0)) (omega (arith, r.0, r.1))))
                s.second;
          }

  pub pair_codes_lem : pair_codes low end places (job_of b j) (i * 2048 + j * 64) ≡ map code_of (clashes_of b i j)
  unfolding pair_codes clashes_of distances code_of
  pair_codes_lem =
      let kept = keep (λ k. clashing b i j (sub_ℕ k 22)) (count 0 45) in
      (λ z. map (λ k. i * 2048 + j * 64 + k) (keep (λ k. pair_clashing k z) (count 0 45)))
      ∙ sym
      (ap (λ (ds : List ℤ). map code_of (map (λ d. record { i = i; j = j; d = d }) ds))
      (keep_map (clashing b i j) (λ k. sub_ℕ k 22) (count 0 45))
      ∙ map_map {A = ℤ} {B = Clash} code_of (λ d. record { i = i; j = j; d = d }) (λ d. i * 2048 + j * 64 + lift d) (λ d. refl) (map (λ k. sub_ℕ k 22) kept)
      ∙ map_map (λ d. i * 2048 + j * 64 + lift d) (λ k. sub_ℕ k 22) (λ x. i * 2048 + j * 64 + x)
      (λ k. ap (λ (x : ℕ). i * 2048 + j * 64 + x) (lift_sub k)) kept)
