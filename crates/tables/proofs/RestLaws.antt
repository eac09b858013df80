-- Tables widened by the rests: the longest rest, the stations for which ticks are too close, the stations of a place, and all places.
use Prim.Native.Nat.{ℕ, zero, suc, ◌+◌, ◌-◌, ◌*◌, ◌/◌, ◌%◌, ◌^◌, ◌≤◌, ◌<◌}
use mathlib.Core.Path.{◌≡◌, refl, sym, ap, ◌∙◌}
use mathlib.Core.Logic.{◌⊎◌, inl, inr, ⊎_elim}
use mathlib.Core.Bool.{true, false}
use mathlib.Core.List.{List, ◌∷◌, ◌++◌}
use native.Mathlib.Nat.{pow-suc}
use native.Mathlib.Omega.{arith}
use native.Mathlib.Decide.{ℕ_discrete, dec_lt}
use lib.ListN.{length, get_or, set, replicate, length-set, length-replicate, get_or-append}
use lib.IntN.{sub_ℕ}
use lib.Seq.{get_or-set_same, get_or-set_other}
use lib.Bits.{bit_and, bit_or, and_step, or_step, and_shr, or_shr}
use lib.Pow.{shl_exact}
use lib.Dec.{leb}
use borrow.Author.Tests.{leb-true, le-leb, lt-leb, eqb-true, eq-eqb}
use Rattle.model.specs.declared.Job.{Job}
use Rattle.model.specs.Batch.{bit}
use Rattle.model.specs.Plan.{too_close}
use Rattle.model.proofs.BoolLaws.{apart, decide, same_test}
use Rattle.model.proofs.SeqLaws.{blanks_at}
use Rattle.model.proofs.BitLaws.{bit_zero, zero_bit, bit_suc, bit_none}
use Rattle.model.proofs.DistanceLaws.{sum_sub, close_le, le_close}
use Rattle.tables.specs.Rest.{Longest, CloseAt, Closes, Near, Widens}

-- ---- bits

module _ (a b s : ℕ) where
  -- a bit of the or is one of either
  or_some : bit (bit_or a b) s ≡ true → (bit a s ≡ true) ⊎ (bit b s ≡ true)
  unfolding bit
  or_some e = go (ℕ_discrete (a / 2 ^ s % 2) 1)
    where
      odd : bit_or (a / 2 ^ s) (b / 2 ^ s) % 2 ≡ 1
      odd = rw (← or_shr a b s) (eqb-true (bit_or a b / 2 ^ s % 2) 1 e)

      go : Dec (a / 2 ^ s % 2 ≡ 1) → (bit a s ≡ true) ⊎ (bit b s ≡ true)
      go (yes h) = inl (eq-eqb (a / 2 ^ s % 2) 1 h)
      go (no h) = inr (eq-eqb (b / 2 ^ s % 2) 1 (omega (arith, odd, or_step (a / 2 ^ s) (b / 2 ^ s))))

  -- and back
  some_or : (bit a s ≡ true) ⊎ (bit b s ≡ true) → bit (bit_or a b) s ≡ true
  unfolding bit
  some_or h = eq-eqb (bit_or a b / 2 ^ s % 2) 1 (rw (or_shr a b s) (⊎_elim (λ e. omega (arith, eqb-true (a / 2 ^ s % 2) 1 e, or_step (a / 2 ^ s) (b / 2 ^ s))) (λ e. omega (arith, eqb-true (b / 2 ^ s % 2) 1 e, or_step (a / 2 ^ s) (b / 2 ^ s))) h))

  -- a bit of the and is one of both
  and_both : bit (bit_and a b) s ≡ true → (bit a s ≡ true) × (bit b s ≡ true)
  unfolding bit
  and_both e =
      let odd : bit_and (a / 2 ^ s) (b / 2 ^ s) % 2 ≡ 1 = rw (← and_shr a b s) (eqb-true (bit_and a b / 2 ^ s % 2) 1 e) in
      (eq-eqb (a / 2 ^ s % 2) 1 (omega (arith, and_step (a / 2 ^ s) (b / 2 ^ s))), eq-eqb (b / 2 ^ s % 2) 1 (omega (arith, and_step (a / 2 ^ s) (b / 2 ^ s))))

  both_and : bit a s ≡ true → bit b s ≡ true → bit (bit_and a b) s ≡ true
  unfolding bit
  both_and p q = eq-eqb (bit_and a b / 2 ^ s % 2) 1 (rw (and_shr a b s) (omega (arith, eqb-true (a / 2 ^ s % 2) 1 p, eqb-true (b / 2 ^ s % 2) 1 q, and_step (a / 2 ^ s) (b / 2 ^ s))))

-- 1 shifted by s is 2^s, which has 16 bits
pub shifted : (s : ℕ) → s < 16 → 1 * 2 ^ s % 65536 ≡ 2 ^ s
shifted s h = shl_exact 1 s 16 (omega arith) (omega arith) ∙ omega arith

-- 2^s has bit s alone
half : (s : ℕ) → 2 ^ suc s / 2 ≡ 2 ^ s
half s = omega (arith, pow-suc 2 s)

bit_pow : (s : ℕ) → bit (2 ^ s) s ≡ true
bit_pow zero = zero_bit 1 refl
bit_pow (suc s) = bit_suc (2 ^ suc s) s ∙ ap (λ (m : ℕ). bit m s) (half s) ∙ bit_pow s

pow_bit : (s t : ℕ) → bit (2 ^ s) t ≡ true → t ≡ s
pow_bit zero zero e = refl
pow_bit zero (suc t) e = absurd (bit_none (1 / 2) t refl (sym (bit_suc 1 t) ∙ e))
pow_bit (suc s) zero e = absurd (let z = bit_zero (2 ^ suc s) e in omega (arith, pow-suc 2 s))
pow_bit (suc s) (suc t) e = ap suc (pow_bit s t (ap (λ (m : ℕ). bit m t) (sym (half s)) ∙ sym (bit_suc (2 ^ suc s) t) ∙ e))

module _ (rests : List ℕ) where
  -- ---- the stations for which ticks are too close

  pub close_none : (gap : ℕ) → CloseAt rests gap 0 0
  close_none gap = record { each = λ s h. absurd (omega arith); others = λ s h. decide (bit 0 s) (bit_none 0 s refl) }

  module _ (gap mask n rest : ℕ) (c : CloseAt rests gap mask n) (e : rest ≡ get_or rests n 0) where
    -- what is asked of station n
    here : (s : ℕ) → s ≡ n → leb gap rest ≡ leb gap (get_or rests s 0)
    here s z = ap (leb gap) e ∙ sym (ap (λ (i : ℕ). leb gap (get_or rests i 0)) z)

    -- it is added
    pub close_in : gap ≤ rest → CloseAt rests gap (bit_or mask (2 ^ n)) (n + 1)
    close_in near = record { each = λ s h. at s h (ℕ_discrete s n); others = past }
      where
        at : (s : ℕ) → s < n + 1 → Dec (s ≡ n) → bit (bit_or mask (2 ^ n)) s ≡ leb gap (get_or rests s 0)
        at s h (yes z) = some_or mask (2 ^ n) s (inr (ap (bit (2 ^ n)) z ∙ bit_pow n)) ∙ sym (le-leb gap rest near) ∙ here s z
        at s h (no z) =
            same_test _ _
            (λ t. sym (c.each s (omega arith)) ∙ ⊎_elim (λ p. p) (λ p. absurd (z (pow_bit n s p))) (or_some mask (2 ^ n) s t))
            (λ t. some_or mask (2 ^ n) s (inl (c.each s (omega arith) ∙ t)))

        past : (s : ℕ) → n + 1 ≤ s → bit (bit_or mask (2 ^ n)) s ≡ false
        past s h = decide (bit (bit_or mask (2 ^ n)) s) (λ t. ⊎_elim (λ p. apart (sym (c.others s (omega arith)) ∙ p)) (λ p. let z = pow_bit n s p in omega arith) (or_some mask (2 ^ n) s t))

    -- or it is not
    pub close_out : rest < gap → CloseAt rests gap mask (n + 1)
    close_out far = record { each = λ s h. at s h (ℕ_discrete s n); others = λ s h. c.others s (omega arith) }
      where
        at : (s : ℕ) → s < n + 1 → Dec (s ≡ n) → bit mask s ≡ leb gap (get_or rests s 0)
        at s h (yes z) = c.others s (omega arith) ∙ sym (lt-leb gap rest far) ∙ here s z
        at s h (no z) = c.each s (omega arith)

  -- ticks with difference e − 22 are too close exactly when they are at most the rest apart
  gap_close : (r e gap : ℕ) → gap ≡ e - 22 + (22 - e) → leb gap r ≡ too_close r (sub_ℕ e 22)
  gap_close r e gap z =
      same_test _ _ (λ t. let h = leb-true gap r t in le_close r e 22 (omega arith) (omega arith)) (λ t. let h = close_le r e 22 t in le-leb gap r (omega (arith, h.0, h.1)))

  -- the masks of the differences from 22 − w on and before e are in their places, and 0 everywhere else
  pub record Closing (w : ℕ) (close : List ℕ) (e : ℕ) : Type 0 where
    pub long : length close ≡ 45
    pub within : e ≤ 23 + w
    pub each : (d s : ℕ) → 22 - w ≤ d → d < e → s < 16 → bit (get_or close d 0) s ≡ too_close (get_or rests s 0) (sub_ℕ d 22)
    pub before : (d : ℕ) → d < 22 - w → get_or close d 0 ≡ 0
    pub after : (d : ℕ) → e ≤ d → get_or close d 0 ≡ 0

  pub closing_none : (w e : ℕ) → e ≡ 22 - w → Closing w (replicate 45 0) e
  closing_none w e z =
      record {
        long = length-replicate {A = ℕ} 45 0;
        within = omega arith;
        each = λ d s h g k. absurd (omega arith);
        before = λ d h. blanks_at 45 d 0;
        after = λ d h. blanks_at 45 d 0;
      }

  pub closing_more : (w : ℕ) (close : List ℕ) (e gap mask : ℕ) → w ≤ 7 → Closing w close e → 22 - w ≤ e → e < 23 + w → gap ≡ e - 22 + (22 - e) → CloseAt rests gap mask 16 → Closing w (set close e mask) (e + 1)
  closing_more w close e gap mask small c low h z m =
      record {
        long = simp length-set c.long;
        within = omega arith;
        each = λ d s g k t. at d s g k t (ℕ_discrete d e);
        before = λ d g. get_or-set_other close e d mask 0 (omega arith) ∙ c.before d g;
        after = λ d g. get_or-set_other close e d mask 0 (omega arith) ∙ c.after d (omega arith);
      }
    where
      at : (d s : ℕ) → 22 - w ≤ d → d < e + 1 → s < 16 → Dec (d ≡ e) → bit (get_or (set close e mask) d 0) s ≡ too_close (get_or rests s 0) (sub_ℕ d 22)
      at d s g k t (yes q) = rw (q, get_or-set_same close e mask 0 (omega (arith, c.long))) (m.each s t ∙ gap_close (get_or rests s 0) e gap z)
      at d s g k t (no q) = rw (get_or-set_other close e d mask 0 q) (c.each d s g (omega arith) t)

  pub closing_end : (w : ℕ) (close : List ℕ) (e : ℕ) → Longest rests w 16 → Closing w close e → 23 + w ≤ e → Closes rests close
  closing_end w close e l c h = record { each = λ d s g k. at d s k (dec_lt d (22 - w)) (dec_lt d e) }
    where
      -- further apart than the longest rest
      far : (d s : ℕ) → s < 16 → get_or close d 0 ≡ 0 → (d < 22 - w) ⊎ (e ≤ d) → bit (get_or close d 0) s ≡ too_close (get_or rests s 0) (sub_ℕ d 22)
      far d s k z out =
          ap (λ (m : ℕ). bit m s) z
          ∙ same_test _ _ (λ t. absurd (bit_none 0 s refl t))
          (λ t. let n = close_le (get_or rests s 0) d 22 t in absurd (⊎_elim (λ (o : d < 22 - w). omega (arith, n.1, l.each s k, l.most)) (λ (o : e ≤ d). omega (arith, n.0, l.each s k)) out))

      at : (d s : ℕ) → s < 16 → Dec (d < 22 - w) → Dec (d < e) → bit (get_or close d 0) s ≡ too_close (get_or rests s 0) (sub_ℕ d 22)
      at d s k (yes o) p = far d s k (c.before d o) (inl o)
      at d s k (no o) (yes p) = c.each d s (omega arith) p k
      at d s k (no o) (no p) = far d s k (c.after d (omega arith)) (inr (omega arith))

  -- ---- the stations of a place

  module _ (masks : List ℕ) (x : ℕ) where
    pub near_none : Near rests masks 0 x 0
    near_none = record { found = λ s h e. absurd (bit_none 0 s refl e); has = λ s a h g. absurd (omega arith) }

    pub near_more : (close : List ℕ) (a mask : ℕ) → Closes rests close → x < 30 → a < 16 → Near rests masks a x mask → Near rests masks (a + 1) x (bit_or mask (bit_and (get_or masks a 0) (get_or close (a + 29 - x) 0)))
    near_more close a mask c hx ha n =
        record {
          found = λ s h e. ⊎_elim (λ p. let r = n.found s h p in (r.0, omega (arith, r.1), r.2, r.3)) (λ p. let r = and_both _ _ s p in (a, omega arith, r.0, sym (told s h) ∙ r.1)) (or_some mask _ s e);
          has = λ s d h g p q. at s d h p q g (ℕ_discrete d a);
        }
      where
        told : (s : ℕ) → s < 16 → bit (get_or close (a + 29 - x) 0) s ≡ too_close (get_or rests s 0) (sub_ℕ (a + 7) x)
        told s h = c.each (a + 29 - x) s (omega arith) h ∙ ap (too_close (get_or rests s 0)) (sum_sub (a + 29 - x) 22 (a + 7) x (omega arith))

        at : (s d : ℕ) → s < 16 → bit (get_or masks d 0) s ≡ true → too_close (get_or rests s 0) (sub_ℕ (d + 7) x) ≡ true → d < a + 1 → Dec (d ≡ a) → bit (bit_or mask (bit_and (get_or masks a 0) (get_or close (a + 29 - x) 0))) s ≡ true
        at s d h p q g (yes z) =
            some_or mask _ s (inr (both_and _ _ s (ap (λ (i : ℕ). bit (get_or masks i 0) s) (sym z) ∙ p) (told s h ∙ ap (λ (i : ℕ). too_close (get_or rests s 0) (sub_ℕ (i + 7) x)) (sym z) ∙ q)))
        at s d h p q g (no z) = some_or mask _ s (inl (n.has s d h (omega arith) p q))

  -- ---- all places

  -- where no station rests they are the masks
  pub as_it_is : (job : Job) (places : List ℕ) → Longest rests 0 16 → ((a : ℕ) → a < 16 → get_or places (a + 7) 0 ≡ get_or job.masks a 0) → job.ticks ≤ 16 → Widens rests job 7 (7 + job.ticks) places
  as_it_is job places l at few = record { each = λ x h g. place x h g }
    where
      place : (x : ℕ) → 7 ≤ x → x < 7 + job.ticks → Near rests job.masks job.ticks x (get_or places x 0)
      place x h g =
          let e : x - 7 + 7 ≡ x = omega arith in
          let m : get_or places x 0 ≡ get_or job.masks (x - 7) 0 = ap (λ (i : ℕ). get_or places i 0) (sym e) ∙ at (x - 7) (omega arith) in
          record {
            found = λ s k t. (x - 7, omega arith, ap (λ (i : ℕ). bit i s) (sym m) ∙ t, le_close (get_or rests s 0) (x - 7 + 7) x (omega arith) (omega arith));
            has = λ s a k p t q.
                let r = close_le (get_or rests s 0) (a + 7) x q in
                let z : x - 7 ≡ a = omega (arith, r.0, r.1, l.each s k) in
                ap (λ (i : ℕ). bit i s) (m ∙ ap (λ (i : ℕ). get_or job.masks i 0) z) ∙ t;
          }

  -- as the code finds it: the longest rest is 0
  pub plain_widens : (job : Job) (places : List ℕ) (w : ℕ) → w ≡ 0 → Longest rests w 16 → (Longest rests 0 16 → Widens rests job 7 (7 + job.ticks) places) → Widens rests job (7 - w) (7 + job.ticks + w) places
  plain_widens job places w e l wide = let r = wide (rw e at l) in record { each = λ x h g. r.each x (omega arith) (omega arith) }

-- masks that stand from place 7 on
pub copied : (xs ys : List ℕ) (a : ℕ) → a < length xs → get_or (0 ∷ 0 ∷ 0 ∷ 0 ∷ 0 ∷ 0 ∷ 0 ∷ (xs ++ ys)) (a + 7) 0 ≡ get_or xs a 0
copied xs ys a h = let e : a + 7 ≡ suc (suc (suc (suc (suc (suc (suc a)))))) = omega arith in rw e (get_or-append xs ys 0 a h)

-- whatever rests the masks of differences are of, the places from low on and before x are widened
pub record Widening (close : List ℕ) (job : Job) (low : ℕ) (places : List ℕ) (x : ℕ) : Type 0 where
  pub long : length places ≡ 30
  pub begun : low ≤ x
  pub wide : (rests : List ℕ) → Closes rests close → Widens rests job low x places
