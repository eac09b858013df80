-- Rounds as the code takes them: four rows, one round, k rounds that may end early, and no start rises by more than 1,000 in a round.
use mathlib.Core.Path.{◌≡◌, refl, sym, ◌∙◌, ap}
use mathlib.Core.Bool.{Bool, true, false}
use mathlib.Core.List.{List}
use Prim.Native.Nat.{ℕ, zero, suc, ◌+◌, ◌*◌, ◌-◌, ◌≤◌, ◌<◌, max}
use native.Mathlib.Numerals.{sub-one}
use native.Mathlib.Omega.{arith}
use native.Mathlib.Decide.{ℕ_discrete, dec_lt}
use lib.Dec.{eqb}
use lib.Seq.{ext_get_or}
use Rattle.std.specs.Bool.{Decides}
use Rattle.std.specs.Prelude.{nat_eq}
use Rattle.std.specs.Cmp.Lexicographic.{pointwise}
use Rattle.std.proofs.lemmas.Bool.Decides.{Decides-eqb}
use Rattle.std.proofs.lemmas.Slice.Eq.{slice_eq-Decides}
use lib.ListN.{get_or, length, replicate, get_or-eq_default}
use borrow.Author.Tests.{eqb-true, eq-eqb, le-leb, lt-leb}
use Rattle.model.proofs.BoolLaws.{both, same_test}
use Rattle.times.specs.Fill.{Small}
use Rattle.times.specs.Ends.{none_late}
use Rattle.rounds.specs.Rounds.{sum_at, largest, start_of, round_of, raised_to, lifted_of, highest_of, four_raised, same_to, Reached, rounds_of, timely}
use Rattle.times.specs.Latency.{latency_of, raised_by}
use Rattle.times.proofs.LatencyLaws.{latency_mono, latency_at}
use Rattle.times.proofs.FillLaws.{filled_none, filled_length, filled_at, filled_cong, filled_rest, filled_small}

-- ---- one start

pub lifted_at : (old : List ℕ) (i : ℕ) → i < 24 → get_or (lifted_of old) i 0 ≡ get_or old i 0 + 1000
unfolding lifted_of
lifted_at old i h = filled_at (λ j. get_or old j 0 + 1000) 24 24 i (omega arith) h

lifted_small : (old : List ℕ) (b : ℕ) → Small old b → Small (lifted_of old) (b + 1000)
unfolding lifted_of
lifted_small old b q = filled_small (λ j. get_or old j 0 + 1000) 24 (b + 1000) (λ j. omega (arith, q.each j)) 24

largest_small : (table : List (List ℕ)) (high : List ℕ) (j b k : ℕ) → Small high b → largest table high j k ≤ b
unfolding largest sum_at
largest_small table high j b zero q = omega arith
largest_small table high j b (suc k) q = omega (arith, largest_small table high j b k q, q.each k)

-- a round raises a start by at most 1,000, whatever the table holds
start_small : (table : List (List ℕ)) (old : List ℕ) (j k b : ℕ) → Small old b → start_of table old j k ≤ b + 1000
unfolding start_of
start_small table old j k b q =
    omega (arith, largest_small table (lifted_of old) j (b + 1000) k (lifted_small old b q), q.each j)

-- ---- one round

max_assoc : (x y z : ℕ) → max x (max y z) ≡ max (max x y) z
max_assoc x y z = omega arith

max_four : (x a b c d : ℕ) → max x (max (max a b) (max c d)) ≡ max (max (max (max x a) b) c) d
max_four x a b c d = rw (max_assoc x (max a b) (max c d), max_assoc x a b, max_assoc (max (max x a) b) c d)

-- one place of four rows, as the code finds it
pub four_place : (x v y first second a b c d : ℕ) {a' b' c' d' : ℕ} → a ≡ a' → b ≡ b' → first ≡ max a b → c ≡ c' → d ≡ d' → second ≡ max c d → y ≡ max first second → v ≡ max x y
    → v ≡ max x (max (max a' b') (max c' d'))
four_place x v y first second a b c d p q e r s g h k = rw (k, h, e, g, p, q, r, s)

module _ (table : List (List ℕ)) (high : List ℕ) where
  pub raised_none : replicate 24 0 ≡ raised_to table high 0
  unfolding raised_to largest
  raised_none = filled_none (λ j. 0) 24 ∙ sym (filled_rest (λ j. 0) 24 0 (omega arith) (λ i h. refl))

  -- four rows more
  pub raised_more : (q i : ℕ) (new more : List ℕ) → new ≡ raised_to table high (4 * q) → i ≡ 4 * q → more ≡ four_raised table high i new → more ≡ raised_to table high (4 * (q + 1))
  unfolding raised_to four_raised largest
  raised_more q i new more e p g =
      g ∙ filled_cong _ (λ j. largest table high j (4 * (q + 1))) 24 24 (λ j h. place j (ap (λ (l : List ℕ). get_or l j 0) e ∙ filled_at (λ j. largest table high j (4 * q)) 24 24 j (omega arith) h))
    where
      last : 4 * (q + 1) ≡ suc (suc (suc (suc i)))
      last = omega arith

      one : i + 1 ≡ suc i
      one = omega arith

      two : i + 2 ≡ suc (suc i)
      two = omega arith

      three : i + 3 ≡ suc (suc (suc i))
      three = omega arith

      place : (j : ℕ) → get_or new j 0 ≡ largest table high j (4 * q)
          → max (get_or new j 0) (max (max (sum_at table high j i) (sum_at table high j (i + 1))) (max (sum_at table high j (i + 2)) (sum_at table high j (i + 3))))
          ≡ largest table high j (4 * (q + 1))
      place j h = rw (last, one, two, three, h ∙ ap (largest table high j) (sym p)) (max_four _ _ _ _ _)

module _ (table : List (List ℕ)) (old : List ℕ) where
  pub round_is : (k : ℕ) (high new starts : List ℕ) → high ≡ lifted_of old → new ≡ raised_to table high k → starts ≡ highest_of old new → starts ≡ round_of table old k
  unfolding raised_to highest_of round_of start_of
  round_is k high new starts l e g =
      g ∙ filled_cong _ (λ j. start_of table old j k) 24 24
      (λ j h. ap (max (get_or old j 0)) (ap (λ (l : List ℕ). get_or l j 0) e ∙ filled_at (λ j. largest table high j k) 24 24 j (omega arith) h ∙ ap (λ (l : List ℕ). largest table l j k) l))

  pub round_small : (k b : ℕ) → Small old b → Small (round_of table old k) (b + 1000)
  unfolding round_of
  round_small k b q = filled_small (λ j. start_of table old j k) 24 (b + 1000) (λ j. start_small table old j k b q) 24

-- ---- whether a round changed something

pub same_self : (l : List ℕ) (k : ℕ) → same_to l l k ≡ true
unfolding same_to
same_self l zero = refl
same_self l (suc k) = rw (eq-eqb (get_or l k 0) (get_or l k 0) refl) (same_self l k)

pub same_at : (a b : List ℕ) (k : ℕ) → same_to a b k ≡ true → (i : ℕ) → i < k → get_or a i 0 ≡ get_or b i 0
unfolding same_to
same_at a b zero e i h = absurd (omega arith)
same_at a b (suc k) e i h =
    let p = both (eqb (get_or a k 0) (get_or b k 0)) (same_to a b k) e in
    go (ℕ_discrete i k) (same_at a b k p.1 i) (eqb-true (get_or a k 0) (get_or b k 0) p.0)
  where
    go : Dec (i ≡ k) → (i < k → get_or a i 0 ≡ get_or b i 0) → get_or a k 0 ≡ get_or b k 0 → get_or a i 0 ≡ get_or b i 0
    go (yes q) rec t = rw q t
    go (no q) rec t = rec (omega arith)

-- `==` of two arrays says it
pub same_listed : (a b : List ℕ) (r : Bool) → r ≡ pointwise nat_eq a b → length a ≡ 24 → length b ≡ 24 → r ≡ same_to a b 24
same_listed a b r e p q =
    same_test r (same_to a b 24) (λ t. rw (d.0 t) (same_self b 24)) (λ t. d.1 (ext_get_or 0 a b (p ∙ sym q) (λ i w. same_at a b 24 t i (omega arith))))
  where
    d : Decides r (a ≡ b)
    d = slice_eq-Decides Decides-eqb a b r e

-- ---- k rounds, as the code has them

-- a round lowers no start, and so no latency
pub latency_rises : (table : List (List ℕ)) (stays old : List ℕ) (k : ℕ) → latency_of stays old 24 ≤ latency_of stays (round_of table old k) 24
unfolding round_of start_of
latency_rises table stays old k =
    latency_mono stays old _ 24
    (λ j h. omega (arith, filled_at (λ j. max (get_or old j 0) (largest table (lifted_of old) j k)) 24 24 j (omega arith) h))

-- starts whose latency is below a bound are small
pub below_small : (stays starts : List ℕ) (latency bound : ℕ) → length starts ≡ 24 → latency ≡ latency_of stays starts 24 → latency < bound → bound ≤ 43017 → Small starts 43016
below_small stays starts latency bound len l h b = record { each = λ i. go i (dec_lt i 24) }
  where
    go : (i : ℕ) → Dec (i < 24) → get_or starts i 0 ≤ 43016
    go i (yes p) = omega (arith, latency_at stays starts 24 i p)
    go i (no p) = omega (arith, get_or-eq_default starts 0 {n = i} (omega arith))

module _ (table : List (List ℕ)) (fours : ℕ) where
  -- what is handed on after a round
  module _ (old new : List ℕ) (e : new ≡ round_of table old (4 * fours)) where
    pub next_long : length new ≡ 24
    unfolding round_of
    next_long = rw e (filled_length (λ j. start_of table old j (4 * fours)) 24 24)

    pub next_small : Small old 43016 → Small new 44016
    next_small q = rw e (round_small table old (4 * fours) 43016 q)

    pub next_latency : (stays : List ℕ) (latency risen : ℕ) → latency ≡ latency_of stays old 24 → risen ≡ raised_by stays new latency → risen ≡ latency_of stays new 24
    unfolding raised_by
    next_latency stays latency risen l h = h ∙ rw (l, e) (omega (arith, latency_rises table stays old (4 * fours)))

  -- the cases of the code; the new starts, the tests and the risen latency are results of calls
  module _ (stays latest old : List ℕ) (bound latency : ℕ) where
    pub rounds_none : (k : ℕ) → k ≡ 0 → record { starts = old; latency = latency; found = false } ≡ timely latest (rounds_of table stays fours bound old latency k)
    unfolding rounds_of timely
    rounds_none k h = rw h

    module _ (new : List ℕ) (r : Bool) (e : new ≡ round_of table old (4 * fours)) (s : r ≡ same_to old new 24) where
      pub rounds_end : (k : ℕ) → (k ≡ 0 → ⊥) → r ≡ true → (x : Bool) → x ≡ none_late latest old 24 → record { starts = old; latency = latency; found = x } ≡ timely latest (rounds_of table stays fours bound old latency k)
      unfolding rounds_of timely
      rounds_end zero more p x t = absurd (more refl)
      rounds_end (suc k) more p x t = rw (← e, ← s, p, t)

      module _ (risen : ℕ) (g : risen ≡ raised_by stays new latency) (p : r ≡ false) where
        pub rounds_stop : (k : ℕ) → (k ≡ 0 → ⊥) → bound ≤ risen → record { starts = new; latency = risen; found = false } ≡ timely latest (rounds_of table stays fours bound old latency k)
        unfolding rounds_of timely
        rounds_stop zero more h = absurd (more refl)
        rounds_stop (suc k) more h = rw (← e, ← s, p, ← g, le-leb bound risen h)

        pub rounds_on : (k : ℕ) → (k ≡ 0 → ⊥) → risen < bound → (x : Reached) → x ≡ timely latest (rounds_of table stays fours bound new risen (k - 1))
            → x ≡ timely latest (rounds_of table stays fours bound old latency k)
        unfolding rounds_of
        rounds_on zero more h x q = absurd (more refl)
        rounds_on (suc k) more h x q = q ∙ rw (← e, ← s, p, ← g, lt-leb bound risen h, sub-one (suc k))
