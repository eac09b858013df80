-- Rounds from any starts, over a table that holds a list of inequalities, are the definition's rounds over the list: after each of them starts and
-- latency are the definition's, and no start passes 43,016 while they go on.
use Rattle.std.specs.Prelude.{if◌then◌else◌}
use mathlib.Core.Path.{◌≡◌, refl, sym, ◌∙◌, ap}
use mathlib.Core.Bool.{Bool, true, false}
use mathlib.Core.List.{List, map}
use Prim.Native.Nat.{ℕ, zero, suc, ◌+◌, ◌*◌, ◌≤◌, ◌<◌, pred}
use native.Mathlib.Omega.{arith}
use lib.Dec.{leb}
use lib.ListN.{length, get_or-eq_default}
use lib.Seq.{ext_get_or}
use borrow.Author.Tests.{leb-true, leb-false}
use Rattle.model.specs.declared.Delay.{Delay}
use Rattle.model.specs.Common.{count, pad}
use Rattle.model.specs.Starts.{raised, rounds}
use Rattle.model.proofs.BoolLaws.{apart}
use Rattle.model.proofs.SeqLaws.{pad_at, pad_length}
use Rattle.model.proofs.StartsLaws.{rounds_length}
use Rattle.model.proofs.UnderLaws.{round_more}
use Rattle.times.specs.Fill.{Small}
use Rattle.times.specs.Latency.{latency_of, raised_by}
use Rattle.times.proofs.FillLaws.{filled_is, filled_cong, filled_rest}
use Rattle.rounds.specs.Rounds.{start_of, round_of, same_to, Reached, rounds_of}
use Rattle.rounds.proofs.RoundLaws.{same_self, same_at, below_small, next_latency}
use Rattle.starts.proofs.PlaceLaws.{Tabled}
use Rattle.starts.proofs.RaisedLaws.{start_raised, raised_past, raised_cong}

-- the starts after j rounds still differ from those after j − 1
abbrev pub Changed : List Delay → List ℕ → ℕ → Type 0
Changed qs base j = 0 < j → rounds qs base j ≡ rounds qs base (pred j) → ⊥

-- how at most k rounds end: with one that changes nothing, at the bound, or all used
pub data Ending (qs : List Delay) (base : List ℕ) (bound k j : ℕ) (r : Reached) : Type 0 where
  settled : r.found ≡ true → rounds qs base (suc j) ≡ rounds qs base j → r.latency < bound → Ending qs base bound k j r
  stopped : r.found ≡ false → bound ≤ r.latency → Changed qs base j → Ending qs base bound k j r
  used : r.found ≡ false → j ≡ k → Changed qs base j → Ending qs base bound k j r

-- what they leave: the starts after j ≤ k rounds, and their latency
pub record Came (qs : List Delay) (base stays : List ℕ) (bound k : ℕ) (r : Reached) : Type 0 where
  pub j : ℕ
  pub most : j ≤ k
  pub starts : r.starts ≡ pad 24 0 (rounds qs base j)
  pub latency : r.latency ≡ latency_of stays (pad 24 0 (rounds qs base j)) 24
  pub ending : Ending qs base bound k j r

module _ (n : ℕ) (few : n ≤ 24) (t : List (List ℕ)) (qs : List Delay) (h : Tabled n t qs) (fours : ℕ) (low : n ≤ 4 * fours) (high : 4 * fours ≤ 24) where
  -- a round of the code is a round of the definition
  round_from : (old : List ℕ) → length old ≡ n → Small (pad 24 0 old) 43016 → round_of t (pad 24 0 old) (4 * fours) ≡ pad 24 0 (rounds qs old 1)
  unfolding round_of rounds
  round_from old len small =
      filled_cong (λ j. start_of t (pad 24 0 old) j (4 * fours)) (raised qs old) 24 24 start
      ∙ filled_rest (raised qs old) 24 n few (λ j b. raised_past n qs h.fits old j b ∙ get_or-eq_default old 0 (omega arith))
      ∙ filled_is (raised qs old) 24 n few ∙ ap (λ (m : ℕ). pad 24 0 (map (raised qs old) (count 0 m))) (sym len)
    where
      start : (j : ℕ) → j < 24 → start_of t (pad 24 0 old) j (4 * fours) ≡ raised qs old j
      start j b =
          start_raised n (pad 24 0 old) (λ i. omega (arith, small.each i)) j qs h.fits t (4 * fours) low high
          (λ i c. h.place i j (omega arith) b)
          ∙ raised_cong qs (pad 24 0 old) old (pad_at 24 0 old) j

  -- starts that the test finds the same are the same
  same_starts : (a b : List ℕ) → length a ≡ n → length b ≡ n → same_to (pad 24 0 a) (pad 24 0 b) 24 ≡ true → a ≡ b
  same_starts a b p q e =
      ext_get_or 0 a b (p ∙ sym q) (λ i w. sym (pad_at 24 0 a i) ∙ same_at _ _ 24 e i (omega arith) ∙ pad_at 24 0 b i)

  module _ (base stays : List ℕ) (len : length base ≡ n) (bound : ℕ) (limit : bound ≤ 43017) (end : ℕ) where
    -- the starts after a rounds, as the code has them
    abbrev at : ℕ → List ℕ
    at a = pad 24 0 (rounds qs base a)

    long : (a : ℕ) → length (rounds qs base a) ≡ n
    long a = rounds_length qs base a ∙ len

    -- from there on, with k more to go
    came : (k a : ℕ) → a + k ≡ end → (latency : ℕ) → latency ≡ latency_of stays (at a) 24 → latency < bound → Changed qs base a
        → Came qs base stays bound end (rounds_of t stays fours bound (at a) latency k)
    unfolding rounds_of
    came zero a e latency l b c = record { j = a; most = omega arith; starts = refl; latency = l; ending = used refl (omega arith) c }
    came (suc k) a e latency l b c =
        rw made (go (same_to (at a) (at (suc a)) 24) refl (leb bound (raised_by stays (at (suc a)) latency)) refl (came k (suc a) (omega arith) _ risen))
      where
        made : round_of t (at a) (4 * fours) ≡ at (suc a)
        made =
            round_from (rounds qs base a) (long a) (below_small stays (at a) latency bound (pad_length 24 0 (rounds qs base a) (omega (arith, long a))) l b limit)
            ∙ ap (pad 24 0) (round_more qs base a)

        risen : raised_by stays (at (suc a)) latency ≡ latency_of stays (at (suc a)) 24
        risen = next_latency t fours (at a) (at (suc a)) (sym made) stays latency _ l refl

        changed : same_to (at a) (at (suc a)) 24 ≡ false → Changed qs base (suc a)
        changed g z w =
            let s : same_to (at a) (at (suc a)) 24 ≡ true = rw w (same_self (at a) 24) in apart (sym g ∙ s)

        go : (p : Bool) → same_to (at a) (at (suc a)) 24 ≡ p → (s : Bool) → leb bound (raised_by stays (at (suc a)) latency) ≡ s
            → (raised_by stays (at (suc a)) latency < bound → Changed qs base (suc a) → Came qs base stays bound end (rounds_of t stays fours bound (at (suc a)) (raised_by stays (at (suc a)) latency) k))
            → Came qs base stays bound end
            (if p then record { starts = at a; latency = latency; found = true }
            else (if s then record { starts = at (suc a); latency = raised_by stays (at (suc a)) latency; found = false } else rounds_of t stays fours bound (at (suc a)) (raised_by stays (at (suc a)) latency) k))
        go true g s h rec =
            record { j = a; most = omega arith; starts = refl; latency = l; ending = settled refl (sym (same_starts _ _ (long a) (long (suc a)) g)) b }
        go false g true h rec =
            record { j = suc a; most = omega arith; starts = refl; latency = risen; ending = stopped refl (leb-true bound _ h) (changed g) }
        go false g false h rec = rec (leb-false bound _ h) (changed g)

    -- from the base
    pub rounds_came : (latency : ℕ) → latency ≡ latency_of stays (pad 24 0 base) 24 → latency < bound → Came qs base stays bound end (rounds_of t stays fours bound (pad 24 0 base) latency end)
    unfolding rounds
    rounds_came latency l b = came end 0 (omega arith) latency l b (λ z. absurd (omega arith))
