-- Whether the delays and ends can be met, as the code finds it: it takes rounds over the delays' table from the earliest starts, which say whether one of
-- them changed nothing and no start passes its latest. The bound is never reached before round n: a round raises a start by at most 1,000.
use mathlib.Core.Path.{◌≡◌, refl, sym, ap, ◌∙◌}
use mathlib.Core.Logic.{◌⊎◌, inl, inr}
use mathlib.Core.Bool.{Bool, true, false}
use mathlib.Core.Option.{Option, none}
use mathlib.Core.List.{List}
use Prim.Native.Nat.{ℕ, ◌+◌, ◌*◌, ◌/◌, ◌≤◌, ◌<◌}
use native.Mathlib.Omega.{arith}
use lib.ListN.{length, get_or, replicate}
use Rattle.model.specs.declared.Batch.{Batch}
use Rattle.model.specs.Common.{is_some, pad}
use Rattle.model.specs.Batch.{delays_of, earliest, earliest_starts, latest_starts}
use Rattle.model.specs.Starts.{rounds, least_starts}
use Rattle.model.specs.Open.{delays_met}
use Rattle.model.proofs.SeqLaws.{pad_at, blanks_at}
use Rattle.model.proofs.StartsLaws.{after, ends_length}
use Rattle.model.proofs.BoundLaws.{after_bound}
use Rattle.model.proofs.UnderLaws.{under_first}
use Rattle.times.specs.Fill.{Small}
use Rattle.times.specs.Ends.{earliest_read, latest_read}
use Rattle.times.specs.Latency.{latency_of, raised_by}
use Rattle.times.proofs.FillLaws.{filled_length}
use Rattle.times.proofs.EndsLaws.{earliest_is}
use Rattle.times.proofs.LatencyLaws.{latency_most}
use Rattle.weights.specs.declared.Inequality.{Inequality}
use Rattle.weights.specs.Delays.{delays_read, DelaysSound}
use Rattle.weights.specs.Holds.{Holds}
use Rattle.weights.proofs.SoundLaws.{delays_length, holds_read}
use Rattle.rounds.specs.Rounds.{Reached, rounds_of, timely}
use Rattle.starts.specs.Table.{with_put, empty_table, Placed}
use Rattle.starts.proofs.PlaceLaws.{Tabled, empty_tabled}
use Rattle.starts.proofs.RaisedLaws.{fits_slow}
use Rattle.starts.proofs.HeldLaws.{held_placed, held_tabled}
use Rattle.starts.proofs.FromLaws.{Changed, Ending, settled, stopped, used, Came}
use Rattle.starts.proofs.Law.{came, changed_least, found, found_least, lost_least}

-- no job stays
abbrev pub no_stays : List ℕ
no_stays = replicate 24 0

-- ---- the starts that the rounds begin with

module _ (b : Batch) (soon : Small (earliest_read b) 20000) (starts : List ℕ) (e : starts ≡ earliest_read b) where
  pub begin_small : Small starts 44016
  begin_small = record { each = λ i. omega (arith, soon.each i, ap (λ (l : List ℕ). get_or l i 0) e) }

  pub begin_fits : (latency : ℕ) → latency ≡ raised_by no_stays starts 0 → (length starts ≡ 24) × ((latency ≡ latency_of no_stays starts 24) × ((latency < 43017) × (43017 ≤ 43017)))
  unfolding raised_by earliest_read
  begin_fits latency h =
      let most = latency_most no_stays starts 20000 24 (λ i. omega (arith, soon.each i, ap (λ (l : List ℕ). get_or l i 0) e, blanks_at {A = ℕ} 24 i 0)) in
      (ap length e ∙ filled_length (earliest b) 24 b.n, (omega (arith, h), (omega (arith, h, most), omega arith)))

-- ---- and what they come to

module _ (b : Batch) (s : DelaysSound b) (d : List Inequality) (e : d ≡ delays_read b) (m : ℕ) (p : m ≡ b.m) where
  held : Holds b.n (delays_of b) d
  held = rw e (holds_read b s.few s.jobs s.weights)

  all_of : m ≡ length (delays_of b)
  all_of = p ∙ sym (delays_length b)

  pub met_placed : Placed d m
  met_placed = rw all_of (held_placed b.n s.most (delays_of b) d held)

  module _ (t : List (List ℕ)) (q : t ≡ with_put d empty_table m) (soon : Small (earliest_read b) 20000) where
    tabled : Tabled b.n t (delays_of b)
    tabled = rw (q, all_of) (held_tabled b.n s.most (delays_of b) d held empty_table _ (empty_tabled b.n))

    abbrev first : List ℕ
    first = earliest_starts b

    first_small : (i : ℕ) → get_or first i 0 ≤ 20000
    first_small i = omega (arith, soon.each i, ap (λ (l : List ℕ). get_or l i 0) (earliest_is b s.most), pad_at 24 0 first i)

    module _ (latency : ℕ) (l : latency ≡ latency_of no_stays (pad 24 0 first) 24) where
      low : latency < 43017
      low =
          omega (arith, l, latency_most no_stays (pad 24 0 first) 20000 24 (λ i. omega (arith, pad_at 24 0 first i, first_small i, blanks_at {A = ℕ} 24 i 0)))

      abbrev reached : Reached
      reached = rounds_of t no_stays ((b.n + 3) / 4) 43017 (pad 24 0 first) latency b.n

      all_came : Came (delays_of b) first no_stays 43017 b.n reached
      all_came = came b s.most t (delays_of b) tabled first no_stays (ends_length b) 43017 (omega arith) latency l low b.n

      -- after j rounds no start is above 20,000 + 1,000 * j
      highest : reached.latency ≤ 20000 + 1000 * all_came.j
      unfolding after
      highest =
          rw all_came.latency
          (latency_most no_stays _ _ 24
          (λ i. omega (
            arith,
            pad_at 24 0 (rounds (delays_of b) first all_came.j) i,
            after_bound (delays_of b) first 20000 first_small (λ q m. fits_slow b.n q (tabled.fits q m)) all_came.j i,
            blanks_at {A = ℕ} 24 i 0,
          )))

      abbrev least : Option (List ℕ)
      least = least_starts first (latest_starts b) (delays_of b)

      abbrev answer : Bool
      answer = found b s.most t (delays_of b) tabled first no_stays (ends_length b) 43017 (omega arith) latency l low s.some (under_first first (latest_starts b) (delays_of b))

      -- round n still changes something
      unmet : (j : ℕ) → j ≡ b.n → Changed (delays_of b) first j → least ≡ none
      unmet = changed_least b s.most t (delays_of b) tabled first no_stays (ends_length b) 43017 (omega arith) latency l low s.some (under_first first (latest_starts b) (delays_of b))

      lost : answer ≡ false → least ≡ none
      lost f = go (lost_least b s.most t (delays_of b) tabled first no_stays (ends_length b) 43017 (omega arith) latency l low s.some (under_first first (latest_starts b) (delays_of b)) f)
        where
          past : 43017 ≤ reached.latency → Ending (delays_of b) first 43017 b.n all_came.j reached → least ≡ none
          past h (settled _ _ g) = absurd (omega arith)
          past h (stopped _ _ c) = unmet all_came.j (omega (arith, highest, all_came.most, s.most)) c
          past h (used _ g c) = unmet all_came.j g c

          go : (least ≡ none) ⊎ (43017 ≤ reached.latency) → least ≡ none
          go (inl g) = g
          go (inr g) = past g all_came.ending

      met_told : (timely (latest_read b) reached).found ≡ delays_met b
      unfolding is_some delays_met
      met_told = go answer refl
        where
          go : (x : Bool) → answer ≡ x → x ≡ is_some least
          go true f = sym (ap is_some (found_least b s.most t (delays_of b) tabled first no_stays (ends_length b) 43017 (omega arith) latency l low s.some (under_first first (latest_starts b) (delays_of b)) f))
          go false f = sym (ap is_some (lost f))

    -- what the code finds by its rounds from the array of earliest starts
    pub met_is : (n : ℕ) → n ≡ b.n → (starts latest : List ℕ) → starts ≡ earliest_read b → latest ≡ latest_read b → (latency : ℕ) → latency ≡ raised_by no_stays starts 0 → (r : Reached)
        → r ≡ timely latest (rounds_of t no_stays ((n + 3) / 4) 43017 starts latency n) → r.found ≡ delays_met b
    unfolding raised_by
    met_is n g starts latest first-is last_is latency h r k =
        ap (λ (x : Reached). x.found)
        (k ∙ ap (λ (i : ℕ). timely latest (rounds_of t no_stays ((i + 3) / 4) 43017 starts latency i)) g ∙ ap (λ (l : List ℕ). timely latest (rounds_of t no_stays ((b.n + 3) / 4) 43017 l latency b.n)) begins
        ∙ ap (λ (l : List ℕ). timely l (rounds_of t no_stays ((b.n + 3) / 4) 43017 (pad 24 0 first) latency b.n)) last_is)
        ∙ met_told latency (omega (arith, h, ap (λ (l : List ℕ). latency_of no_stays l 24) begins))
      where
        begins : starts ≡ pad 24 0 first
        begins = first-is ∙ earliest_is b s.most
