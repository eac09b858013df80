-- The starts that a node reaches: the least ones, or the node goes back.
use Prim.Native.Nat.{ℕ, ◌+◌, ◌/◌, ◌≤◌, ◌<◌}
use mathlib.Core.Path.{◌≡◌, refl, ap, sym, subst, ◌∙◌}
use mathlib.Core.Logic.{◌⊎◌, inl, inr}
use mathlib.Core.Bool.{true, false}
use Rattle.model.specs.declared.Batch.{Batch}
use mathlib.Core.List.{List}
use mathlib.Core.Option.{none}
use native.Mathlib.Omega.{arith}
use lib.ListN.{length, take}
use borrow.Author.Tests.{le-leb, lt-leb}
use Rattle.model.specs.declared.Delay.{Delay}
use Rattle.model.specs.declared.Turn.{Turn}
use Rattle.model.specs.Best.{Best}
use Rattle.std.specs.Prelude.{None, Some}
use Rattle.model.specs.Common.{pad}
use Rattle.model.specs.Batch.{earliest_starts, latest_starts}
use Rattle.model.specs.Plan.{latency}
use Rattle.model.specs.Clash.{clashes}
use Rattle.model.specs.Starts.{rounds, least_starts}
use Rattle.model.specs.Search.{inequalities, starts_at, back, prunes, visit, next}
use Rattle.model.proofs.BoolLaws.{both}
use Rattle.model.proofs.SeqLaws.{pad_length}
use Rattle.model.proofs.StartsLaws.{Inside, rounds_length}
use Rattle.model.proofs.GoodLaws.{good_named}
use Rattle.model.proofs.SoundLaws.{fits}
use Rattle.model.proofs.UnderLaws.{Below, under_rounds, stopped_back, beyond_none}
use Rattle.times.specs.Stays.{stays_read}
use Rattle.times.specs.Latency.{latency_of}
use Rattle.times.specs.Ends.{earliest_read, latest_read}
use Rattle.times.proofs.LatencyLaws.{latency_padded}
use Rattle.weights.specs.declared.Inequality.{Inequality}
use Rattle.weights.specs.Delays.{delays_read}
use Rattle.weights.proofs.SoundLaws.{delays_length}
use Rattle.rounds.specs.Rounds.{Reached, rounds_of, timely}
use Rattle.starts.specs.Table.{with_put, with_stored, empty_table}
use Rattle.starts.specs.Least.{least_of}
use Rattle.starts.proofs.TakeLaws.{least_taken}
use Rattle.starts.proofs.PlaceLaws.{Tabled}
use Rattle.starts.proofs.FromLaws.{Came}
use Rattle.starts.proofs.PathTable.{path_table}
use Rattle.starts.proofs.Law.{path_tabled, came, found_below, found_least, lost_least}
use Rattle.node.specs.declared.kit.Kit.{Kit}
use Rattle.node.specs.declared.kit.Trail.{Trail}
use Rattle.node.specs.declared.kit.Reach.{Reach}
use Rattle.node.specs.declared.kit.Walk.{Walk}
use Rattle.node.specs.Walk.{turns_in, bound_of, incumbent, place_at}
use Rattle.node.specs.Rows.{begun, Base}
use Rattle.node.specs.Kit.{Works, Least}
use Rattle.node.proofs.PathLaws.{turns_length}
use Rattle.node.proofs.BeginLaws.{Begins, begins}
use Rattle.node.proofs.WorksLaws.{passes, good_turns, counts, bound_small, held, delays_room, turns_room, turn_stored, turns_held}

-- starts and their latency, as a node has them
abbrev low : Reached → Reach
low r = record { starts = r.starts; latency = r.latency }

-- a latency below best's bound is not pruned
below_kept : (best : Best) (l : ℕ) → l < bound_of best → prunes best l ≡ false
unfolding bound_of prunes
below_kept None l h = refl
below_kept (Some k) l h = lt-leb k l h

-- the same answer for the same lists
least_same : (steps : List Inequality) (depth bound latency : ℕ) {n n' m m' : ℕ} {w w' : List Inequality} {stays stays' latest latest' starts starts' : List ℕ} → n ≡ n' → m ≡ m' → w ≡ w' → stays ≡ stays' → latest ≡ latest' → starts ≡ starts'
    → timely latest (rounds_of (with_put steps (with_stored w empty_table m) depth) stays ((n + 3) / 4) bound starts latency n)
    ≡ timely latest' (rounds_of (with_put steps (with_stored w' empty_table m') depth) stays' ((n' + 3) / 4) bound starts' latency n')
least_same steps depth bound latency a b c f g h = rw (a, b, c, f, g, h)

module _ (b : Batch) (kit : Kit) (t : Trail) (walk : Walk) (w : Works b kit t walk) where
  abbrev ts : List Turn
  ts = turns_in t.turns walk.depth

  abbrev qs : List Delay
  qs = inequalities (clashes b) b ts

  -- the node's table
  abbrev table : List (List ℕ)
  table = path_table b.m (delays_read b) t.steps walk.depth

  tabled : Tabled b.n table qs
  tabled =
      path_tabled b (clashes b) ts b.m walk.depth _ _ (counts b kit t walk w).1 (counts b kit t walk w).2 (sym (delays_length b)) (sym (turns_length t.turns walk.depth))
      (held b kit t walk w) (turns_held b kit t walk w)

  inside : Inside b.n qs
  unfolding Inside
  inside q m = ((tabled.fits q m).from, (tabled.fits q m).to)

  -- the node goes back where its latency comes to best's, from starts at or below every solution
  gone : (at : List ℕ) → Below b qs at → bound_of walk.best ≤ latency b at → next (clashes b) b (place_at t.turns walk) ≡ back ts (incumbent walk.best walk.starts)
  unfolding next starts_at place_at visit prunes bound_of
  gone at u h = go walk.best refl
    where
      go : (best : Best) → walk.best ≡ best → visit (clashes b) b (place_at t.turns walk) (least_starts (earliest_starts b) (latest_starts b) qs) ≡ back ts (incumbent walk.best walk.starts)
      go None e =
          let p = passes b kit t walk w in
          ap (visit (clashes b) b (place_at t.turns walk))
          (beyond_none b (fits b p) ts (good_named b ts (good_turns b kit t walk w)) inside at u (omega (arith, h, ap bound_of e)))
      go (Some k) e = stopped_back (clashes b) b (place_at t.turns walk) qs inside at u (rw e (le-leb k (latency b at) (omega (arith, h, ap bound_of e))))

  lost : starts_at (clashes b) b ts ≡ none → next (clashes b) b (place_at t.turns walk) ≡ back ts (incumbent walk.best walk.starts)
  unfolding next visit place_at
  lost e = ap (visit (clashes b) b (place_at t.turns walk)) e

  first_latency : kit.first ≡ latency_of kit.stays (earliest_read b) 24
  first_latency = w.first ∙ ap (λ (l : List ℕ). latency_of kit.stays l 24) w.earliest

  -- what the node begins with
  module _ (made : Reach) (e : made ≡ begun t.rows t.steps walk.depth kit.stays (record { starts = kit.earliest; latency = kit.first })) where
    begin : Begins b (counts b kit t walk w).1 kit.stays t.turns t.rows t.steps kit.first first_latency walk.depth made
    begin =
        rw (e, ap (λ (starts : List ℕ). begun t.rows t.steps walk.depth kit.stays (record { starts = starts; latency = kit.first })) w.earliest) (begins b (counts b kit t walk w).1 kit.stays t.turns t.rows t.steps kit.first first_latency walk.depth w.stands.kept (turn_stored b kit t walk w))

    base : Base b qs made.starts
    base = begin.base

    -- its latency is that of the arrays, and of the definitions
    pub begun_latency : made.latency ≡ latency_of kit.stays made.starts 24
    begun_latency = begin.latency

    pub begun_long : length made.starts ≡ 24
    begun_long = ap length base.padded ∙ pad_length 24 0 base.jobs (omega (arith, base.long, (counts b kit t walk w).1))

    first : made.latency ≡ latency_of (stays_read b) (pad 24 0 base.jobs) 24
    first = begun_latency ∙ ap (λ (p : List ℕ). latency_of p made.starts 24) w.each_stays ∙ ap (λ (s : List ℕ). latency_of (stays_read b) s 24) base.padded

    -- at best's already
    pub gone_at_once : bound_of walk.best ≤ made.latency → next (clashes b) b (place_at t.turns walk) ≡ back ts (incumbent walk.best walk.starts)
    gone_at_once h =
        gone base.jobs base.under (omega (arith, first, latency_padded b (counts b kit t walk w).1 base.jobs base.long))

    module _ (bound : ℕ) (g : bound ≡ bound_of walk.best) (p : made.latency < bound) where
      limit : bound ≤ 43017
      limit = omega (arith, bound_small b kit t walk w)

      -- what the rounds leave
      abbrev reached : Reached
      reached = rounds_of table (stays_read b) ((b.n + 3) / 4) bound (pad 24 0 base.jobs) made.latency b.n

      abbrev all_came : Came qs base.jobs (stays_read b) bound b.n reached
      all_came = came b (counts b kit t walk w).1 table qs tabled base.jobs (stays_read b) base.long bound limit made.latency first p b.n

      abbrev ss : List ℕ
      ss = rounds qs base.jobs all_came.j

      long : length ss ≡ b.n
      long = rounds_length qs base.jobs all_came.j ∙ base.long

      last_is : reached.latency ≡ latency b ss
      last_is = all_came.latency ∙ latency_padded b (counts b kit t walk w).1 ss long

      abbrev answer : Reached
      answer = timely (latest_read b) reached

      found : answer.found ≡ true → Least b t walk (low reached)
      unfolding starts_at timely
      found f =
          let c = counts b kit t walk w in
          let q = found_below b c.1 table qs tabled base.jobs (stays_read b) base.long bound limit made.latency first p (both reached.found _ f).0 in
          record {
            jobs = ss;
            least = found_least b c.1 table qs tabled base.jobs (stays_read b) base.long bound limit made.latency first p c.0 base.under f;
            padded = all_came.starts;
            told = last_is;
            below = below_kept walk.best (latency b ss) (omega (arith, q, last_is));
            small = omega (arith, q, limit);
          }

      not_found : answer.found ≡ false → next (clashes b) b (place_at t.turns walk) ≡ back ts (incumbent walk.best walk.starts)
      unfolding starts_at
      not_found f = go (lost_least b c.1 table qs tabled base.jobs (stays_read b) base.long bound limit made.latency first p c.0 base.under f)
        where
          c : (1 ≤ b.n) × (b.n ≤ 24) × (b.m ≤ 128)
          c = counts b kit t walk w

          go : (least_starts (earliest_starts b) (latest_starts b) qs ≡ none) ⊎ (bound ≤ reached.latency) → next (clashes b) b (place_at t.turns walk) ≡ back ts (incumbent walk.best walk.starts)
          go (inl e) = lost e
          go (inr h) = gone ss (under_rounds (earliest_starts b) (latest_starts b) qs base.jobs base.under all_came.j) (omega (arith, last_is))

      -- the starts and the latency are those that the rounds leave
      told_found : answer.found ≡ true → Least b t walk (low answer)
      unfolding timely
      told_found f = found f

      -- what least_starts answers, over the lists
      is : (r : Reached) → r ≡ least_of kit.jobs (take kit.delays kit.weights) (take walk.depth t.steps) kit.stays kit.latest bound made.starts made.latency → r ≡ answer
      is r h = h ∙ least_taken kit.jobs kit.delays walk.depth kit.weights t.steps kit.stays kit.latest made.starts bound made.latency (delays_room b kit t walk w) (turns_room b kit t walk w) ∙ least_same t.steps walk.depth bound made.latency w.jobs w.few w.weights w.each_stays w.latest base.padded

      pub reaches : (r : Reached) → r ≡ least_of kit.jobs (take kit.delays kit.weights) (take walk.depth t.steps) kit.stays kit.latest bound made.starts made.latency
          → (r.found ≡ true → Least b t walk (low r)) × (r.found ≡ false → next (clashes b) b (place_at t.turns walk) ≡ back ts (incumbent walk.best walk.starts))
      reaches r h =
          subst (λ (x : Reached). (x.found ≡ true → Least b t walk (low x)) × (x.found ≡ false → next (clashes b) b (place_at t.turns walk) ≡ back ts (incumbent walk.best walk.starts)))
          (sym (is r h)) (told_found, not_found)
