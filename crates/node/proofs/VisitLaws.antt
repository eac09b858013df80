-- The cases of a node: what least starts, latency and the first met clash say together is the definitions' next place.
use Rattle.std.specs.Prelude.{if◌then◌else◌}
use Prim.Native.Nat.{ℕ, ◌+◌, ◌*◌, ◌/◌, ◌%◌, ◌≤◌, ◌<◌}
use mathlib.Core.Path.{◌≡◌, refl, ap, sym, subst, ◌∙◌}
use mathlib.Core.Bool.{Bool, false}
use mathlib.Core.List.{List, [], ◌∷◌, ◌++◌}
use mathlib.Core.Option.{Option, none, some}
use native.Mathlib.Omega.{arith}
use native.Mathlib.Numerals.{add-one}
use lib.ListN.{length, get_or, set}
use lib.Seq.{get_or-set_same, get_or-set_other}
use Rattle.model.specs.declared.Batch.{Batch}
use Rattle.model.specs.declared.Turn.{Turn}
use Rattle.model.specs.Best.{Best}
use Rattle.std.specs.Prelude.{None, Some}
use Rattle.model.specs.Common.{pad}
use Rattle.model.specs.Batch.{earliest_starts, latest_starts}
use Rattle.model.specs.Plan.{latency}
use Rattle.model.specs.Clash.{clashes}
use Rattle.model.specs.Search.{Place, inequalities, starts_at, first_met, back, become_best, branch, visit, next}
use Rattle.model.proofs.SeqLaws.{pad_at, pad_length}
use Rattle.model.proofs.UnderLaws.{under_least}
use Rattle.model.proofs.StartsLaws.{least_length, ends_length, inside_ends}
use Rattle.model.proofs.GoodLaws.{good_room}
use Rattle.model.proofs.NodeLaws.{met_first, met_new, all_inside}
use Rattle.model.proofs.GoodLaws.{good_named}
use Rattle.model.proofs.SoundLaws.{fits}
use Rattle.clashes.specs.First.{Named as NamedCode, Known, Unmet, met_of, first_code}
use Rattle.clashes.proofs.ListedLaws.{list_fits, list_known, first_listed}
use Rattle.pairs.specs.Pairs.{OfJobs, NoneMet}
use Rattle.times.specs.Fill.{Small}
use Rattle.times.specs.Latency.{latency_of}
use Rattle.times.proofs.LatencyLaws.{latency_padded}
use Rattle.weights.specs.declared.Inequality.{Inequality}
use Rattle.weights.specs.Turn.{turn_inequality}
use Rattle.rounds.proofs.RoundLaws.{below_small}
use Rattle.node.specs.declared.kit.Kit.{Kit}
use Rattle.node.specs.declared.kit.Trail.{Trail}
use Rattle.node.specs.declared.kit.Reach.{Reach}
use Rattle.node.specs.declared.kit.Walk.{Walk}
use Rattle.node.specs.Walk.{Kin, turn_of, turns_in, incumbent, place_at}
use Rattle.node.specs.Rows.{Base}
use Rattle.node.specs.Kit.{Stands, Works, Least, Returned}
use Rattle.node.proofs.BackLaws.{turns_more, turns_set, path_set}
use Rattle.node.proofs.PathLaws.{turns_length}
use Rattle.node.proofs.StepsLaws.{steps_more, steps_less}
use Rattle.node.proofs.RowsLaws.{kept_back, kept_more}
use Rattle.node.proofs.WorksLaws.{passes, good, good_turns, counts, tables, few, clash_coded}

met_none : (o : Option ℕ) → met_of o ≡ None → o ≡ none
unfolding met_of
met_none none e = refl
met_none (some k) e = absurd cc

met_some : (o : Option ℕ) (k : ℕ) → met_of o ≡ Some k → o ≡ some k
unfolding met_of
met_some none k e = absurd cc
met_some (some j) k e = let z : j ≡ k = cc in ap some z

-- the turns with one of side 0 added
turn_added : (turns : List ℕ) (depth k : ℕ) → depth < length turns → turns_in (set turns depth (2 * k)) (depth + 1) ≡ turns_in turns depth ++ (record { clash = k; side = 0 } ∷ [])
unfolding turn_of
turn_added turns depth k h =
    let a : 2 * k / 2 ≡ k = omega arith in
    let c : 2 * k % 2 ≡ 0 = omega arith in
    ap (turns_in (set turns depth (2 * k))) (add-one depth) ∙ turns_more (set turns depth (2 * k)) depth
    ∙ rw (turns_set turns depth depth (2 * k) (omega arith), get_or-set_same turns depth (2 * k) 0 h, a, c)

module _ (b : Batch) (kit : Kit) (t : Trail) (walk : Walk) (w : Works b kit t walk) where
  abbrev ts : List Turn
  ts = turns_in t.turns walk.depth

  abbrev place : Place
  place = place_at t.turns walk

  -- ---- what unmet and first_met ask

  pub unmet_asks : OfJobs kit.pairs
  unmet_asks = w.paired.1.1.of_jobs

  pub met_asks : (low : ℕ) (starts : List ℕ) → NoneMet kit.pairs starts low
      → ((low ≤ kit.clashes.count) × (kit.clashes.count ≤ 1024)) × (Known kit.clashes.codes kit.clashes.count × Unmet kit.clashes.codes starts low)
  met_asks low starts h =
      let l = kit.clashes in
      let f = few b kit t walk w in
      let u = h kit.clashes.codes w.paired.0 w.paired.1.1 in (
        (omega (arith, u.1, w.paired.1.0), list_fits b l w.listed f),
        (list_known b l w.listed f (tables b kit t walk w), u.0),
      )

  -- ---- gone back

  pub stands_back : (walk₁ : Walk) (t' : Trail) (walk' : Walk) → walk₁.depth ≡ walk.depth → Returned kit t walk₁ t' walk' → Stands b kit t' walk'.depth
  stands_back walk₁ t' walk' e r =
      record {
        path = r.path;
        steps = r.steps;
        kept = rw r.rows
            (kept_back b kit.stays t.turns t'.turns walk.depth walk'.depth _ w.stands.kept (subst (λ (d : ℕ). Kin t.turns d t'.turns walk'.depth) e r.kin));
      }

  -- ---- least starts below best

  module _ (x : Reach) (l : Least b t walk x) where
    abbrev starts : List ℕ
    starts = x.starts

    abbrev last : ℕ
    last = x.latency

    abbrev ss : List ℕ
    ss = l.jobs

    long : length ss ≡ b.n
    unfolding starts_at
    long = least_length (earliest_starts b) (latest_starts b) _ ss l.least ∙ ends_length b

    base : Base b (inequalities (clashes b) b ts) starts
    unfolding starts_at
    base = record { jobs = ss; long = long; padded = l.padded; under = under_least (earliest_starts b) (latest_starts b) _ (inside_ends b _ (all_inside b (fits b (passes b kit t walk w)) ts (good_named b ts (good_turns b kit t walk w)))) ss l.least }

    -- their latency over the arrays
    exact : last ≡ latency_of kit.stays starts 24
    exact =
        l.told ∙ sym (latency_padded b (counts b kit t walk w).1 ss long) ∙ ap (λ (p : List ℕ). latency_of p (pad 24 0 ss) 24) (sym w.each_stays)
        ∙ ap (λ (x : List ℕ). latency_of kit.stays x 24) (sym l.padded)

    small : Small starts 43016
    small =
        below_small kit.stays starts last 43017 (ap length l.padded ∙ pad_length 24 0 ss (omega (arith, long, (counts b kit t walk w).1))) exact (omega (arith, l.small)) (omega arith)

    -- ss is not cut off at best
    decided : next (clashes b) b place ≡ branch b place ss (first_met (clashes b) ss 0)
    unfolding next visit place_at
    decided =
        ap (visit (clashes b) b place) l.least
        ∙ ap (λ (q : Bool). if q then back ts (incumbent walk.best walk.starts) else branch b place ss (first_met (clashes b) ss 0)) l.below

    module _ (m : Best) (r : m ≡ first_code kit.clashes.codes kit.clashes.count starts) where
      met_tells : m ≡ met_of (first_met (clashes b) ss 0)
      met_tells =
          r ∙ first_listed b kit.clashes w.listed (few b kit t walk w) (tables b kit t walk w)
          starts ss (λ i p. ap (λ (x : List ℕ). get_or x i 0) l.padded ∙ pad_at 24 0 ss i)

      -- no clash is met: best
      pub visit_best : (q : Place) → m ≡ None → q ≡ back ts (incumbent (Some last) starts) → q ≡ next (clashes b) b place
      unfolding branch become_best place_at
      visit_best q u v =
          v ∙ ap (λ (k : ℕ). back ts (incumbent (Some k) starts)) l.told ∙ ap (λ (x : List ℕ). back ts (incumbent (Some (latency b ss)) x)) l.padded
          ∙ sym (decided ∙ ap (branch b place ss) (met_none _ (sym met_tells ∙ u)))

      -- a clash is met: one turn more
      module _ (k : ℕ) (u : m ≡ Some k) where
        met_is : first_met (clashes b) ss 0 ≡ some k
        met_is = met_some _ k (sym met_tells ∙ u)

        met_listed : k < length (clashes b)
        met_listed = omega (arith, (met_first (clashes b) ss 0 k met_is).1)

        pub met_room : (k < 1024) × (walk.depth < 1024)
        unfolding place_at
        met_room =
            let q = passes b kit t walk w in
            let gt = (good b kit t walk w).turns in
            let room = good_room b ts k gt met_listed (met_new b (fits b q) ts (good_named b ts gt) ss l.least k met_is) in
            (omega (arith, met_listed, few b kit t walk w), omega (arith, room, few b kit t walk w, turns_length t.turns walk.depth))

        pub met_coded : NamedCode (get_or kit.clashes.codes k 0)
        met_coded = clash_coded b kit t walk w k met_listed

        pub visit_met : place_at (set t.turns walk.depth (2 * k)) (record { depth = walk.depth + 1; best = walk.best; starts = walk.starts; ended = false }) ≡ next (clashes b) b place
        unfolding branch place_at
        visit_met =
            ap (λ (x : List Turn). record { turns = x; incumbent = incumbent walk.best walk.starts; ended = false }) (turn_added t.turns walk.depth k (omega (arith, w.stands.path.full, met_room.1)))
            ∙ sym (decided ∙ ap (branch b place ss) met_is)

        -- the trail with the turn, its inequality and the node's row
        pub stands_more : (c turn tag : ℕ) (v : Inequality) → c ≡ k → turn ≡ 2 * k → tag ≡ walk.depth
            → v ≡ turn_inequality (get_or kit.clashes.codes c 0) turn
            → Stands b kit (record { turns = set t.turns walk.depth turn; steps = set t.steps walk.depth v; rows = set t.rows (walk.depth % 32) (record { tag = tag; low = x }) }) (walk.depth + 1)
        stands_more c turn tag v p q g e =
            record {
              path = path_set t.turns (walk.depth + 1) walk.depth turn w.stands.path met_room.1 refl (omega (arith, met_room.0));
              steps =
                  steps_more kit.clashes.codes (set t.turns walk.depth turn) t.steps walk.depth c turn v
                  (steps_less kit.clashes.codes t.turns (set t.turns walk.depth turn) t.steps walk.depth walk.depth w.stands.steps (omega arith) (λ i h. get_or-set_other t.turns walk.depth i turn 0 (λ z. omega arith)))
                  met_room.1 (sym (get_or-set_same t.turns walk.depth turn 0 (omega (arith, w.stands.path.full, met_room.1)))) (omega arith) e;
              kept = rw g (kept_more b kit.stays t.turns walk.depth turn t.rows x w.stands.kept small l.small exact base);
            }
