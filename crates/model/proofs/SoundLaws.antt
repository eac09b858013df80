-- Sound records: going on from any sound record by 01's steps keeps it sound, as long as total stays within its limit, and its path never
-- outgrows its 1,024 places. Soundness is a test; here it is read as the facts it tests, and back.
use Prim.Native.Nat.{ℕ, zero, suc, ◌+◌, ◌-◌, ◌≤◌, ◌<◌}
use mathlib.Core.Path.{◌≡◌, refl, ap, ap₂, sym, ◌∙◌, subst}
use mathlib.Core.Logic.{◌⊎◌, inl, inr}
use mathlib.Core.Bool.{Bool, true, false, not, ◌&&◌, ◌||◌}
use mathlib.Core.Option.{none, some}
use mathlib.Core.List.{List, [], ◌∷◌, ◌++◌, Memᴰ}
use native.Mathlib.Omega.{arith}
use lib.ListN.{length, get_or, drop, replicate, length-append, length-replicate, get_or-append}
use lib.IntN.{pos, negsuc}
use lib.Signed.{le_z}
use lib.Seq.{drop_at}
use lib.Dec.{leb, ltb, eqb}
use borrow.Author.Tests.{leb-true, le-leb, ltb-true, lt-ltb, eqb-true, eq-eqb}
use Rattle.model.specs.declared.Batch.{Batch}
use Rattle.model.specs.declared.Turn.{Turn}
use Rattle.model.specs.declared.Search.{Search}
use Rattle.model.specs.Common.{between, all, any, count, pad, is_empty}
use Rattle.model.specs.Limits.{stations, most_jobs, most_delays, most_ticks, most_weight, most_clashes, most_start, most_latency, most_total}
use Rattle.model.specs.Batch.{ticks, delays_of}
use Rattle.model.specs.Plan.{start, latency}
use Rattle.model.specs.Clash.{Clash, clashes}
use Rattle.model.specs.Search.{Incumbent, Place, starts_at, first_met, become_best, next, empty, is_turn, turns_of, place_of, search_of, node, nodes_on, nodes}
use Rattle.model.specs.Open.{counts_ok, ticks_ok, jobs_ok, weight_ok, few_clashes, delays_met}
use Rattle.model.specs.Window.{window_ok}
use Rattle.model.specs.Rest.{rest_ok}
use Rattle.model.specs.Format.{Further, further_of, no_further, has_none, Edition}
use Rattle.model.specs.Sound.{sound_edition, sound_further, sound_batch, distinct, sound_turns, sound_path, sound_best, sound}
use Rattle.model.proofs.BoolLaws.{apart, both, and}
use Rattle.model.proofs.ListLaws.{any_some, some_any, all_each, each_all, map_some, count_some, some_count}
use Rattle.model.proofs.StartsLaws.{Different}
use Rattle.model.proofs.BackLaws.{numbers}
use Rattle.model.proofs.WindowLaws.{window_soon}
use Rattle.model.proofs.RestLaws.{rest_low}
use Rattle.model.proofs.NodeLaws.{Fits, Named, at_length}
use Rattle.model.proofs.GoodLaws.{GoodTurns, good_named, good_length, Good, step_next}
use Rattle.model.proofs.BoundLaws.{starts_bound, latency_bound}
use Rattle.model.proofs.EndLaws.{turns_path, nodes_ended, At}

-- ---- the batch

-- what soundness tests of a batch, one by one
pub record Passes (b : Batch) : Type 0 where
  pub counts : counts_ok b.n b.m ≡ true
  pub ticks_each : all (λ i. ticks_ok (ticks b i)) (count 0 b.n) ≡ true
  pub jobs_each : all (jobs_ok b.n) (delays_of b) ≡ true
  pub weight_each : all weight_ok (delays_of b) ≡ true
  pub edition : sound_edition b ≡ true
  pub further : sound_further b ≡ true
  pub few : few_clashes b ≡ true
  pub met : delays_met b ≡ true

pub sound_passes : (b : Batch) → sound_batch b ≡ true → Passes b
unfolding sound_batch
sound_passes b e =
    let f = both _ (delays_met b) e in
    let g = both _ (few_clashes b) f.0 in
    let h = both _ (all weight_ok (delays_of b)) g.0 in
    let i = both _ (all (jobs_ok b.n) (delays_of b)) h.0 in
    let x = both _ (sound_further b) i.0 in
    let y = both _ (sound_edition b) x.0 in
    let j = both (counts_ok b.n b.m) (all (λ i. ticks_ok (ticks b i)) (count 0 b.n)) y.0 in
    record { counts = j.0; ticks_each = j.1; jobs_each = i.1; weight_each = h.1; edition = y.1; further = x.1; few = g.1; met = f.1 }

pub passes_sound : (b : Batch) → Passes b → sound_batch b ≡ true
unfolding sound_batch
passes_sound b p =
    and (and (and (and (and (and (and p.counts p.ticks_each) p.edition) p.further) p.jobs_each) p.weight_each) p.few) p.met

-- an edition that the format knows, with the further lines that it may have
pub edition_sound : (b : Batch) → Edition b → sound_edition b ≡ true
unfolding sound_edition Edition has_none no_further is_empty
edition_sound b (inl e) = ap₂ (λ (x : ℕ) (f : Further). eqb x 2 || (eqb x 1 && has_none f)) e.0 e.1
edition_sound b (inr e) = ap (λ (x : ℕ). eqb x 2 || (eqb x 1 && has_none (further_of b))) e

pub passes_fit : (b : Batch) → Passes b → Fits b
unfolding counts_ok ticks_ok jobs_ok weight_ok few_clashes between sound_further
passes_fit b p =
    let further = both (all (window_ok b) (count 0 b.n)) (all (rest_ok b) (count 0 stations)) p.further in
    record {
      jobs = leb-true b.n most_jobs (both (leb 1 b.n) (leb b.n most_jobs) (both _ (leb b.m most_delays) p.counts).0).1;
      short = λ i h. leb-true (ticks b i) most_ticks (both (leb 1 (ticks b i)) (leb (ticks b i) most_ticks) (all_each (λ i. ticks_ok (ticks b i)) (count 0 b.n) p.ticks_each (some_count 0 b.n i (omega arith) (omega arith)))).1;
      inside = λ q m.
          let h = (both (ltb q.from b.n && ltb q.to b.n) (not (eqb q.from q.to)) (all_each (jobs_ok b.n) (delays_of b) p.jobs_each m)).0 in
          let g = both (ltb q.from b.n) (ltb q.to b.n) h in
          (ltb-true q.from b.n g.0, ltb-true q.to b.n g.1);
      slow = λ q m. (both (le_z (negsuc (most_weight - 1)) q.weight) (le_z q.weight (pos most_weight)) (all_each weight_ok (delays_of b) p.weight_each m)).1;
      soon = λ i h. window_soon b i (all_each (window_ok b) (count 0 b.n) further.0 (some_count 0 b.n i (omega arith) (omega arith)));
      rests = λ s h. rest_low b s (all_each (rest_ok b) (count 0 stations) further.1 (some_count 0 stations s (omega arith) (omega arith)));
      few = leb-true (length (clashes b)) most_clashes p.few;
    }

-- ---- the turns

distinct_different : (xs : List ℕ) → distinct xs ≡ true → Different xs
unfolding distinct
distinct_different [] e = tt
distinct_different (x ∷ xs) e =
    let r = both (not (any (eqb x) xs)) (distinct xs) e in
    (λ m. apart (sym (ap not (some_any (eqb x) xs m (eq-eqb x x refl))) ∙ r.0), distinct_different xs r.1)

different_distinct : (xs : List ℕ) → Different xs → distinct xs ≡ true
unfolding distinct
different_distinct [] d = refl
different_distinct (x ∷ xs) d = and (new (any (eqb x) xs) refl) (different_distinct xs d.1)
  where
    new : (p : Bool) → any (eqb x) xs ≡ p → not p ≡ true
    new true e = let r = any_some (eqb x) xs e in absurd (d.0 (subst (λ (z : ℕ). Memᴰ z xs) (sym (eqb-true x r.0 r.2)) r.1))
    new false e = refl

module _ (b : Batch) where
  turn_ok : Turn → Bool
  turn_ok t = ltb t.clash (length (clashes b)) && leb t.side 1

  pub sound_turns_lem : (ts : List Turn) → sound_turns (length (clashes b)) ts ≡ true → GoodTurns b ts
  unfolding sound_turns numbers turn_ok
  sound_turns_lem ts e =
      let r = both (all turn_ok ts) (distinct (numbers ts)) e in
      record {
        below = λ x m. below x (map_some (λ (t : Turn). t.clash) ts m) r.0;
        different = distinct_different (numbers ts) r.1;
        sides = λ t m. leb-true t.side 1 (both (ltb t.clash (length (clashes b))) (leb t.side 1) (all_each turn_ok ts r.0 m)).1;
      }
    where
      below : (x : ℕ) → (t : Turn) × Memᴰ t ts × (x ≡ t.clash) → all turn_ok ts ≡ true → x < length (clashes b)
      below x (t, m, e) a =
          omega (arith, ltb-true t.clash (length (clashes b)) (both (ltb t.clash (length (clashes b))) (leb t.side 1) (all_each turn_ok ts a m)).0)

  pub turns_sound : (ts : List Turn) → GoodTurns b ts → sound_turns (length (clashes b)) ts ≡ true
  unfolding sound_turns numbers turn_ok Named
  turns_sound ts g =
      and (each_all turn_ok ts (λ t m. and (lt-ltb t.clash (length (clashes b)) (good_named b ts g t m)) (le-leb t.side 1 (g.sides t m))))
      (different_distinct (numbers ts) g.different)

-- ---- best

abbrev pub SoundBest : Batch → Incumbent → Type 0
SoundBest b i = sound_best b.n i.best i.starts ≡ true

-- a best that a node finds is within its limits
pub sound_new : (b : Batch) (fits : Fits b) (ts : List Turn) → Named b ts → (ss : List ℕ) → starts_at (clashes b) b ts ≡ some ss → first_met (clashes b) ss 0 ≡ none → SoundBest b (become_best b ss)
unfolding become_best pad sound_best start
sound_new b fits ts named ss e f =
    and (le-leb (latency b ss) most_latency (latency_bound b fits ts named ss e))
    (each_all (λ i. leb (start (ss ++ replicate (most_jobs - length ss) 0) i) most_start) (count 0 b.n)
    (λ i m. le-leb (start (ss ++ replicate (most_jobs - length ss) 0) i) most_start (low i (count_some 0 b.n i m).1)))
  where
    low : (i : ℕ) → i < 0 + b.n → start (ss ++ replicate (most_jobs - length ss) 0) i ≤ most_start
    low i h =
        let z : get_or (ss ++ replicate (most_jobs - length ss) 0) i 0 ≡ get_or ss i 0 = get_or-append ss (replicate (most_jobs - length ss) 0) 0 i (omega (arith, at_length b fits ts ss e)) in
        omega (arith, starts_bound b fits ts named ss e i)

-- ---- the record

is_empty_nil : {A : Type 0} (xs : List A) → is_empty xs ≡ true → xs ≡ []
unfolding is_empty
is_empty_nil [] e = refl
is_empty_nil (x ∷ xs) e = apart e

all_blank : (m : ℕ) → all (λ t. not (is_turn t)) (replicate m empty) ≡ true
unfolding all is_turn empty
all_blank zero = refl
all_blank (suc m) = all_blank m

batch_kept : (cs : List Clash) (s : Search) → (node cs s).batch ≡ s.batch
unfolding node search_of
batch_kept cs s = refl

total_kept : (cs : List Clash) (s : Search) → (node cs s).total ≡ s.total + 1
unfolding node search_of
total_kept cs s = refl

module _ (b : Batch) (passes : Passes b) where
  abbrev pub fits : Fits b
  fits = passes_fit b passes

  -- a record of this batch at a place as soundness wants it
  abbrev pub SoundAt : Search → Type 0
  SoundAt s = At b fits (SoundBest b) (sound_new b fits) s

  pub sound_at : (s : Search) → s.batch ≡ b → sound s ≡ true → SoundAt s × (s.total ≤ most_total)
  unfolding sound sound_path place_of
  sound_at s q e =
      let f = both _ (sound_best s.batch.n s.best s.starts) e in
      let g = both _ (leb s.total most_total) f.0 in
      let h = (both (sound_batch s.batch) (sound_path s) g.0).1 in
      let i = both _ (not s.ended || is_empty (turns_of s.path)) h in
      let j = both (sound_turns (length (clashes s.batch)) (turns_of s.path)) _ i.0 in (
        record {
          batch = q;
          good =
              record {
                turns = sound_turns_lem b (turns_of s.path) (ap (λ (c : Batch). sound_turns (length (clashes c)) (turns_of s.path)) (sym q) ∙ j.0);
                best = ap (λ (c : Batch). sound_best c.n s.best s.starts) (sym q) ∙ f.1;
                over = over s.ended (turns_of s.path) i.1;
              };
        },
        leb-true s.total most_total g.1,
      )
    where
      over : (p : Bool) (ts : List Turn) → (not p || is_empty ts) ≡ true → p ≡ true → ts ≡ []
      over true ts e h = is_empty_nil ts e
      over false ts e h = apart h

  -- a good place makes a sound record
  pub place_sound : (total : ℕ) (q : Place) → total ≤ most_total → Good b fits (SoundBest b) (sound_new b fits) q → sound (search_of b total q) ≡ true
  unfolding sound sound_path search_of Named pad is_empty
  place_sound total q t g =
      and (and (and (passes_sound b passes) path) (le-leb total most_total t)) g.best
    where
      turns : turns_of (pad most_clashes empty q.turns) ≡ q.turns
      turns = turns_path q.turns (λ t m. omega (arith, good_named b q.turns g.turns t m, fits.few))

      blank : drop (length q.turns) (pad most_clashes empty q.turns) ≡ replicate (most_clashes - length q.turns) empty
      blank = drop_at q.turns (replicate (most_clashes - length q.turns) empty) (length q.turns) refl

      over : (p : Bool) (ts : List Turn) → (p ≡ true → ts ≡ []) → (not p || is_empty ts) ≡ true
      over true ts h = ap is_empty (h refl)
      over false ts h = refl

      rest : all (λ t. not (is_turn t)) (drop (length q.turns) (pad most_clashes empty q.turns)) ≡ true
      rest = ap (all (λ t. not (is_turn t))) blank ∙ all_blank (most_clashes - length q.turns)

      tested : List Turn → Bool
      tested ts = (sound_turns (length (clashes b)) ts && all (λ t. not (is_turn t)) (drop (length ts) (pad most_clashes empty q.turns))) && (not q.ended || is_empty ts)

      path : tested (turns_of (pad most_clashes empty q.turns)) ≡ true
      path = ap tested turns ∙ and (and (turns_sound b q.turns g.turns) rest) (over q.ended q.turns g.over)

  -- a node from a sound record
  pub node_sound : (s : Search) → SoundAt s → s.total < most_total → sound (node (clashes b) s) ≡ true
  unfolding node
  node_sound s a t =
      ap (λ (c : Batch). sound (search_of c (s.total + 1) (next (clashes b) c (place_of s)))) a.batch
      ∙ place_sound (s.total + 1) (next (clashes b) b (place_of s)) (omega arith) (step_next b fits (SoundBest b) (sound_new b fits) (place_of s) a.good).good

  -- a node's path has 1,024 places, the turns and then empty ones
  pub node_path : (s : Search) → SoundAt s → length (node (clashes b) s).path ≡ most_clashes
  unfolding node search_of pad
  node_path s a =
      let q = next (clashes b) s.batch (place_of s) in
      let g = (step_next b fits (SoundBest b) (sound_new b fits) (place_of s) a.good).good in
      let h : length q.turns ≤ length (clashes b) = subst (λ (c : Batch). length (next (clashes b) c (place_of s)).turns ≤ length (clashes b)) (sym a.batch) (good_length b _ g.turns) in
      omega (
        arith,
        length-append q.turns (replicate (most_clashes - length q.turns) empty),
        length-replicate (most_clashes - length q.turns) empty,
        fits.few,
      )

  nodes_sound : (k : ℕ) (s : Search) → s.batch ≡ b → sound s ≡ true → s.total + k ≤ most_total → sound (nodes_on (clashes b) k s) ≡ true
  unfolding nodes_on
  nodes_sound zero s q e h = e
  nodes_sound (suc k) s q e h = go s.ended (nodes_sound k (node (clashes b) s))
    where
      node_batch : (node (clashes b) s).batch ≡ s.batch
      node_batch = batch_kept (clashes b) s

      node_count : (node (clashes b) s).total ≡ s.total + 1
      node_count = total_kept (clashes b) s

      go : (p : Bool) → ((node (clashes b) s).batch ≡ b → sound (node (clashes b) s) ≡ true → (node (clashes b) s).total + k ≤ most_total → sound (nodes_on (clashes b) k (node (clashes b) s)) ≡ true) → sound (elim p [ true ↦ s | false ↦ nodes_on (clashes b) k (node (clashes b) s) ]) ≡ true
      go true rec = e
      go false rec = rec (node_batch ∙ q) (node_sound s (sound_at s q e).0 (omega arith)) (omega (arith, node_count))

-- ---- the law

-- the batch of a sound record passes
pub record_passes : (s : Search) → sound s ≡ true → Passes s.batch
unfolding sound
record_passes s e =
    sound_passes s.batch
    (both (sound_batch s.batch) (sound_path s) (both _ (leb s.total most_total) (both _ (sound_best s.batch.n s.best s.starts) e).0).0).0

-- an ended search stays as it is; one that has not ended may use what is left of its total
pub sound_nodes : (k : ℕ) (s : Search) → sound s ≡ true → (s.ended ≡ true) ⊎ (s.total + k ≤ most_total) → sound (nodes k s) ≡ true
unfolding nodes
sound_nodes k s e (inl h) = ap sound (nodes_ended s.batch k s h) ∙ e
sound_nodes k s e (inr h) = nodes_sound s.batch (record_passes s e) k s refl e h

-- a sound record's turns fit its path
pub sound_depth : (s : Search) → sound s ≡ true → length (turns_of s.path) ≤ most_clashes
unfolding place_of
sound_depth s e =
    let p = record_passes s e in
    omega (arith, good_length s.batch (turns_of s.path) (sound_at s.batch p s refl e).0.good.turns, (fits s.batch p).few)
