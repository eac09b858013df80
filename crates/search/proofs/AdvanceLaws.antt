-- From a sound record to the arrays that a run works on, and back to the record that its nodes reach.
use Prim.Native.Nat.{ℕ, ◌≤◌}
use mathlib.Core.Path.{◌≡◌, refl, ap, sym, subst, ◌∙◌}
use mathlib.Core.Bool.{Bool, true, false}
use mathlib.Core.List.{List}
use native.Mathlib.Omega.{arith}
use lib.ListN.{length, replicate}
use Rattle.model.specs.declared.Batch.{Batch}
use Rattle.model.specs.declared.Turn.{Turn}
use Rattle.model.specs.declared.Search.{Search}
use Rattle.model.specs.Common.{pad}
use Rattle.model.specs.Batch.{delays_of}
use Rattle.model.specs.Clash.{clashes}
use Rattle.model.specs.Search.{Place, empty, place_of, search_of, nodes_on, nodes}
use Rattle.model.specs.Sound.{sound}
use Rattle.model.proofs.LimitLaws.{counts_iff}
use Rattle.model.proofs.SoundLaws.{record_passes, fits}
use Rattle.clashes.specs.First.{Known, Near}
use Rattle.clashes.proofs.LimitLaws.{tabled}
use Rattle.clashes.proofs.ListedLaws.{list_fits, list_known, list_near}
use Rattle.pairs.specs.Pairs.{Paired}
use Rattle.pairs.specs.declared.pairs.Pairs.{Pairs}
use Rattle.times.specs.Fill.{Small}
use Rattle.times.specs.Latency.{latency_of, raised_by}
use Rattle.times.proofs.EndsLaws.{earliest_small}
use Rattle.weights.specs.declared.Inequality.{Inequality}
use Rattle.weights.specs.Delays.{delays_read}
use Rattle.weights.proofs.SoundLaws.{delays_length, holds_read}
use Rattle.starts.specs.Table.{Placed}
use Rattle.starts.specs.Table.{heaviest_of}
use Rattle.starts.proofs.HeldLaws.{held_placed}
use Rattle.soundness.specs.declared.Examined.{Examined}
use Rattle.soundness.specs.Examined.{Prepared}
use Rattle.node.specs.declared.kit.Walk.{Walk}
use Rattle.node.specs.Walk.{turns_in, Path, Coded, Steps, place_at}
use Rattle.node.specs.Kit.{Works}
use Rattle.node.proofs.RowsLaws.{kept_fresh}
use Rattle.node.proofs.WorksLaws.{passing_stays, turns_coded}
use Rattle.search.proofs.RecordLaws.{record_back, path_held, place_held, place_is_sound}

-- the record of a place, once its path is put together
pub rebuilt_is : (b : Batch) (total : ℕ) (turns : List ℕ) (walk : Walk) (path : List Turn) → path ≡ pad 1024 empty (turns_in turns walk.depth) → record { batch = b; path = path; best = walk.best; starts = walk.starts; total = total; ended = walk.ended } ≡ search_of b total (place_at turns walk)
unfolding search_of place_at
rebuilt_is b total turns walk path e = ap (λ (p : List Turn). record { batch = b; path = p; best = walk.best; starts = walk.starts; total = total; ended = walk.ended }) e

-- what the pairs' largest weights are found from
pub first_placed : (s : Search) (x : Examined) → sound s ≡ true → Prepared s x → (m : ℕ) → m ≡ s.batch.m → (m ≤ 128) × Placed x.delays m
first_placed s x e p m h =
    let q = record_passes s e in
    let c = (counts_iff s.batch.n s.batch.m).0 q.counts in (
      omega (arith, c.1),
      rw (h, p.delays)
          (subst (Placed (delays_read s.batch)) (delays_length s.batch)
          (held_placed s.batch.n c.0.1 (delays_of s.batch) (delays_read s.batch) (holds_read s.batch c.1 q.jobs_each q.weight_each))),
    )

-- what the clashes by pairs are found from
pub first_paired : (s : Search) (x : Examined) → sound s ≡ true → Prepared s x → (k : ℕ) → k ≤ x.clashes.count → (k ≤ 1024) × (Known x.clashes.codes k × Near x.clashes.codes k)
first_paired s x e p k h =
    let q = record_passes s e in
    let f = (fits s.batch q).few in
    let t = tabled s.batch q.counts q.ticks_each q.further in
    let known = list_known s.batch x.clashes p.clashes f t in
    let near = list_near s.batch x.clashes p.clashes f t in (
      omega (arith, list_fits s.batch x.clashes p.clashes f),
      (record { each = λ i l. known.each i (omega arith) }, record { each = λ i l. near.each i (omega arith) }),
    )

-- the stays and the earliest starts that their latency is found from
pub first_times : (s : Search) (x : Examined) → sound s ≡ true → Prepared s x → Small x.stays 16 × Small x.ends.earliest 44016
first_times s x e p =
    let q = record_passes s e in
    let f = fits s.batch q in (
      rw p.stays (passing_stays s.batch q),
      rw p.earliest (earliest_small s.batch f.jobs 44016 (λ i h. omega (arith, f.soon i h))),
    )

pub first_latency : (stays earliest : List ℕ) (first : ℕ) → first ≡ raised_by stays earliest 0 → first ≡ latency_of stays earliest 24
unfolding raised_by
first_latency stays earliest first e = omega (arith, e)

module _ (s : Search) (x : Examined) (e : sound s ≡ true) (o : s.ended ≡ false) (p : Prepared s x) (l : length x.route.turns ≡ 1024) where
  -- where the nodes start from
  abbrev pub first : Walk
  first = record { depth = x.route.depth; best = s.best; starts = s.starts; ended = false }

  place_first : place_at x.route.turns first ≡ place_of s
  place_first =
      ap (λ (q : Bool). place_at x.route.turns (record { depth = x.route.depth; best = s.best; starts = s.starts; ended = q })) (sym o)
      ∙ place_held s e x.route.turns x.route.depth p.path.whole p.path.each

  pub first_path : Path x.route.turns x.route.depth
  first_path = path_held s e x.route.turns x.route.depth p.path.whole p.path.each l

  first_sound : sound (search_of s.batch 0 (place_at x.route.turns first)) ≡ true
  first_sound = ap (λ (q : Place). sound (search_of s.batch 0 q)) place_first ∙ place_is_sound s e

  -- the turns are on clashes that the codes name
  pub first_coded : Coded x.clashes.codes x.route.turns x.route.depth
  first_coded = turns_coded s.batch x.route.turns first first_path first_sound x.clashes p.clashes

  pub first_works : (jobs m first_at paired : ℕ) (heavy : List Inequality) (pairs : Pairs) (steps : List Inequality)
      → jobs ≡ s.batch.n → m ≡ s.batch.m → first_at ≡ raised_by x.stays x.ends.earliest 0 → heavy ≡ heaviest_of m x.delays
      → paired ≤ x.clashes.count → Paired x.clashes.codes pairs paired → Steps x.clashes.codes x.route.turns x.route.depth steps
      → Works s.batch
      (record { jobs = jobs; delays = m; weights = heavy; stays = x.stays; earliest = x.ends.earliest; latest = x.ends.latest; first = first_at; clashes = x.clashes; pairs = pairs })
      (record { turns = x.route.turns; steps = steps; rows = replicate 32 (record { tag = 65535; low = record { starts = replicate 24 0; latency = 0 } }) }) first
  first_works jobs m first_at paired heavy pairs steps a c h k q r g =
      record {
        jobs = a;
        few = c;
        weights = rw (k, c, p.delays) refl;
        each_stays = p.stays;
        earliest = p.earliest;
        latest = p.latest;
        first = first_latency x.stays x.ends.earliest first_at h;
        listed = p.clashes;
        paired = (paired, (q, r));
        stands = record { path = first_path; steps = g; kept = kept_fresh s.batch x.stays x.route.turns x.route.depth first_path.deep };
        is_sound = first_sound;
      }

  -- the record that the nodes reach
  pub advanced : (budget : ℕ) → length s.path ≡ 1024 → (r : Search) → r ≡ nodes_on (clashes s.batch) budget (search_of s.batch s.total (place_at x.route.turns first)) → r ≡ nodes budget s
  unfolding nodes
  advanced budget k r h =
      h ∙ ap (λ (q : Place). nodes_on (clashes s.batch) budget (search_of s.batch s.total q)) place_first
      ∙ ap (nodes_on (clashes s.batch) budget) (record_back s e k)
