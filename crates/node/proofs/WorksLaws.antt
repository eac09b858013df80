-- What the arrays of a run say once they stand for a batch and a sound place: what the callees of a node ask, and what they answer.
use Prim.Native.Nat.{ℕ, zero, suc, ◌/◌, ◌%◌, ◌≤◌, ◌<◌}
use mathlib.Core.Path.{◌≡◌, refl, ap, sym, ◌∙◌, subst}
use mathlib.Core.Bool.{true}
use mathlib.Core.List.{List, [], ◌∷◌, map, Memᴰ}
use native.Mathlib.Omega.{arith}
use lib.ListN.{length, get_or, length-map}
use lib.IntN.{ℤ, pos, negsuc}
use lib.Signed.{◌≤ℤ◌}
use lib.Dec.{leb}
use borrow.Author.Tests.{leb-true}
use Rattle.model.specs.declared.Batch.{Batch}
use Rattle.model.specs.declared.Delay.{Delay}
use Rattle.model.specs.declared.Turn.{Turn}
use Rattle.model.specs.Best.{Best}
use Rattle.std.specs.Prelude.{None, Some}
use Rattle.model.specs.Batch.{blank_delay, delays_of}
use Rattle.model.specs.Limits.{most_clashes}
use Rattle.model.specs.Clash.{clashes}
use Rattle.model.specs.Search.{Place, no_clash, empty, turned, place_of, search_of}
use Rattle.model.specs.Sound.{sound_best, sound}
use Rattle.model.proofs.BoolLaws.{both}
use Rattle.model.proofs.ListLaws.{each_item}
use Rattle.model.proofs.SeqLaws.{listed_at, get_d_in}
use Rattle.model.proofs.LimitLaws.{counts_iff}
use Rattle.model.proofs.DistanceLaws.{lifted_near}
use Rattle.model.proofs.GoodLaws.{GoodTurns, Good, good_named}
use Rattle.model.proofs.NodeLaws.{Named}
use Rattle.model.proofs.EndLaws.{turns_path}
use Rattle.model.proofs.SoundLaws.{Passes, record_passes, fits, SoundBest, sound_new, sound_at}
use Rattle.clashes.specs.declared.Clashes.{Clashes}
use Rattle.clashes.specs.List.{Tabled, list_of}
use Rattle.clashes.specs.First.{Named as NamedCode}
use Rattle.clashes.proofs.LimitLaws.{tabled}
use Rattle.clashes.proofs.ListedLaws.{ranged_at, listed_at as clash-listed-at, list_code}
use Rattle.times.specs.Fill.{Small}
use Rattle.times.specs.Stays.{stays_read}
use Rattle.times.proofs.LatencyLaws.{stays_small}
use Rattle.weights.specs.declared.Inequality.{Inequality}
use Rattle.weights.specs.Inequality.{nth}
use Rattle.weights.specs.Code.{coded, Fits, ClashFits}
use Rattle.weights.specs.Delays.{delays_read}
use Rattle.weights.specs.Holds.{Holds}
use Rattle.weights.proofs.TurnLaws.{clash_named, turn_side}
use Rattle.weights.proofs.SoundLaws.{delays_length, holds_read}
use Rattle.starts.specs.Table.{Placed}
use Rattle.starts.proofs.TakeLaws.{heavy_length, heavy_placed}
use Rattle.starts.proofs.HeldLaws.{held_placed}
use Rattle.node.specs.declared.kit.Kit.{Kit}
use Rattle.node.specs.declared.kit.Trail.{Trail}
use Rattle.node.specs.declared.kit.Walk.{Walk}
use Rattle.node.specs.Walk.{turn_of, turns_in, Path, Coded, bound_of, place_at}
use Rattle.node.specs.Kit.{Works}
use Rattle.node.proofs.PathLaws.{turns_length}

-- ---- the place

-- each turn in the array is on a clash below 1,024
small_turns : (turns : List ℕ) (depth : ℕ) → Path turns depth → (t : Turn) → Memᴰ t (turns_in turns depth) → t.clash < most_clashes
unfolding turns_in turn_of
small_turns turns depth p = each_item (λ (t : Turn). t.clash < most_clashes) (λ k. turn_of (get_or turns k 0)) depth (λ i h. omega (arith, p.small i h))

-- the record at a place has that place
pub place_back : (b : Batch) (total : ℕ) (turns : List ℕ) (walk : Walk) → Path turns walk.depth → place_of (search_of b total (place_at turns walk)) ≡ place_at turns walk
unfolding place_of search_of place_at
place_back b total turns walk p =
    ap (λ (l : List Turn). record { turns = l; incumbent = record { best = walk.best; starts = walk.starts }; ended = walk.ended }) (turns_path (turns_in turns walk.depth) (small_turns turns walk.depth p))

-- no job of a batch that passes stays longer than 16 ticks
pub passing_stays : (b : Batch) → Passes b → Small (stays_read b) 16
passing_stays b p = stays_small b ((counts_iff b.n b.m).0 p.counts).0.1 (fits b p).short

search_batch : (b : Batch) (total : ℕ) (q : Place) → (search_of b total q).batch ≡ b
unfolding search_of
search_batch b total q = refl

-- the bound of a best within its limits
bounded : (n : ℕ) (best : Best) (starts : List ℕ) → sound_best n best starts ≡ true → bound_of best ≤ 43017
unfolding bound_of sound_best
bounded n None starts e = omega arith
bounded n (Some k) starts e = omega (arith, leb-true k 43016 (both (leb k 43016) _ e).0)

-- an item of a list, mapped
mapped_at : {A B : Type 0} (f : A → B) (xs : List A) (k : ℕ) (d : B) (e : A) → k < length xs → get_or (map f xs) k d ≡ f (get_or xs k e)
mapped_at f [] k d e h = absurd (omega arith)
mapped_at f (x ∷ xs) zero d e h = refl
mapped_at f (x ∷ xs) (suc k) d e h = mapped_at f xs k d e (omega arith)

-- ---- a sound place

module _ (b : Batch) (turns : List ℕ) (walk : Walk) (path : Path turns walk.depth) (is_sound : sound (search_of b 0 (place_at turns walk)) ≡ true) where
  place_passes : Passes b
  place_passes = subst Passes (search_batch b 0 (place_at turns walk)) (record_passes (search_of b 0 (place_at turns walk)) is_sound)

  place_good : Good b (fits b place_passes) (SoundBest b) (sound_new b (fits b place_passes)) (place_at turns walk)
  place_good =
      subst (Good b (fits b place_passes) (SoundBest b) (sound_new b (fits b place_passes))) (place_back b 0 turns walk path)
      (sound_at b place_passes (search_of b 0 (place_at turns walk)) (search_batch b 0 (place_at turns walk)) is_sound).0.good

  place_turns : GoodTurns b (turns_in turns walk.depth)
  unfolding place_at
  place_turns = place_good.turns

  place_tables : Tabled b
  place_tables = tabled b place_passes.counts place_passes.ticks_each place_passes.further

  place_counts : (1 ≤ b.n) × (b.n ≤ 24) × (b.m ≤ 128)
  place_counts = let r = (counts_iff b.n b.m).0 place_passes.counts in (r.0.0, r.0.1, r.1)

  turn_at : (k : ℕ) → k < walk.depth → get_or (turns_in turns walk.depth) k empty ≡ turn_of (get_or turns k 0)
  unfolding turns_in
  turn_at k h = listed_at (λ k. turn_of (get_or turns k 0)) empty walk.depth k h

  -- the clash that turn k is on is listed
  named : (k : ℕ) → k < walk.depth → get_or turns k 0 / 2 < length (clashes b)
  unfolding Named turn_of
  named k h =
      subst (λ (u : Turn). u.clash < length (clashes b)) (turn_at k h)
      (good_named b (turns_in turns walk.depth) place_turns (get_or (turns_in turns walk.depth) k empty)
      (get_d_in (turns_in turns walk.depth) k empty (omega (arith, turns_length turns walk.depth))))

  clash_fits : (k : ℕ) → k < length (clashes b) → ClashFits b.n (get_or (clashes b) k no_clash)
  clash_fits k h =
      let r = ranged_at b k h place_tables in
      let l = clash-listed-at b k h in
      let d = lifted_near r.k r.k_in in
      record {
        i = omega (arith, l.rising, l.known);
        j = l.known;
        low = subst (λ (z : ℤ). negsuc 21 ≤ℤ z) (sym r.distance) d.0;
        high = subst (λ (z : ℤ). z ≤ℤ pos 22) (sym r.distance) d.1;
      }

  -- its code names its jobs
  module _ (list : Clashes) (listed : list ≡ list_of b) where
    place_coded : (k : ℕ) → k < length (clashes b) → NamedCode (get_or list.codes k 0)
    place_coded k h =
        rw (list_code b list listed (fits b place_passes).few k h) (clash_named b.n place_counts.1 (get_or (clashes b) k no_clash) (clash_fits k h))

    pub turns_coded : Coded list.codes turns walk.depth
    turns_coded = record { named = λ k h. place_coded (get_or turns k 0 / 2) (named k h) }

-- ---- the arrays

module _ (b : Batch) (kit : Kit) (t : Trail) (walk : Walk) (w : Works b kit t walk) where
  -- the turns, and how many there are
  abbrev turns : List ℕ
  turns = t.turns

  abbrev depth : ℕ
  depth = walk.depth

  pub passes : Passes b
  passes = place_passes b turns walk w.stands.path w.is_sound

  pub good : Good b (fits b passes) (SoundBest b) (sound_new b (fits b passes)) (place_at turns walk)
  unfolding passes
  good = place_good b turns walk w.stands.path w.is_sound

  pub good_turns : GoodTurns b (turns_in turns depth)
  good_turns = place_turns b turns walk w.stands.path w.is_sound

  pub counts : (1 ≤ b.n) × (b.n ≤ 24) × (b.m ≤ 128)
  counts = place_counts b turns walk w.stands.path w.is_sound

  pub tables : Tabled b
  tables = place_tables b turns walk w.stands.path w.is_sound

  pub few : length (clashes b) ≤ 1024
  few = (fits b passes).few

  pub small_stays : Small kit.stays 16
  small_stays = rw w.each_stays (passing_stays b passes)

  -- best is within its limits, and so is the bound
  pub bound_small : bound_of walk.best ≤ 43017
  unfolding place_at
  bound_small = bounded b.n walk.best walk.starts good.best

  -- ---- delays

  pub held : Holds b.n (delays_of b) (delays_read b)
  held = holds_read b counts.2 passes.jobs_each passes.weight_each

  pub delays_placed : Placed kit.weights kit.delays
  delays_placed =
      let p = held_placed b.n counts.1 (delays_of b) (delays_read b) held in
      rw (w.weights, w.few)
      (heavy_placed (delays_read b) b.m counts.2 (record { from = λ k h. p.from k (omega (arith, delays_length b)); to = λ k h. p.to k (omega (arith, delays_length b)) }))

  pub delays_room : kit.delays ≤ length kit.weights
  delays_room = rw (w.weights, w.few) (omega (arith, heavy_length (delays_read b) b.m, counts.2))

  -- ---- turns

  pub clash_coded : (k : ℕ) → k < length (clashes b) → NamedCode (get_or kit.clashes.codes k 0)
  clash_coded = place_coded b turns walk w.stands.path w.is_sound kit.clashes w.listed

  pub coded_turns : Coded kit.clashes.codes turns depth
  coded_turns = turns_coded b turns walk w.stands.path w.is_sound kit.clashes w.listed

  -- the inequality of turn k, as it is stored
  pub turn_stored : (k : ℕ) → k < depth
      → Fits b.n (turned (clashes b) (turn_of (get_or turns k 0)))
      × (((nth t.steps k).from ≡ (turned (clashes b) (turn_of (get_or turns k 0))).from)
      × (((nth t.steps k).to ≡ (turned (clashes b) (turn_of (get_or turns k 0))).to) × ((nth t.steps k).code ≡ coded (turned (clashes b) (turn_of (get_or turns k 0))).weight)))
  unfolding turned turn_of
  turn_stored k h =
      let s = w.stands.steps in
      let x = get_or turns k 0 in
      let e = list_code b kit.clashes w.listed few (x / 2) (named b turns walk w.stands.path w.is_sound k h) in
      let r = turn_side b.n counts.1 (get_or (clashes b) (x / 2) no_clash) (clash_fits b turns walk w.stands.path w.is_sound (x / 2) (named b turns walk w.stands.path w.is_sound k h)) (x % 2) x (omega arith) refl in
      (r.1.1.1, (ap (λ (q : Inequality). q.from) (s.each k h) ∙ rw e r.0, (ap (λ (q : Inequality). q.to) (s.each k h) ∙ rw e r.1.0, ap (λ (q : Inequality). q.code) (s.each k h) ∙ rw e r.1.1.0)))

  pub turns_held : Holds b.n (map (turned (clashes b)) (turns_in turns depth)) t.steps
  turns_held =
      record {
        from = λ k h. (turn_stored k (in_depth k h)).1.0 ∙ sym (ap (λ (q : Delay). q.from) (at k (in_depth k h)));
        to = λ k h. (turn_stored k (in_depth k h)).1.1.0 ∙ sym (ap (λ (q : Delay). q.to) (at k (in_depth k h)));
        code = λ k h. (turn_stored k (in_depth k h)).1.1.1 ∙ sym (ap (λ (q : Delay). coded q.weight) (at k (in_depth k h)));
        fits = λ k h. subst (Fits b.n) (sym (at k (in_depth k h))) (turn_stored k (in_depth k h)).0;
      }
    where
      in_depth : (k : ℕ) → k < length (map (turned (clashes b)) (turns_in turns depth)) → k < depth
      in_depth k h = omega (arith, length-map (turns_in turns depth) (turned (clashes b)), turns_length turns depth)

      at : (k : ℕ) → k < depth → get_or (map (turned (clashes b)) (turns_in turns depth)) k blank_delay ≡ turned (clashes b) (turn_of (get_or turns k 0))
      at k h = mapped_at (turned (clashes b)) (turns_in turns depth) k blank_delay empty (omega (arith, turns_length turns depth)) ∙ ap (turned (clashes b)) (turn_at b turns walk w.stands.path w.is_sound k h)

  pub turns_room : depth ≤ length t.steps
  turns_room = omega (arith, w.stands.steps.long, w.stands.path.deep)

  pub turns_placed : Placed t.steps depth
  turns_placed =
      subst (Placed t.steps) (length-map (turns_in turns depth) (turned (clashes b)) ∙ turns_length turns depth)
      (held_placed b.n counts.1 (map (turned (clashes b)) (turns_in turns depth)) t.steps turns_held)
