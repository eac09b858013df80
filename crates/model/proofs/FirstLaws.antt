-- Edition 01 after Q-4 and Q-5: a file of it, and every sound record of it, has the ends 0 and 65,535, which no least start passes, and no station rests. So its clashes, its
-- least starts, its shortest plans and whether there is a plan are 01's, as specs/First has them, and a file that does not begin with a header of edition 02 opens, or is refused, as 01 says.
use Rattle.std.specs.Prelude.{if◌then◌else◌}
use Prim.Native.Nat.{ℕ, zero, suc, ◌+◌, ◌*◌, ◌≤◌, ◌<◌, pred}
use mathlib.Core.Path.{◌≡◌, refl, ap, ap₂, sym, ◌∙◌, subst}
use mathlib.Core.Logic.{◌⊎◌, inl, inr, ⊎_elim, ◌↔◌, ◌≢◌}
use mathlib.Core.Bool.{Bool, true, false, not, ◌&&◌, ◌||◌}
use mathlib.Core.Option.{Option, none, some}
use mathlib.Core.List.Memᴰ
use mathlib.Core.List.{List, [], ◌∷◌, ◌++◌, map, append-nil, Memᴰ}
use native.Mathlib.Omega.{arith}
use native.Mathlib.Nat.{le_refl}
use native.Mathlib.Decide.{ℕ_discrete}
use lib.ListN.{length, get_or, replicate, take, length-replicate}
use lib.IntN.{pos}
use lib.Dec.{leb, eqb}
use lib.Seq.{ext_get_or}
use borrow.Author.Tests.{not-false, leb-true, le-leb, eqb-true}
use Rattle.model.specs.declared.Batch.{Batch}
use Rattle.model.specs.declared.Delay.{Delay}
use Rattle.model.specs.declared.Job.{Job}
use Rattle.model.specs.declared.Turn.{Turn}
use Rattle.model.specs.declared.Search.{Search}
use Rattle.model.specs.declared.Window.{Window}
use Rattle.model.specs.Common.{count, all, keep, is_empty, is_some, Outcome, refuse, accept, ◌>>=◌, require}
use Rattle.model.specs.Limits.{most_jobs, stations, most_weight, most_clashes, most_latency, no_latest}
use Rattle.model.specs.Batch.{blank_window, rest_of, window_of, lined, earliest, latest, earliest_starts, latest_starts}
use Rattle.model.specs.Plan.{start, Keeps, KeepsDelays, KeepsEnds, Valid, Shortest, latency}
use Rattle.model.specs.Clash.{clashes}
use Rattle.model.specs.Starts.{rounds, same, in_time, least_starts, Solution}
use Rattle.model.specs.Search.{no_clash, turned, inequalities, starts_at, first_met, visit, next, turns_of, place_of, search_of, fresh_search, node, nodes_on, nodes}
use Rattle.model.specs.Numbered.{place_in}
use Rattle.model.specs.Window.{window_line, window_lines, window_in, windows_of, ends_ok, window_ok}
use Rattle.model.specs.Rest.{rested, rest_line, rest_lines, rest_in, rests_of, WithinRests, rest_ok}
use Rattle.model.specs.Format.{header_line, further_of, no_further, has_none, Edition, Within, batch_of, blanked, BatchFile}
use Rattle.model.specs.Line.{at, frame_is, line}
use Rattle.model.specs.Open.{edition_ok, counts_ok, few_clashes, delays_met, header, job, delay, due, read_one, read_all, read_rest, read_file, open_file}
use Rattle.model.specs.First.{Valid01, Shortest01, first01, least01, node01, nodes_on01, nodes01, few01, met01, header01, read_file01, open_file01, Begins}
use Rattle.model.specs.All.{definitions}
use Rattle.model.specs.Sound.{sound_edition, sound_further, sound}
use Rattle.model.specs.Answers.{plan, no_plan, run_told}
use Rattle.model.specs.Calls.{Call, call, after as after_calls}
use Rattle.model.proofs.BoolLaws.{apart, both, decide, and_true}
use Rattle.model.proofs.ListLaws.{all_each, each_all, each_nil, each_cons, count_some, some_count, some_map, some_keep}
use Rattle.model.proofs.SeqLaws.{get_d_in, blanks_at}
use Rattle.model.proofs.OutcomeLaws.{refused, accept_eq, bind_accepts, require_accepts}
use Rattle.model.proofs.RefusalLaws.{Only, InLines, only_first, only_open}
use Rattle.model.proofs.LineLaws.{IsByte, read_back}
use Rattle.model.proofs.LimitLaws.{edition_iff, counts_iff, le_z_iff}
use Rattle.model.proofs.ReadLaws.{due_line, line_due, one_back}
use Rattle.model.proofs.FrameLaws.{header_framing, frame_iff, at_each, at_byte}
use Rattle.model.proofs.WindowLaws.{window_ok_lem, window_soon}
use Rattle.model.proofs.FinishLaws.{latency_mono, finish_latency}
use Rattle.model.proofs.StartsLaws.{after, rounds_length, least_round, least_below, least_found, same_refl, ends_length, earliest_at, latest_at, inside_ends}
use Rattle.model.proofs.ClashLaws.{Unmet, apart_unmet}
use Rattle.model.proofs.RestedLaws.{NoRests, stations_first, clashes_first}
use Rattle.model.proofs.BackLaws.{numbers}
use Rattle.model.proofs.NodeLaws.{Fits, Named, each, all_inside, unmet_side, met_first, met_new, valid_found}
use Rattle.model.proofs.GoodLaws.{good_named}
use Rattle.model.proofs.BoundLaws.{after_bound, all_slow, latency_bound}
use Rattle.model.proofs.EndLaws.{node_at}
use Rattle.model.proofs.SoundLaws.{Passes, passes_fit, SoundBest, sound_new, SoundAt, sound_at, record_passes}
use Rattle.model.proofs.FileLaws.{read_format, open_read}
use Rattle.model.proofs.OpenLaws.{file_passes, answer_shortest, answer_none}

-- ---- the ends of edition 01

-- job i has no line, and the ends 0 and 65,535
abbrev pub NoEnds : Batch → ℕ → Type 0
NoEnds b i = (lined b i ≡ false) × (earliest b i ≡ 0) × (latest b i ≡ no_latest)

-- in limits, edition 01 has no further lines
first_further : (b : Batch) → Edition b → b.edition ≡ 1 → further_of b ≡ no_further
unfolding Edition
first_further b (inl e) one = e.1
first_further b (inr e) one = let z : ◌≡◌ {A = ℕ} 1 2 = sym one ∙ e in absurd (omega arith)

-- a batch that was read has every place blank, those past n too
pub read_ends01 : (file : List ℕ) (b : Batch) → read_file file ≡ accept b → b.edition ≡ 1 → b.windows ≡ replicate most_jobs blank_window
unfolding no_further blanked batch_of windows_of window_in place_in count
read_ends01 file b e one =
    let (within, text, blank) = (read_format file b).0 e in
    ap (λ (c : Batch). c.windows) blank ∙ ap (λ f. windows_of f.windows) (first_further b within.edition_known one)

-- and no station rests
pub read_rests01 : (file : List ℕ) (b : Batch) → read_file file ≡ accept b → b.edition ≡ 1 → b.rests ≡ replicate stations 0
unfolding no_further blanked batch_of rests_of rest_in place_in count
read_rests01 file b e one =
    let (within, text, blank) = (read_format file b).0 e in
    ap (λ (c : Batch). c.rests) blank ∙ ap (λ f. rests_of f.rests) (first_further b within.edition_known one)

pub blank_rests : (b : Batch) → b.rests ≡ replicate stations 0 → NoRests b
unfolding rest_of
blank_rests b e s h = ap (λ (rs : List ℕ). get_or rs s 0) e ∙ blanks_at stations s 0

-- so every job has the ends 0 and 65,535, and every number past the jobs
pub blank_ends : (b : Batch) → b.windows ≡ replicate most_jobs blank_window → (i : ℕ) → NoEnds b i
unfolding lined earliest latest window_of blank_window
blank_ends b e i =
    let z : window_of b i ≡ blank_window = ap (λ (ws : List Window). get_or ws i blank_window) e ∙ blanks_at most_jobs i blank_window in
    (ap (λ (w : Window). not (eqb w.lined 0)) z, ap (λ (w : Window). w.earliest) z, ap (λ (w : Window). w.latest) z)

-- a batch that opening yields
pub ends01 : (file : List ℕ) (b : Batch) → open_file file ≡ accept b → b.edition ≡ 1 → (b.windows ≡ replicate most_jobs blank_window) × ((i : ℕ) → NoEnds b i)
ends01 file b e one = let z = read_ends01 file b ((open_read file b).0 e).0 one in (z, blank_ends b z)

-- a list of lines that is empty has none
no_line : {A : Type 0} (line : ℕ → A) (f : ℕ → Bool) (n i : ℕ) → is_empty (map line (keep f (count 0 n))) ≡ true → i < n → f i ≡ false
unfolding is_empty
no_line {A} line f n i e h = decide (f i) (λ t. no_item (map line (keep f (count 0 n))) e (line i) (some_map line _ (some_keep f (count 0 n) (some_count 0 n i (omega arith) (omega arith)) t)))
  where
    no_item : (xs : List A) → is_empty xs ≡ true → (x : A) → Memᴰ x xs → ⊥
    no_item [] e x m = Memᴰ.not-nil m
    no_item (y ∷ xs) e x m = apart e

-- and a sound record, of each of its jobs and stations
module _ (b : Batch) (p : Passes b) (one : b.edition ≡ 1) where
  none_of : (is_empty (window_lines b) && is_empty (rest_lines b)) ≡ true
  unfolding sound_edition has_none further_of
  none_of = ap (λ (x : ℕ). eqb x 2 || (eqb x 1 && (is_empty (window_lines b) && is_empty (rest_lines b)))) (sym one) ∙ p.edition

  pub sound_ends01 : (i : ℕ) → i < b.n → NoEnds b i
  unfolding sound_further window_lines window_ok
  sound_ends01 i h = let r = by (lined b i) without (all_each (window_ok b) (count 0 b.n) (both _ (all (rest_ok b) (count 0 stations)) p.further).0 (some_count 0 b.n i (omega arith) (omega arith))) in (without, r.0, r.1)
    where
      without : lined b i ≡ false
      without = no_line (window_line b) (lined b) b.n i (both (is_empty (window_lines b)) _ none_of).0 h

      by : (t : Bool) → t ≡ false → (if t then ends_ok (earliest b i) (latest b i) else eqb (earliest b i) 0 && eqb (latest b i) no_latest) ≡ true → (earliest b i ≡ 0) × (latest b i ≡ no_latest)
      by true z e = apart (sym z)
      by false z e = let r = both (eqb (earliest b i) 0) _ e in (eqb-true (earliest b i) 0 r.0, eqb-true (latest b i) no_latest r.1)

  pub sound_rests01 : NoRests b
  unfolding rest_lines rested
  sound_rests01 s h = eqb-true (rest_of b s) 0 (not-false _ (no_line (rest_line b) (rested b) stations s (both (is_empty (window_lines b)) _ none_of).1 h))

-- ---- least starts, and plans

-- least starts that are in time for other latest starts are the least ones there too
other_latest : (first last last' : List ℕ) (qs : List Delay) (ss : List ℕ) → least_starts first last qs ≡ some ss → in_time last' ss ≡ true → least_starts first last' qs ≡ some ss
unfolding least_starts
other_latest first last last' qs ss e h = let r = least_round first last qs ss e in rw (r.0, r.1, same_refl ss, h)

-- of a batch within the limits whose jobs have no ends and whose stations have no rest
module _ (b : Batch) (fits : Fits b) (no-ends : (i : ℕ) → i < b.n → NoEnds b i) (no-rests : NoRests b) where
  -- rounds begin at 0
  begin_0 : earliest_starts b ≡ first01 b.n
  unfolding first01
  begin_0 =
      ext_get_or 0 (earliest_starts b) (replicate b.n 0) (ends_length b ∙ sym (length-replicate b.n 0))
      (λ j h. let g : j < b.n = omega (arith, ends_length b) in earliest_at b j g ∙ (no-ends j g).1 ∙ sym (blanks_at b.n j 0))

  module _ (ts : List Turn) (named : Named b ts) where
    abbrev qs : List Delay
    qs = inequalities (clashes b) b ts

    -- k rounds raise no start above k thousand
    round_bound : (k j : ℕ) → get_or (rounds qs (first01 b.n) k) j 0 ≤ k * 1000
    unfolding after first01
    round_bound k j = omega (arith, after_bound qs (replicate b.n 0) 0 (λ j. omega (arith, blanks_at {A = ℕ} b.n j 0)) (all_slow b fits ts named) k j)

    in_time_lem : in_time (latest_starts b) (rounds qs (first01 b.n) b.n) ≡ true
    unfolding in_time first01
    in_time_lem =
        let ss = rounds qs (first01 b.n) b.n in
        each_all (λ j. leb (get_or ss j 0) (get_or (latest_starts b) j 0)) (count 0 (length ss))
        (λ j m.
        let h : j < b.n = omega (arith, (count_some 0 (length ss) j m).1, rounds_length qs (first01 b.n) b.n, length-replicate {A = ℕ} b.n 0) in
        le-leb (get_or ss j 0) (get_or (latest_starts b) j 0) (omega (arith, round_bound b.n j, latest_at b j h, (no-ends j h).2, fits.jobs)))

    -- a node's least starts are 01's
    pub plain_starts : starts_at (clashes b) b ts ≡ least01 b.n qs
    unfolding starts_at least_starts least01
    plain_starts =
        ap₂ (λ (first : List ℕ) (n : ℕ). if same (rounds qs first n) (rounds qs first (pred n)) && in_time (latest_starts b) (rounds qs first n) then some (rounds qs first n) else none) begin_0 (ends_length b)
        ∙ rw (in_time_lem, and_true)

    -- no least start passes 23,000
    pub plain_bound : (ss : List ℕ) → least01 b.n qs ≡ some ss → (j : ℕ) → start ss j ≤ 23000
    unfolding start starts_at
    plain_bound ss e j =
        let z = (least_round (earliest_starts b) (latest_starts b) qs ss (plain_starts ∙ e)).1 in
        omega (
          arith,
          round_bound (pred b.n) j,
          ap (λ (l : List ℕ). get_or l j 0) (ap₂ (λ (first : List ℕ) (n : ℕ). rounds qs first (pred n)) (sym begin_0) (sym (ends_length b)) ∙ z),
          fits.jobs,
        )

  -- a plan of 01, which may start as late as it likes
  module _ (us : List ℕ) (v : Valid01 b us) where
    -- it keeps a side of every clash
    side : (k : ℕ) → k < length (clashes b) → (s : ℕ) × Keeps us (turned (clashes b) (record { clash = k; side = s }))
    unfolding turned Unmet
    side k h =
        let c = get_or (clashes b) k no_clash in
        ⊎_elim (λ g. (0, g)) (λ g. (1, g)) (unmet_side us c (apart_unmet b us ((stations_first b no-rests us).1 v.stations) c (get_d_in (clashes b) k no_clash h)))

    -- turns that it keeps, on each of the first k clashes
    record Sides (k : ℕ) : Type 0 where
      turns : List Turn
      named : Named b turns
      kept : (t : Turn) → Memᴰ t turns → Keeps us (turned (clashes b) t)
      every : (j : ℕ) → j < k → Memᴰ j (numbers turns)

    sides : (k : ℕ) → k ≤ length (clashes b) → Sides k
    unfolding Named numbers
    sides zero h =
        record {
          turns = [];
          named = each_nil (λ (t : Turn). t.clash < length (clashes b));
          kept = each_nil (λ (t : Turn). Keeps us (turned (clashes b) t));
          every = λ j g. absurd (omega arith);
        }
    sides (suc k) h =
        let r = sides k (omega arith) in
        let s = side k (omega arith) in
        let t : Turn = record { clash = k; side = s.0 } in
        record {
          turns = t ∷ r.turns;
          named = each_cons (λ (t : Turn). t.clash < length (clashes b)) (omega arith) r.named;
          kept = each_cons (λ (t : Turn). Keeps us (turned (clashes b) t)) s.1 r.kept;
          every = λ j g. by j g (ℕ_discrete j k) r.every;
        }
      where
        by : {xs : List ℕ} (j : ℕ) → j < suc k → Dec (j ≡ k) → ((j : ℕ) → j < k → Memᴰ j xs) → Memᴰ j (k ∷ xs)
        by j g (yes e) rec = Memᴰ.head e
        by j g (no e) rec = Memᴰ.tail (rec j (omega arith))

    abbrev whole : Sides (length (clashes b))
    whole = sides (length (clashes b)) (omega arith)

    abbrev ts : List Turn
    ts = whole.turns

    abbrev rs : List Delay
    rs = inequalities (clashes b) b ts

    -- it keeps them all, and is in time for itself
    keeps_all : Solution (earliest_starts b) us rs us
    unfolding KeepsDelays start
    keeps_all =
        record {
          keeps = each b fits (Keeps us) ts v.delays whole.kept;
          above = λ j h. let g : j < b.n = omega (arith, ends_length b) in omega (arith, earliest_at b j g, (no-ends j g).1);
          below = λ j h. le_refl (get_or us j 0);
        }

    abbrev ss : List ℕ
    ss = rounds rs (earliest_starts b) (length (earliest_starts b))

    for_us : least_starts (earliest_starts b) us rs ≡ some ss
    for_us = least_found (earliest_starts b) us rs (inside_ends b rs (all_inside b fits ts whole.named)) us keeps_all

    at_node : starts_at (clashes b) b ts ≡ some ss
    unfolding starts_at
    at_node =
        other_latest (earliest_starts b) us (latest_starts b) rs ss for_us
        (ap₂ (λ (first : List ℕ) (n : ℕ). in_time (latest_starts b) (rounds rs first n)) begin_0 (ends_length b) ∙ in_time_lem ts whole.named)

    unmet : (o : Option ℕ) → first_met (clashes b) ss 0 ≡ o → o ≡ none
    unmet none e = refl
    unmet (some k) e = absurd (met_new b fits ts whole.named ss at_node k e (whole.every k (omega (arith, (met_first (clashes b) ss 0 k e).1))))

    -- so there is a valid plan that starts no job later and keeps 02's limit on latency
    pub tight : (ts : List ℕ) × Valid b ts × ((j : ℕ) → start ts j ≤ start us j) × (latency b ts ≤ most_latency)
    tight = (
      ss,
      valid_found b fits ts whole.named ss at_node (unmet (first_met (clashes b) ss 0) refl),
      least_below (earliest_starts b) us rs ss for_us us keeps_all,
      latency_bound b fits ts whole.named ss at_node,
    )

  -- ---- valid is 01's valid with starts of two bytes

  pub plain_valid : (ts : List ℕ) → Valid b ts ↔ (Valid01 b ts × ((i : ℕ) → i < b.n → start ts i ≤ no_latest))
  unfolding KeepsEnds
  plain_valid ts = (
    λ v. (record { starts = v.starts; delays = v.delays; stations = (stations_first b no-rests ts).0 v.stations }, λ i h. omega (arith, (v.ends i h).1, (no-ends i h).2)),
    λ (v, low).
        record { starts = v.starts; delays = v.delays; stations = (stations_first b no-rests ts).1 v.stations; ends = λ i h. (omega (arith, (no-ends i h).1), omega (arith, low i h, (no-ends i h).2)) },
  )

  -- shortest is 01's shortest
  pub plain_shortest : (ts : List ℕ) → Shortest b ts ↔ Shortest01 b ts
  plain_shortest ts = (
    λ s.
        record {
          valid = ((plain_valid ts).0 s.valid).0;
          least = λ us v. let (ss, w, below, low) = tight us v in omega (arith, s.least ss w, latency_mono b ss us below);
        },
    λ s.
        let (ss, w, below, low) = tight ts s.valid in
        let short = s.least ss ((plain_valid ss).0 w).0 in
        record {
          valid = (plain_valid ts).1 (s.valid, λ i h. omega (arith, finish_latency b ts i h));
          least = λ us v. s.least us ((plain_valid us).0 v).0;
        },
  )

  -- and there is a valid plan exactly when 01 has one
  pub plain_none : ((ts : List ℕ) → ¬ Valid b ts) ↔ ((ts : List ℕ) → ¬ Valid01 b ts)
  plain_none = (λ h us v. let (ss, w, below, low) = tight us v in h ss w, λ h ts v. h ts ((plain_valid ts).0 v).0)

-- ---- of every sound record of edition 01: each step of the search, and what it is a search for

module _ (b : Batch) (passes : Passes b) (one : b.edition ≡ 1) where
  pub starts01 : (ts : List Turn) → Named b ts → starts_at (clashes b) b ts ≡ least01 b.n (inequalities (clashes b) b ts)
  starts01 = plain_starts b (passes_fit b passes) (sound_ends01 b passes one) (sound_rests01 b passes one)

  -- so each node is 01's, and so are the records that any number of nodes reach
  node_first : (s : Search) → SoundAt b passes s → node (clashes b) s ≡ node01 (clashes b) s
  unfolding node node01 next place_of
  node_first s a =
      ap (λ (o : Option (List ℕ)). search_of s.batch (s.total + 1) (visit (clashes b) s.batch (place_of s) o))
      (subst (λ (c : Batch). starts_at (clashes b) c (turns_of s.path) ≡ least01 c.n (inequalities (clashes b) c (turns_of s.path))) (sym a.batch)
      (starts01 (turns_of s.path) (good_named b (turns_of s.path) a.good.turns)))

  nodes_first : (k : ℕ) (s : Search) → SoundAt b passes s → nodes_on (clashes b) k s ≡ nodes_on01 (clashes b) k s
  unfolding nodes_on nodes_on01
  nodes_first zero s a = refl
  nodes_first (suc k) s a =
      go s.ended
      (nodes_first k (node (clashes b) s) (node_at b (passes_fit b passes) (SoundBest b) (sound_new b (passes_fit b passes)) s a) ∙ ap (nodes_on01 (clashes b) k) (node_first s a))
    where
      go : (t : Bool) → nodes_on (clashes b) k (node (clashes b) s) ≡ nodes_on01 (clashes b) k (node01 (clashes b) s)
          → ◌≡◌ {A = Search} (elim t [ true ↦ s | false ↦ nodes_on (clashes b) k (node (clashes b) s) ]) (elim t [ true ↦ s | false ↦ nodes_on01 (clashes b) k (node01 (clashes b) s) ])
      go true rec = refl
      go false rec = rec

  -- the latest start never matters: no least start passes 23,000
  pub bound01 : (ts : List Turn) → Named b ts → (ss : List ℕ) → starts_at (clashes b) b ts ≡ some ss → (j : ℕ) → start ss j ≤ 23000
  bound01 ts named ss e = plain_bound b (passes_fit b passes) (sound_ends01 b passes one) (sound_rests01 b passes one) ts named ss (sym (starts01 ts named) ∙ e)

  pub valid01 : (ts : List ℕ) → Valid b ts ↔ (Valid01 b ts × ((i : ℕ) → i < b.n → start ts i ≤ no_latest))
  valid01 = plain_valid b (passes_fit b passes) (sound_ends01 b passes one) (sound_rests01 b passes one)

  pub shortest01 : (ts : List ℕ) → Shortest b ts ↔ Shortest01 b ts
  shortest01 = plain_shortest b (passes_fit b passes) (sound_ends01 b passes one) (sound_rests01 b passes one)

  pub none01 : ((ts : List ℕ) → ¬ Valid b ts) ↔ ((ts : List ℕ) → ¬ Valid01 b ts)
  none01 = plain_none b (passes_fit b passes) (sound_ends01 b passes one) (sound_rests01 b passes one)

-- a search of edition 01 is 01's search, from any sound record on
pub search01 : (s : Search) → sound s ≡ true → s.batch.edition ≡ 1 → (k : ℕ) → nodes k s ≡ nodes01 k s
unfolding nodes nodes01
search01 s e one k =
    let p = record_passes s e in
    nodes_first s.batch p one k s (sound_at s.batch p s refl e).0
    ∙ ap (λ cs. nodes_on01 cs k s) (clashes_first s.batch (sound_rests01 s.batch p one) (passes_fit s.batch p).short)

-- ---- opening

-- steps that go on alike
bind_same : {A B : Type 0} (m : Outcome A) (f g : A → Outcome B) → ((a : A) → m ≡ accept a → f a ≡ g a) → (m >>= f) ≡ (m >>= g)
unfolding ◌>>=◌
bind_same (refuse k) f g h = refl
bind_same (accept a) f g h = h a refl

-- a first line of kind A0, four bytes and edition 02 is a header of it
line_02 : (file f rest : List ℕ) → due file ≡ accept (f, rest) → frame_is 0xA0 4 f ≡ true → at f 1 ≡ 2 → Begins 2 file
unfolding Begins header_line count
line_02 file f rest here h e =
    let l = read_back file f rest (due_line file (f, rest) here) in
    let k = (frame_iff 0xA0 4 f).0 h in
    let z : 0xA0 ∷ 2 ∷ at f 2 ∷ at f 3 ∷ [] ≡ f = ap₂ (λ (x y : ℕ). x ∷ y ∷ at f 2 ∷ at f 3 ∷ []) (sym k.0) (sym e) ∙ at_each f 4 k.1 in
    (at f 2, at f 3, rest, at_byte f 2 l.1, at_byte f 3 l.1, sym (ap (λ (x : List ℕ). line x ++ rest) z ∙ l.0))

tested : (n m : ℕ) → (frame_is 0xA0 4 (0xA0 ∷ 2 ∷ n ∷ m ∷ []) && eqb (at (0xA0 ∷ 2 ∷ n ∷ m ∷ []) 1) 2) ≡ true
unfolding frame_is at
tested n m = refl

-- after the delays of edition 01
rest_first : (jobs : List Job) (delays : List Delay) (end : List ℕ) (n : ℕ) → (read_rest 1 n end >>= λ further. accept (batch_of 1 jobs delays further)) ≡ (require 8 (is_empty end) >>= λ u. accept (batch_of 1 jobs delays no_further))
unfolding read_rest require is_empty ◌>>=◌
rest_first jobs delays [] n = refl
rest_first jobs delays (c ∷ cs) n = refl

-- a file that does not begin with a header of edition 02
module _ (file : List ℕ) (other : ¬ Begins 2 file) where
  abbrev with_1 : ℕ × ℕ → Outcome (ℕ × ℕ × ℕ)
  with_1 c = accept (1, c.0, c.1)

  module _ (f rest : List ℕ) (here : due file ≡ accept (f, rest)) where
    -- its first line is read, or refused, as 01 reads it
    header_first : header f ≡ (header01 f >>= with_1)
    unfolding header header01 ◌>>=◌ require edition_ok
    header_first = frame (frame_is 0xA0 4 f) refl (eqb (at f 1) 1) refl (counts_ok (at f 2) (at f 3)) refl
      where
        frame : (t : Bool) → frame_is 0xA0 4 f ≡ t → (u : Bool) → eqb (at f 1) 1 ≡ u → (v : Bool) → counts_ok (at f 2) (at f 3) ≡ v → header f ≡ (header01 f >>= with_1)
        frame false e u g v h = rw e
        frame true e true g true h = rw (e, g, h) (ap (λ (x : ℕ). accept (x, at f 2, at f 3)) (eqb-true (at f 1) 1 g))
        frame true e true g false h = rw (e, g, h)
        frame true e false g v h = rw (e, g, decide (eqb (at f 1) 2) (λ z. other (line_02 file f rest here e (eqb-true (at f 1) 2 z))))

    body_first : (o : Outcome (ℕ × ℕ)) → header01 f ≡ o → read_file file ≡ read_file01 file
    unfolding read_file read_file01 read_one ◌>>=◌
    body_first (refuse k) e = rw (here, header_first, e)
    body_first (accept (n, m)) e =
        rw (here, header_first, e)
        (bind_same (read_all job n rest) _ _ (λ (jobs, after_jobs) _. bind_same (read_all (delay n) m after_jobs) _ _ (λ (delays, end) _. rest_first jobs delays end n)))

  pub read_first : read_file file ≡ read_file01 file
  unfolding read_file read_file01 read_one ◌>>=◌
  read_first = by (due file) refl
    where
      by : (o : Outcome (List ℕ × List ℕ)) → due file ≡ o → read_file file ≡ read_file01 file
      by (refuse k) e = rw e
      by (accept (f, rest)) e = body_first f rest e (header01 f) refl

-- what 01 reads is of edition 01
first_edition : (file : List ℕ) (b : Batch) → read_file01 file ≡ accept b → b.edition ≡ 1
unfolding read_file01 batch_of
first_edition file b e =
    let r = bind_accepts (read_one header01 file) _ b e in
    let s = bind_accepts (read_all job r.0.0.0 r.0.1) _ b r.2 in
    let t = bind_accepts (read_all (delay r.0.0.0) r.0.0.1 s.0.1) _ b s.2 in
    ap (λ (c : Batch). c.edition) (sym (accept_eq (require_accepts 8 _ _ b t.2).1))

within_fits : (b : Batch) → Within b → few_clashes b ≡ true → Fits b
unfolding few_clashes WithinRests
within_fits b w few =
    record {
      jobs = w.jobs.1;
      short = λ i h. (w.ticks_each i h).1;
      inside = λ q m. let e = w.jobs_each q m in (e.0, e.1);
      slow = λ q m. (le_z_iff q.weight (pos most_weight)).1 (w.weight_each q m).1;
      soon = λ i h. window_soon b i (window_ok_lem b w.windows i h);
      rests = w.rests;
      few = leb-true (length (clashes b)) most_clashes few;
    }

-- 9 is 01's: so many clashes
few_first01 : (file : List ℕ) (b : Batch) → read_file file ≡ accept b → b.edition ≡ 1 → few_clashes b ≡ few01 b
unfolding few_clashes few01
few_first01 file b e one =
    let within = ((read_format file b).0 e).0 in
    ap (λ cs. leb (length cs) most_clashes) (clashes_first b (blank_rests b (read_rests01 file b e one)) (λ i h. (within.ticks_each i h).1))

-- 10 is 01's: the delays can be met
met_first01 : (file : List ℕ) (b : Batch) → read_file file ≡ accept b → b.edition ≡ 1 → few_clashes b ≡ true → delays_met b ≡ met01 b
unfolding delays_met met01 starts_at inequalities Named
met_first01 file b e one few =
    let within = ((read_format file b).0 e).0 in
    let no-ends : (i : ℕ) → i < b.n → NoEnds b i = λ i h. blank_ends b (read_ends01 file b e one) i in
    rw append-nil at (ap is_some (plain_starts b (within_fits b within few) no-ends (blank_rests b (read_rests01 file b e one)) [] (each_nil (λ (t : Turn). t.clash < length (clashes b)))))

-- the rest opens, or is refused, as 01 says
pub open_first : (file : List ℕ) → ¬ Begins 2 file → open_file file ≡ open_file01 file
unfolding open_file open_file01 require ◌>>=◌
open_first file other =
    ap (λ (o : Outcome Batch). o >>= λ b. require 9 (few_clashes b) >>= λ u. require 10 (delays_met b) >>= λ v. accept b) (read_first file other)
    ∙ bind_same (read_file01 file) _ _ (λ b e. by b (read_first file other ∙ e) (first_edition file b e) (few_clashes b) refl)
  where
    by : (b : Batch) → read_file file ≡ accept b → b.edition ≡ 1 → (t : Bool) → few_clashes b ≡ t
        → (require 9 (few_clashes b) >>= λ u. require 10 (delays_met b) >>= λ v. accept b) ≡ (require 9 (few01 b) >>= λ u. require 10 (met01 b) >>= λ v. accept b)
    by b e one true h = rw (sym (few_first01 file b e one), met_first01 file b e one h)
    by b e one false h = rw (sym (few_first01 file b e one), h)

-- ---- a file that begins with a header of some edition

module _ (file : List ℕ) (edition n m : ℕ) (rest : List ℕ) (byte : edition < 256) (small : n < 256) (small' : m < 256) (e : file ≡ header_line edition n m ++ rest) where
  -- its first line
  first_line : due file ≡ accept (0xA0 ∷ edition ∷ n ∷ m ∷ [], rest)
  unfolding header_line
  first_line =
      ap due e
      ∙ line_due 0xA0 (edition ∷ n ∷ m ∷ []) rest (each_cons IsByte (omega arith) (each_cons IsByte byte (each_cons IsByte small (each_cons IsByte small' (each_nil IsByte)))))

  -- 3 where it is neither 01 nor 02
  refused_3 : edition_ok edition ≡ false → open_file file ≡ refuse 3
  unfolding open_file read_file read_one header frame_is at require ◌>>=◌
  refused_3 h = rw (first_line, h)

  -- 01 refuses all but its own with 3
  first_3 : eqb edition 1 ≡ false → open_file01 file ≡ refuse 3
  unfolding open_file01 read_file01 read_one header01 frame_is at require ◌>>=◌
  first_3 h = rw (first_line, h)

  -- and 3 is for no file that begins with 01 or 02
  abbrev Not3 : ℕ → Type 0
  Not3 k = k ≡ 3 → ⊥

  not_3 : InLines Not3
  not_3 = record { n1 = λ z. omega arith; n2 = λ z. omega arith; n4 = λ z. omega arith; n5 = λ z. omega arith; n6 = λ z. omega arith; n7 = λ z. omega arith }

  header_known : edition_ok edition ≡ true → Only Not3 (read_one header file)
  unfolding read_one header frame_is at require ◌>>=◌
  header_known h = rw (first_line, h) (by (counts_ok n m))
    where
      by : (t : Bool) → Only {A = (ℕ × ℕ × ℕ) × List ℕ} Not3 ((require 4 t >>= λ u. accept (edition, n, m)) >>= λ (x : ℕ × ℕ × ℕ). accept (x, rest))
      by true = record { number = λ k z. refused (sym z) }
      by false = record { number = λ k z. let w : ◌≡◌ {A = ℕ} 4 k = cc in λ y. omega arith }

  passed_3 : edition_ok edition ≡ true → open_file file ≡ refuse 3 → ⊥
  passed_3 h z =
      (only_open not_3 file (λ y. omega arith) (λ y. omega arith) (header_known h) (λ edition n m rest h. (λ one y. omega arith, λ two. record { n20 = λ y. omega arith; n21 = λ y. omega arith }))).number 3 z refl

-- refusal 3 means neither edition
pub open_3 : (file : List ℕ) (edition : ℕ) → edition < 256 → Begins edition file → (open_file file ≡ refuse 3) ↔ ((edition ≢ 1) × (edition ≢ 2))
unfolding Begins
open_3 file edition byte (n, m, rest, small, small', e) = (
  λ z. (λ one. passed (inl one) z, λ two. passed (inr two) z),
  λ (one, two). refused_3 file edition n m rest byte small small' e (decide (edition_ok edition) (λ h. ⊎_elim one two ((edition_iff edition).0 h))),
)
  where
    passed : (edition ≡ 1) ⊎ (edition ≡ 2) → open_file file ≡ refuse 3 → ⊥
    passed h z = passed_3 file edition n m rest byte small small' e ((edition_iff edition).1 h) z

-- 01 refuses a file that begins with 02 with 3
pub open_second : (file : List ℕ) → Begins 2 file → (open_file01 file ≡ refuse 3) × (open_file file ≡ refuse 3 → ⊥)
unfolding Begins
open_second file (n, m, rest, small, small', e) =
    (first_3 file 2 n m rest (omega arith) small small' e refl, passed_3 file 2 n m rest (omega arith) small small' e ((edition_iff 2).1 (inr refl)))

-- every file is of one sort or the other
pub begins_02 : (file : List ℕ) → Dec (Begins 2 file)
unfolding Begins
begins_02 file = by (due file) refl
  where
    line_at : (f rest : List ℕ) → due file ≡ accept (f, rest) → (t : Bool) → (frame_is 0xA0 4 f && eqb (at f 1) 2) ≡ t → Dec (Begins 2 file)
    line_at f rest e true h = let r = both (frame_is 0xA0 4 f) _ h in yes (line_02 file f rest e r.0 (eqb-true (at f 1) 2 r.1))
    line_at f rest e false h =
        no (λ (n, m, rest', small, small', z).
        let same_line : ◌≡◌ {A = List ℕ × List ℕ} (f, rest) (0xA0 ∷ 2 ∷ n ∷ m ∷ [], rest') = accept_eq (sym e ∙ first_line file 2 n m rest' (omega arith) small small' z) in
        apart (sym h ∙ ap (λ (p : List ℕ × List ℕ). frame_is 0xA0 4 p.0 && eqb (at p.0 1) 2) same_line ∙ tested n m))

    by : (o : Outcome (List ℕ × List ℕ)) → due file ≡ o → Dec (Begins 2 file)
    by (refuse k) e = no (λ (n, m, rest, small, small', z). refused (sym e ∙ first_line file 2 n m rest (omega arith) small small' z))
    by (accept (f, rest)) e = line_at f rest e (frame_is 0xA0 4 f && eqb (at f 1) 2) refl

-- so opening is 01's exactly for files that do not begin with a header of edition 02. Where it begins with one, 01 says 3, which 02 never does
pub open01 : (file : List ℕ) → ((¬ Begins 2 file) × (open_file file ≡ open_file01 file)) ⊎ (Begins 2 file × (open_file01 file ≡ refuse 3) × (open_file file ≡ refuse 3 → ⊥))
open01 file = by (begins_02 file)
  where
    by : Dec (Begins 2 file) → ((¬ Begins 2 file) × (open_file file ≡ open_file01 file)) ⊎ (Begins 2 file × (open_file01 file ≡ refuse 3) × (open_file file ≡ refuse 3 → ⊥))
    by (yes h) = let r = open_second file h in inr (h, r.0, r.1)
    by (no h) = inl (h, open_first file h)

-- with counts out of limits too: edition 02 without a job is 4 today and 3 in 01, which asks the edition first
pub counts_02 : (open_file (header_line 2 0 0) ≡ refuse 4) × (open_file01 (header_line 2 0 0) ≡ refuse 3)
unfolding definitions
counts_02 = (refl, refl)

-- ---- 8 is for edition 01 only, and 20 and 21 for 02

-- a header that is read stands at the beginning of the file
header_begins : (file : List ℕ) (edition n m : ℕ) (rest : List ℕ) → read_one header file ≡ accept ((edition, n, m), rest) → Begins edition file × ((edition ≡ 1) ⊎ (edition ≡ 2))
unfolding Begins header_line
header_begins file edition n m rest e =
    let r = one_back _ _ _ _ _ header_framing file (edition, n, m) rest e in
    let c = (counts_iff n m).0 r.1.1 in
    ((n, m, rest, omega (arith, c.0.1), omega (arith, c.1), sym r.0), (edition_iff edition).0 r.1.0)

module _ (file : List ℕ) where
  abbrev ByEdition : ℕ → Type 0
  ByEdition k = (k ≡ 8 → Begins 1 file) × ((k ≡ 20) ⊎ (k ≡ 21) → Begins 2 file)

  -- a number that is neither
  other : (k : ℕ) → ¬ (k ≡ 8) → ¬ (k ≡ 20) → ¬ (k ≡ 21) → ByEdition k
  other k n8 n20 n21 = (λ z. absurd (n8 z), λ z. absurd (⊎_elim n20 n21 z))

  in_both : InLines ByEdition
  in_both =
      record {
        n1 = other 1 (λ z. omega arith) (λ z. omega arith) (λ z. omega arith);
        n2 = other 2 (λ z. omega arith) (λ z. omega arith) (λ z. omega arith);
        n4 = other 4 (λ z. omega arith) (λ z. omega arith) (λ z. omega arith);
        n5 = other 5 (λ z. omega arith) (λ z. omega arith) (λ z. omega arith);
        n6 = other 6 (λ z. omega arith) (λ z. omega arith) (λ z. omega arith);
        n7 = other 7 (λ z. omega arith) (λ z. omega arith) (λ z. omega arith);
      }

  by_edition : Only ByEdition (open_file file)
  by_edition =
      only_open in_both file (other 9 (λ z. omega arith) (λ z. omega arith) (λ z. omega arith)) (other 10 (λ z. omega arith) (λ z. omega arith) (λ z. omega arith))
      (only_first in_both (other 3 (λ z. omega arith) (λ z. omega arith) (λ z. omega arith)) file) (λ edition n m rest e.
      let h = header_begins file edition n m rest e in (
        λ one. (λ z. subst (λ (x : ℕ). Begins x file) one h.0, λ z. absurd (⊎_elim (λ (y : 8 ≡ 20). omega arith) (λ (y : 8 ≡ 21). omega arith) z)),
        λ two. record { n20 = (λ z. absurd (omega arith), λ z. second edition two h); n21 = (λ z. absurd (omega arith), λ z. second edition two h) },
      ))
    where
      second : (edition : ℕ) → ¬ (edition ≡ 1) → Begins edition file × ((edition ≡ 1) ⊎ (edition ≡ 2)) → Begins 2 file
      second edition two (h, inl e) = absurd (two e)
      second edition two (h, inr e) = subst (λ (x : ℕ). Begins x file) e h

  pub refused_8 : open_file file ≡ refuse 8 → Begins 1 file
  refused_8 e = (by_edition.number 8 e).0 refl

  pub refused_20 : open_file file ≡ refuse 20 → Begins 2 file
  refused_20 e = (by_edition.number 20 e).1 (inl refl)

  pub refused_21 : open_file file ≡ refuse 21 → Begins 2 file
  refused_21 e = (by_edition.number 21 e).1 (inr refl)

-- ---- what a search of a file of edition 01 answers, after every list of runs: 01's shortest plan, or that 01 has none

module _ (file : List ℕ) (b : Batch) (f : BatchFile file b) (one : b.edition ≡ 1) where
  pub plan01 : (cs : List Call) (c : Call) (l t : ℕ) → let x = call (after_calls (fresh_search b) cs) c in run_told x.0.answer ≡ accept (plan l t)
      → Shortest01 b (take b.n x.1) × (latency b (take b.n x.1) ≡ l)
  plan01 cs c l t e = let r = answer_shortest file b f cs c l t e in ((shortest01 b (file_passes file b f) one _).0 r.0, r.1)

  pub no_plan01 : (cs : List Call) (c : Call) (t : ℕ) → run_told (call (after_calls (fresh_search b) cs) c).0.answer ≡ accept (no_plan t) → (ts : List ℕ) → ¬ Valid01 b ts
  no_plan01 cs c t e = (none01 b (file_passes file b f) one).0 (answer_none file b f cs c t e)
