-- What a caller wants to know: where the lists hold a batch's delays and a path's turns, they meet what `least_starts` asks, its table is the
-- definition's table, after every round its starts and their latency are the definition's, and its answer tells of the definition's least starts.
use mathlib.Core.Path.{◌≡◌, sym, ◌∙◌, ap, subst}
use mathlib.Core.Logic.{◌⊎◌, inl, inr}
use mathlib.Core.Bool.{Bool, true, false, ◌&&◌}
use mathlib.Core.Option.{Option, none, some}
use mathlib.Core.List.{List, [], map}
use Prim.Native.Nat.{ℕ, suc, ◌+◌, ◌*◌, ◌/◌, ◌≤◌, ◌<◌, pred}
use native.Mathlib.Omega.{arith}
use lib.ListN.{length, get_or, length-map, get_or-map}
use lib.Seq.{ext_get_or}
use lib.IntN.{ℤ}
use Rattle.model.specs.declared.Delay.{Delay}
use Rattle.model.specs.declared.Batch.{Batch}
use Rattle.model.specs.declared.Turn.{Turn}
use Rattle.model.specs.Common.{count, pad}
use Rattle.model.specs.Batch.{delays_of, earliest_starts, latest_starts}
use Rattle.model.specs.Plan.{latency}
use Rattle.model.specs.Clash.{Clash}
use Rattle.model.specs.Starts.{entry, table, rounds, in_time, least_starts}
use Rattle.model.specs.Search.{turned, inequalities}
use Rattle.model.proofs.BoolLaws.{apart, both}
use Rattle.model.proofs.SeqLaws.{listed_at, listed_length, get_d_same}
use Rattle.model.proofs.StartsLaws.{Inside, rounds_length, ends_length, inside_ends}
use Rattle.model.proofs.UnderLaws.{Below, under_rounds, round_more, settled_least, late_none, changed_none}
use Rattle.times.specs.Stays.{stays_read}
use Rattle.times.specs.Latency.{latency_of}
use Rattle.times.specs.Ends.{latest_read, none_late}
use Rattle.times.proofs.EndsLaws.{time_is}
use Rattle.times.proofs.LatencyLaws.{latency_padded}
use Rattle.weights.specs.declared.Inequality.{Inequality}
use Rattle.weights.specs.Code.{place_code}
use Rattle.weights.specs.Holds.{Holds}
use Rattle.rounds.specs.Rounds.{Reached, rounds_of, timely}
use Rattle.starts.proofs.PlaceLaws.{code_is, Tabled}
use Rattle.starts.proofs.HeldLaws.{held_tabled, heavy_tabled}
use Rattle.starts.proofs.PathTable.{path_table}
use Rattle.starts.proofs.FromLaws.{Changed, Ending, settled, stopped, used, Came, rounds_came}

-- ---- the table

-- the table that `least_starts` fills is the definition's, place by place
pub table_is : (n : ℕ) (t : List (List ℕ)) (qs : List Delay) → Tabled n t qs → t ≡ map (map place_code) (table qs)
unfolding table
table_is n t qs h =
    ext_get_or [] t (map (map place_code) (table qs)) (h.rows ∙ sym (length-map (table qs) (map place_code) ∙ listed_length line 24))
    (λ i p. row i (omega (arith, h.rows)))
  where
    -- row i of the definition's table
    line : ℕ → List (Option ℤ)
    line i = map (λ j. entry qs i j) (count 0 24)

    long : (i : ℕ) → length (map place_code (line i)) ≡ 24
    long i = length-map (line i) place_code ∙ listed_length (λ j. entry qs i j) 24

    row : (i : ℕ) → i < 24 → get_or t i [] ≡ get_or (map (map place_code) (table qs)) i []
    row i p =
        ext_get_or 0 (get_or t i []) (map place_code (line i)) (h.wide i p ∙ sym (long i))
        (λ j q.
        h.place i j p (omega (arith, h.wide i p)) ∙ code_is n qs h.fits i j
        ∙ sym (get_d_same (map place_code (line i)) j 0 (place_code none) (omega (arith, h.wide i p, long i)) ∙ get_or-map place_code (line i) j none ∙ ap place_code (listed_at (λ j. entry qs i j) none 24 j (omega (arith, h.wide i p)))))
        ∙ sym (get_or-map (map place_code) (table qs) i [] ∙ ap (map place_code) (listed_at line [] 24 i p))

-- it holds the path's inequalities
pub path_tabled : (b : Batch) (cs : List Clash) (ts : List Turn) (m depth : ℕ) (w steps : List Inequality) → b.n ≤ 24 → m ≤ 128 → m ≡ length (delays_of b) → depth ≡ length ts
    → Holds b.n (delays_of b) w → Holds b.n (map (turned cs) ts) steps
    → Tabled b.n (path_table m w steps depth) (inequalities cs b ts)
unfolding inequalities
path_tabled b cs ts m depth w steps few most e d hd ht =
    rw (e, d ∙ sym (length-map ts (turned cs)))
    (held_tabled b.n few (map (turned cs) ts) steps ht _ (delays_of b) (heavy_tabled b.n few (delays_of b) w hd (omega arith)))

-- ---- the rounds of the code, over any table that holds a list of inequalities

-- fours of rows that have n rows and no more than 24
fours_low : (n : ℕ) → n ≤ 4 * ((n + 3) / 4)
fours_low n = omega arith

pub fours_high : (n : ℕ) → n ≤ 24 → 4 * ((n + 3) / 4) ≤ 24
fours_high n h = omega arith

table_inside : (n : ℕ) (t : List (List ℕ)) (qs : List Delay) → Tabled n t qs → Inside n qs
unfolding Inside
table_inside n t qs h q m = ((h.fits q m).from, (h.fits q m).to)

module _ (b : Batch) (few : b.n ≤ 24) (t : List (List ℕ)) (qs : List Delay) (h : Tabled b.n t qs) (base stays : List ℕ) (len : length base ≡ b.n) (bound : ℕ) (limit : bound ≤ 43017) (latency : ℕ) (l : latency ≡ latency_of stays (pad 24 0 base) 24) (low : latency < bound) where
  abbrev n : ℕ
  n = b.n

  -- what at most k rounds leave
  abbrev pub left : ℕ → Reached
  left k = rounds_of t stays ((n + 3) / 4) bound (pad 24 0 base) latency k

  pub came : (k : ℕ) → Came qs base stays bound k (left k)
  came k = rounds_came n few t qs h _ (fours_low n) (fours_high n few) base stays len bound limit k latency l low

  -- where a round changed nothing, the latency is below the bound
  pub found_below : (left n).found ≡ true → (left n).latency < bound
  found_below f = go (came n).ending
    where
      go : Ending qs base bound n (came n).j (left n) → (left n).latency < bound
      go (settled _ _ p) = p
      go (stopped e _ _) = apart (sym e ∙ f)
      go (used e _ _) = apart (sym e ∙ f)

  module _ (one : 1 ≤ n) (u : Below b qs base) where
    abbrev first : List ℕ
    first = earliest_starts b

    abbrev last : List ℕ
    last = latest_starts b

    -- the inequalities of a table are between its jobs
    inside : Inside (length first) qs
    inside = inside_ends b qs (table_inside n t qs h)

    long : (l : List ℕ) → length l ≡ n → length l ≡ length first
    long l e = e ∙ sym (ends_length b)

    -- if round n still changes something, there are none
    pub changed_least : (j : ℕ) → j ≡ n → Changed qs base j → least_starts first last qs ≡ none
    changed_least j e c =
        let z : j ≡ suc (pred n) = omega arith in
        changed_none first last qs inside base (long base len) u (pred n) (omega (arith, ends_length b)) (λ s. c (omega arith) (ap (rounds qs base) z ∙ s ∙ ap (λ (i : ℕ). rounds qs base (pred i)) (sym e)))

    -- the starts that the rounds came to, and whether they are in time
    abbrev ss : List ℕ
    ss = rounds qs base (came n).j

    ss_long : length ss ≡ n
    ss_long = rounds_length qs base _ ∙ len

    pub time_told : none_late (latest_read b) (left n).starts 24 ≡ in_time last ss
    time_told = ap (λ (l : List ℕ). none_late (latest_read b) l 24) (came n).starts ∙ time_is b few ss ss_long

    -- a round without change, and starts in time: the least starts
    settled_some : (left n).found ≡ true → in_time last ss ≡ true → least_starts first last qs ≡ some ss
    settled_some f i = go (came n).ending
      where
        go : Ending qs base bound n (came n).j (left n) → least_starts first last qs ≡ some ss
        go (settled _ e _) = settled_least first last qs inside ss (long ss ss_long) (under_rounds first last qs base u _) (round_more qs base _ ∙ e) i
        go (stopped e _ _) = apart (sym e ∙ f)
        go (used e _ _) = apart (sym e ∙ f)

    abbrev pub found : Bool
    found = (timely (latest_read b) (left n)).found

    pub found_least : found ≡ true → least_starts first last qs ≡ some ss
    unfolding timely
    found_least f = let r = both (left n).found _ f in settled_some r.0 (sym time_told ∙ r.1)

    -- none: there are no least starts, or the bound was reached
    pub lost_least : found ≡ false → (least_starts first last qs ≡ none) ⊎ (bound ≤ (left n).latency)
    unfolding timely
    lost_least f = go (came n).ending
      where
        go : Ending qs base bound n (came n).j (left n) → (least_starts first last qs ≡ none) ⊎ (bound ≤ (left n).latency)
        go (settled e _ _) =
            inl (late_none first last qs inside ss (long ss ss_long) (under_rounds first last qs base u _) (sym time_told ∙ ap (λ (p : Bool). p && none_late (latest_read b) (left n).starts 24) (sym e) ∙ f))
        go (stopped _ p _) = inr p
        go (used _ e c) = inl (changed_least _ e c)

-- 02, Q-2: whatever starts a node's rounds begin with, after every round, from 0 on, the running latency is the latency of that round's starts, whether
-- or not there are least starts in the end. k rounds are taken, fewer only where one changed nothing or the latency came to the bound
pub every_round : (b : Batch) (cs : List Clash) (ts : List Turn) (m depth : ℕ) (w steps : List Inequality) → b.n ≤ 24 → m ≤ 128 → m ≡ length (delays_of b) → depth ≡ length ts
    → Holds b.n (delays_of b) w → Holds b.n (map (turned cs) ts) steps
    → (base : List ℕ) → length base ≡ b.n → (bound first : ℕ) → bound ≤ 43017 → first ≡ latency_of (stays_read b) (pad 24 0 base) 24 → first < bound → (k : ℕ) (r : Reached)
    → r ≡ rounds_of (path_table m w steps depth) (stays_read b) ((b.n + 3) / 4) bound (pad 24 0 base) first k
    → (j : ℕ) × (r.starts ≡ pad 24 0 (rounds (inequalities cs b ts) base j)) × (r.latency ≡ latency b (rounds (inequalities cs b ts) base j))
    × ((j ≡ k) ⊎ ((j ≤ k) × (((r.found ≡ true) × (rounds (inequalities cs b ts) base (suc j) ≡ rounds (inequalities cs b ts) base j)) ⊎ (bound ≤ r.latency))))
every_round b cs ts m depth w steps few most e d hd ht base len bound first limit l p k r g =
    subst Told (sym g) (c.j, c.starts, c.latency ∙ latency_padded b few _ (rounds_length qs base _ ∙ len), go c.ending)
  where
    qs : List Delay
    qs = inequalities cs b ts

    reached : Reached
    reached = rounds_of (path_table m w steps depth) (stays_read b) ((b.n + 3) / 4) bound (pad 24 0 base) first k

    Told : Reached → Type 0
    Told r = (j : ℕ) × (r.starts ≡ pad 24 0 (rounds qs base j)) × (r.latency ≡ latency b (rounds qs base j)) × ((j ≡ k) ⊎ ((j ≤ k) × (((r.found ≡ true) × (rounds qs base (suc j) ≡ rounds qs base j)) ⊎ (bound ≤ r.latency))))

    c : Came qs base (stays_read b) bound k reached
    c = came b few _ qs (path_tabled b cs ts m depth w steps few most e d hd ht) base (stays_read b) len bound limit first l p k

    go : Ending qs base bound k c.j reached → (c.j ≡ k) ⊎ ((c.j ≤ k) × (((reached.found ≡ true) × (rounds qs base (suc c.j) ≡ rounds qs base c.j)) ⊎ (bound ≤ reached.latency)))
    go (settled f e _) = inr (c.most, inl (f, e))
    go (stopped _ f _) = inr (c.most, inr f)
    go (used _ f _) = inl f
