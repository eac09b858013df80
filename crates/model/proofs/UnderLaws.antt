-- Rounds from any starts that are at or below every solution: they lead to the least starts, and a latency at or above best's on the way sends
-- the node back. So a node may begin where its parent stood, raised by its last turn, and stop at best.
use Prim.Native.Nat.{ℕ, suc, ◌≤◌, ◌<◌, max}
use mathlib.Core.Path.{◌≡◌, refl, ap, sym, ◌∙◌}
use mathlib.Core.Logic.{◌⊎◌, inl, inr}
use mathlib.Core.Bool.{true, false}
use mathlib.Core.Option.{Option, none, some}
use mathlib.Core.List.Memᴰ
use mathlib.Core.List.{List, [], ◌∷◌, ◌++◌, map, Memᴰ}
use native.Mathlib.Omega.{arith}
use native.Mathlib.Decide.{ℕ_discrete}
use lib.ListN.{length, get_or}
use lib.Seq.{ext_get_or}
use lib.Dec.{leb}
use borrow.Author.Tests.{leb-true, le-leb}
use Rattle.model.specs.declared.Delay.{Delay}
use Rattle.model.specs.declared.Batch.{Batch}
use Rattle.model.specs.Best.{Best}
use Rattle.std.specs.Prelude.{None, Some}
use Rattle.model.specs.Common.{count}
use Rattle.model.specs.Batch.{delays_of, earliest_starts, latest_starts}
use Rattle.model.specs.Plan.{start, Keeps, latency}
use Rattle.model.specs.Clash.{Clash, clashes}
use Rattle.model.specs.Starts.{plus, raised, rounds, in_time, least_starts, Solution}
use Rattle.model.specs.declared.Turn.{Turn}
use Rattle.model.specs.Limits.{most_latency}
use Rattle.model.specs.Search.{Place, turned, inequalities, starts_at, back, prunes, visit}
use Rattle.model.proofs.BoolLaws.{apart}
use Rattle.model.proofs.ListLaws.{all_each, each_all, count_some, some_count}
use Rattle.model.proofs.PlusLaws.{plus_mono, plus_le, le_plus}
use Rattle.model.proofs.StartsLaws.{Inside, Solves, reach, raised_in, after, rounds_length, after_suc, after_rises, after_mono, after_below, settles, above_each, least_length, least_solution, least_below, least_found, inside_ends}
use Rattle.model.proofs.FinishLaws.{latency_mono}
use Rattle.model.proofs.NodeLaws.{Fits, Named, at_solved}
use Rattle.model.proofs.BoundLaws.{latency_bound}

-- ---- starts between the first ones and every solution

module _ (first last : List ℕ) where
  pub record Under (qs : List Delay) (base : List ℕ) : Type 0 where
    pub above : (j : ℕ) → get_or first j 0 ≤ get_or base j 0
    pub under : (us : List ℕ) → Solution first last qs us → (j : ℕ) → start base j ≤ start us j

  -- nobody starts before the first starts
  pub under_first : (qs : List Delay) → Under qs first
  unfolding start
  under_first qs = record { above = λ j. omega arith; under = λ us s j. above_each first last qs us s j }

  -- more inequalities have fewer solutions: a parent's starts serve its child
  pub under_more : (qs rs : List Delay) (base : List ℕ) → ((q : Delay) → Memᴰ q qs → Memᴰ q rs) → Under qs base → Under rs base
  under_more qs rs base f u =
      record { above = u.above; under = λ us s j. u.under us (record { keeps = λ q m. s.keeps q (f q m); above = s.above; below = s.below }) j }

  -- a solution above the base, as a function
  solves : (qs : List Delay) (base us : List ℕ) → Under qs base → Solution first last qs us → Solves qs base (start us)
  unfolding Keeps start
  solves qs base us u s =
      record { above = λ j. u.under us s j; keeps = λ q m. plus_le q.weight (start us q.from) (start us q.to) (s.keeps q m) }

  -- rounds stay there
  pub under_rounds : (qs : List Delay) (base : List ℕ) → Under qs base → (k : ℕ) → Under qs (rounds qs base k)
  unfolding start after rounds
  under_rounds qs base u k =
      record {
        above = λ j. omega (arith, u.above j, after_mono qs base 0 k j (omega arith));
        under = λ us s j. after_below qs base (start us) (solves qs base us u s) k j;
      }

  -- one inequality that a start does not keep yet may be applied at once, before any round: a child begins with its last turn applied
  pub under_raised : (qs : List Delay) (base : List ℕ) (q : Delay) → Memᴰ q qs → Under qs base
      → (new : List ℕ) → ((j : ℕ) → ¬ (j ≡ q.to) → get_or new j 0 ≡ get_or base j 0) → get_or new q.to 0 ≡ max (get_or base q.to 0) (plus (get_or base q.from 0) q.weight) → Under qs new
  unfolding Keeps start
  under_raised qs base q m u new others here = record { above = λ j. above j (ℕ_discrete j q.to); under = λ us s j. below us s j (ℕ_discrete j q.to) }
    where
      above : (j : ℕ) → Dec (j ≡ q.to) → get_or first j 0 ≤ get_or new j 0
      above j (yes e) = omega (arith, here, u.above q.to, ap (λ (k : ℕ). get_or new k 0) e, ap (λ (k : ℕ). get_or first k 0) e)
      above j (no e) = omega (arith, others j e, u.above j)

      kept : (us : List ℕ) → Solution first last qs us → plus (get_or base q.from 0) q.weight ≤ get_or us q.to 0
      kept us s =
          omega (
            arith,
            plus_mono q.weight (u.under us s q.from),
            plus_le q.weight (get_or us q.from 0) (get_or us q.to 0) (s.keeps q m),
          )

      below : (us : List ℕ) → Solution first last qs us → (j : ℕ) → Dec (j ≡ q.to) → get_or new j 0 ≤ get_or us j 0
      below us s j (yes e) = omega (arith, kept us s, here, u.under us s q.to, ap (λ (k : ℕ). get_or new k 0) e, ap (λ (k : ℕ). get_or us k 0) e)
      below us s j (no e) = omega (arith, others j e, u.under us s j)

-- ---- rounds from such starts

-- one round more
pub round_more : (qs : List Delay) (base : List ℕ) (k : ℕ) → rounds qs (rounds qs base k) 1 ≡ rounds qs base (suc k)
unfolding rounds
round_more qs base k = ap (λ (l : ℕ). map (raised qs (rounds qs base k)) (count 0 l)) (rounds_length qs base k)

module _ (first last : List ℕ) (qs : List Delay) (inside : Inside (length first) qs) where
  abbrev n : ℕ
  n = length first

  -- least starts are there too
  pub under_least : (ts : List ℕ) → least_starts first last qs ≡ some ts → Under first last qs ts
  unfolding start
  under_least ts e = record { above = λ j. above_each first last qs ts (least_solution first last qs inside ts e) j; under = λ us s j. least_below first last qs ts e us s j }

  module _ (old : List ℕ) (len : length old ≡ n) (u : Under first last qs old) (e : rounds qs old 1 ≡ old) where
    -- starts that a round does not change and that are in time keep every inequality and every end
    unchanged_solution : in_time last old ≡ true → Solution first last qs old
    unfolding Inside Keeps start after reach rounds in_time
    unchanged_solution t =
        record {
          keeps = λ q m.
              le_plus q.weight (get_or old q.from 0) (get_or old q.to 0)
              (omega (
                arith,
                raised_in qs old q m,
                after_suc qs old 0 q.to (omega (arith, (inside q m).1)),
                ap (λ (l : List ℕ). get_or l q.to 0) e,
              ));
          above = λ j h. u.above j;
          below = λ j h. leb-true _ _ (all_each (λ j. leb (get_or old j 0) (get_or last j 0)) (count 0 (length old)) t (some_count 0 (length old) j (omega arith) (omega arith)));
        }

    -- where a round changes nothing, these are the least starts, if they are in time
    pub settled_least : in_time last old ≡ true → least_starts first last qs ≡ some old
    unfolding start
    settled_least t =
        let s = unchanged_solution t in
        let found = least_found first last qs inside old s in
        let least = rounds qs first n in
        found ∙ ap some
        (ext_get_or 0 least old (least_length first last qs least found ∙ sym len)
        (λ j h. omega (arith, least_below first last qs least found old s j, u.under least (least_solution first last qs inside least found) j)))

  -- starts past their latest: there are none, since no solution is below them
  pub late_none : (old : List ℕ) → length old ≡ n → Under first last qs old → in_time last old ≡ false → least_starts first last qs ≡ none
  unfolding in_time start
  late_none old len u t = go (least_starts first last qs) refl
    where
      go : (o : Option (List ℕ)) → least_starts first last qs ≡ o → o ≡ none
      go none e = refl
      go (some ts) e =
          let s = least_solution first last qs inside ts e in
          apart (sym t ∙ each_all (λ j. leb (get_or old j 0) (get_or last j 0)) (count 0 (length old)) (λ j m.
          let h : j < n = omega (arith, (count_some 0 (length old) j m).1) in
          le-leb (get_or old j 0) (get_or last j 0) (omega (arith, u.under ts s j, s.below j h))))

  module _ (base : List ℕ) (len : length base ≡ n) (u : Under first last qs base) where
    -- where there are least starts, round n and those after it change nothing
    base_settles : (ts : List ℕ) → least_starts first last qs ≡ some ts → (k : ℕ) → n ≤ suc k → rounds qs base (suc k) ≡ rounds qs base k
    unfolding Inside after
    base_settles ts e k h =
        ext_get_or 0 (rounds qs base (suc k)) (rounds qs base k) (rounds_length qs base (suc k) ∙ sym (rounds_length qs base k))
        (λ j b. omega (
          arith,
          settles qs base (start ts) (solves first last qs base ts u (least_solution first last qs inside ts e)) (λ q m. omega (arith, (inside q m).0)) k j (omega arith),
          after_rises qs base k j,
        ))

    -- if round n still changes something, there are none
    pub changed_none : (k : ℕ) → n ≤ suc k → ¬ (rounds qs base (suc k) ≡ rounds qs base k) → least_starts first last qs ≡ none
    changed_none k h c = go (least_starts first last qs) refl
      where
        go : (o : Option (List ℕ)) → least_starts first last qs ≡ o → o ≡ none
        go none e = refl
        go (some ts) e = absurd (c (base_settles ts e k h))

-- ---- stopping at best

prunes_more : (best : Best) (l m : ℕ) → l ≤ m → prunes best l ≡ true → prunes best m ≡ true
unfolding prunes
prunes_more None l m h e = e
prunes_more (Some k) l m h e = le-leb k m (omega (arith, leb-true k l e))

module _ (cs : List Clash) (b : Batch) (p : Place) (qs : List Delay) (inside : Inside b.n qs) where
  abbrev least : Option (List ℕ)
  least = least_starts (earliest_starts b) (latest_starts b) qs

  -- a latency at or above best's, of starts at or below every solution: the node goes back, whether or not there are least starts
  pub stopped_back : (old : List ℕ) → Under (earliest_starts b) (latest_starts b) qs old → prunes p.incumbent.best (latency b old) ≡ true → visit cs b p least ≡ back p.turns p.incumbent
  unfolding visit
  stopped_back old u e = go least refl
    where
      go : (o : Option (List ℕ)) → least ≡ o → visit cs b p o ≡ back p.turns p.incumbent
      go none g = refl
      go (some ts) g =
          rw (prunes_more p.incumbent.best (latency b old) (latency b ts) (latency_mono b old ts (λ j. u.under ts (least_solution (earliest_starts b) (latest_starts b) qs (inside_ends b qs inside) ts g) j)) e)

-- ---- the paths of a search

map_append : {A B : Type 0} (f : A → B) (xs ys : List A) → map f (xs ++ ys) ≡ map f xs ++ map f ys
map_append f [] ys = refl
map_append f (x ∷ xs) ys = ap (λ l. f x ∷ l) (map_append f xs ys)

-- starts between a batch's earliest ones and every solution
abbrev pub Below : Batch → List Delay → List ℕ → Type 0
Below b = Under (earliest_starts b) (latest_starts b)

-- what is at or below every solution of the path's first turns is so for the whole path: a row that was kept there serves
pub under_path : (cs : List Clash) (b : Batch) (ts us : List Turn) (base : List ℕ) → Below b (inequalities cs b ts) base → Below b (inequalities cs b (ts ++ us)) base
unfolding inequalities
under_path cs b ts us base u =
    under_more (earliest_starts b) (latest_starts b) (inequalities cs b ts) (inequalities cs b (ts ++ us)) base
    (λ q m. go q (Memᴰ.append_cases (delays_of b) m))
    u
  where
    go : (q : Delay) → Memᴰ q (delays_of b) ⊎ Memᴰ q (map (turned cs) ts) → Memᴰ q (delays_of b ++ map (turned cs) (ts ++ us))
    go q (inl m) = Memᴰ.append_left (map (turned cs) (ts ++ us)) m
    go q (inr m) = Memᴰ.append_right (delays_of b) (rw (map_append (turned cs) ts us) (Memᴰ.append_left (map (turned cs) us) m))

-- where no starts meet the inequalities within the limit on latency, there are none: with no best yet, rounds may stop above it, and so no start grows past 16 bits
pub beyond_none : (b : Batch) → Fits b → (ts : List Turn) → Named b ts → Inside b.n (inequalities (clashes b) b ts)
    → (old : List ℕ) → Below b (inequalities (clashes b) b ts) old → most_latency < latency b old → starts_at (clashes b) b ts ≡ none
unfolding starts_at
beyond_none b fits ts named inside old u h = go (starts_at (clashes b) b ts) refl
  where
    go : (o : Option (List ℕ)) → starts_at (clashes b) b ts ≡ o → o ≡ none
    go none e = refl
    go (some ss) e =
        absurd
        (omega (
          arith,
          latency_bound b fits ts named ss e,
          latency_mono b old ss (λ j. u.under ss (at_solved b fits ts named ss e) j),
        ))
