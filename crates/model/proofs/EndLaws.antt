-- Records: a node of the record is a node of its place. So a sound record stays good, a search ends after at most the nodes that its path
-- leaves open, and a fresh one ends with a shortest valid plan, or with none where there is none.
use Prim.Native.Nat.{ℕ, zero, suc, ◌+◌, ◌-◌, ◌≤◌, ◌<◌}
use mathlib.Core.Path.{◌≡◌, refl, ap, sym, ◌∙◌, subst}
use mathlib.Core.Logic.{◌⊎◌, inl, inr}
use mathlib.Core.Bool.{Bool, true, false, not, ◌&&◌}
use mathlib.Core.Option.{none, some}
use mathlib.Core.List.{List, [], ◌∷◌, ◌++◌, Memᴰ}
use native.Mathlib.Omega.{arith}
use native.Mathlib.Decide.{dec_le}
use lib.ListN.{length, replicate}
use lib.Dec.{eqb}
use borrow.Author.Tests.{ne_eqb}
use Rattle.model.specs.declared.Batch.{Batch}
use Rattle.model.specs.declared.Turn.{Turn}
use Rattle.model.specs.declared.Search.{Search}
use Rattle.model.specs.Common.{up_to, pad}
use Rattle.model.specs.Limits.{most_clashes}
use Rattle.model.specs.Plan.{Valid, latency}
use Rattle.model.specs.Clash.{clashes}
use Rattle.model.specs.Search.{Incumbent, Place, starts_at, first_met, become_best, next, empty, is_turn, turns_of, place_of, search_of, fresh_place, fresh_search, node, nodes_on, nodes, Ends, node_limit}
use Rattle.model.proofs.BoolLaws.{apart}
use Rattle.model.proofs.BackLaws.{tree, left, left_pos}
use Rattle.model.proofs.NodeLaws.{Fits, Named, BestLe, Live, live_next}
use Rattle.model.proofs.GoodLaws.{GoodTurns, good_none, good_named, Good, Step, step_next, ValidBest, valid_new}

-- ---- the path array

up_to_blank : (ts : List Turn) (m : ℕ) → ((t : Turn) → Memᴰ t ts → is_turn t ≡ true) → up_to is_turn (ts ++ replicate m empty) ≡ ts
unfolding up_to empty is_turn
up_to_blank [] zero h = refl
up_to_blank [] (suc m) h = refl
up_to_blank (t ∷ ts) m h = go (is_turn t) (h t (Memᴰ.head refl)) (up_to_blank ts m (λ u n. h u (Memᴰ.tail n)))
  where
    rest : List Turn
    rest = up_to is_turn (ts ++ replicate m empty)

    go : (p : Bool) → p ≡ true → rest ≡ ts → ◌≡◌ {A = List Turn} (elim p [ true ↦ t ∷ rest | false ↦ [] ]) (t ∷ ts)
    go true e r = ap (λ (l : List Turn). t ∷ l) r
    go false e r = apart e

-- a turn on a listed clash is not empty
pub named_turn : (t : Turn) → t.clash < most_clashes → is_turn t ≡ true
unfolding is_turn
named_turn t h = ap (λ (p : Bool). not (p && eqb t.side 0)) (ne_eqb t.clash 65535 (λ e. omega arith))

pub turns_path : (ts : List Turn) → ((t : Turn) → Memᴰ t ts → t.clash < most_clashes) → turns_of (pad most_clashes empty ts) ≡ ts
unfolding turns_of pad
turns_path ts h = up_to_blank ts (most_clashes - length ts) (λ t m. named_turn t (h t m))

-- ---- nodes on any batch, and N: before it the search has not ended, and from it on nothing changes

pub fresh_ended : (b : Batch) → (fresh_search b).ended ≡ false
unfolding fresh_search search_of fresh_place
fresh_ended b = refl

pub fresh_total : (b : Batch) → (fresh_search b).total ≡ 0
unfolding fresh_search search_of fresh_place
fresh_total b = refl

module _ (b : Batch) where
  nodes_suc : (k : ℕ) (s : Search) → s.ended ≡ false → nodes_on (clashes b) (suc k) s ≡ nodes_on (clashes b) k (node (clashes b) s)
  unfolding nodes_on
  nodes_suc k s e = rw e

  -- an ended search visits no node
  pub nodes_ended : (k : ℕ) (s : Search) → s.ended ≡ true → nodes_on (clashes b) k s ≡ s
  unfolding nodes_on
  nodes_ended zero s e = refl
  nodes_ended (suc k) s e = rw e

  node_total : (s : Search) → (node (clashes b) s).total ≡ s.total + 1
  unfolding node search_of
  node_total s = refl

  -- total counts the nodes: all k, or fewer where the search has ended
  pub nodes_total : (k : ℕ) (s : Search) → ((nodes_on (clashes b) k s).total ≤ s.total + k) × ((nodes_on (clashes b) k s).ended ≡ false → (nodes_on (clashes b) k s).total ≡ s.total + k)
  unfolding nodes_on
  nodes_total zero s = (omega arith, λ e. omega arith)
  nodes_total (suc k) s = go s.ended refl (nodes_total k (node (clashes b) s))
    where
      at : Bool → Search
      at p = elim p [ true ↦ s | false ↦ nodes_on (clashes b) k (node (clashes b) s) ]

      go : (p : Bool) → s.ended ≡ p → ((nodes_on (clashes b) k (node (clashes b) s)).total ≤ (node (clashes b) s).total + k) × ((nodes_on (clashes b) k (node (clashes b) s)).ended ≡ false → (nodes_on (clashes b) k (node (clashes b) s)).total ≡ (node (clashes b) s).total + k) → ((at p).total ≤ s.total + suc k) × ((at p).ended ≡ false → (at p).total ≡ s.total + suc k)
      go true e r = (omega arith, λ h. apart (sym h ∙ e))
      go false e r = (omega (arith, r.0, node_total s), λ h. omega (arith, r.1 h, node_total s))

  -- more nodes go on where fewer stopped
  pub nodes_more : (j k : ℕ) (s : Search) → nodes_on (clashes b) (j + k) s ≡ nodes_on (clashes b) k (nodes_on (clashes b) j s)
  unfolding nodes_on
  nodes_more zero k s = let z : 0 + k ≡ k = omega arith in ap (λ (i : ℕ). nodes_on (clashes b) i s) z
  nodes_more (suc j) k s = let z : suc j + k ≡ suc (j + k) = omega arith in ap (λ (i : ℕ). nodes_on (clashes b) i s) z ∙ go s.ended refl (nodes_more j k (node (clashes b) s))
    where
      go : (p : Bool) → s.ended ≡ p → nodes_on (clashes b) (j + k) (node (clashes b) s) ≡ nodes_on (clashes b) k (nodes_on (clashes b) j (node (clashes b) s)) → ◌≡◌ {A = Search} (elim p [ true ↦ s | false ↦ nodes_on (clashes b) (j + k) (node (clashes b) s) ]) (nodes_on (clashes b) k (elim p [ true ↦ s | false ↦ nodes_on (clashes b) j (node (clashes b) s) ]))
      go true e r = sym (nodes_ended k s e)
      go false e r = r

  pub nodes_fresh : (k : ℕ) → nodes k (fresh_search b) ≡ nodes_on (clashes b) k (fresh_search b)
  unfolding nodes fresh_search search_of
  nodes_fresh k = refl

  pub nodes_past : (n k : ℕ) → (nodes n (fresh_search b)).ended ≡ true → n ≤ k → nodes k (fresh_search b) ≡ nodes n (fresh_search b)
  unfolding nodes fresh_search search_of
  nodes_past n k e h =
      ap (λ (i : ℕ). nodes_on (clashes b) i (fresh_search b)) (split h)
      ∙ nodes_more n (k - n) (fresh_search b) ∙ nodes_ended (k - n) (nodes_on (clashes b) n (fresh_search b)) e
    where
      split : n ≤ k → k ≡ n + (k - n)
      split h = omega arith

  total_most : (k : ℕ) → (nodes k (fresh_search b)).total ≤ k
  total_most k =
      omega (arith, (nodes_total k (fresh_search b)).0, fresh_total b, ap (λ (s : Search). s.total) (nodes_fresh k))

  pub ends_least : (n m : ℕ) → Ends b n → (nodes m (fresh_search b)).ended ≡ true → n ≤ m
  ends_least n m e h = go (dec_le n m)
    where
      go : Dec (n ≤ m) → n ≤ m
      go (yes g) = g
      go (no g) = absurd (omega (arith, e.total, ap (λ (s : Search). s.total) (nodes_past m n h (omega arith)), total_most m))

  pub ends_unique : (n m : ℕ) → Ends b n → Ends b m → m ≡ n
  ends_unique n m e f = omega (arith, ends_least n m e f.ended, ends_least m n f e.ended)

  -- the search has not ended before N
  pub ends_not_before : (n k : ℕ) → Ends b n → k < n → (nodes k (fresh_search b)).ended ≡ false
  ends_not_before n k e h = go (nodes k (fresh_search b)).ended refl
    where
      go : (p : Bool) → (nodes k (fresh_search b)).ended ≡ p → p ≡ false
      go true g = absurd (omega (arith, ends_least n k e g))
      go false g = refl

-- ---- the places that are reached

module _ (b : Batch) (fits : Fits b) where
  pub place_search : (total : ℕ) (q : Place) → GoodTurns b q.turns → place_of (search_of b total q) ≡ q
  unfolding place_of search_of Named
  place_search total q g =
      ap (λ (l : List Turn). record { turns = l; incumbent = q.incumbent; ended = q.ended })
      (turns_path q.turns (λ t m. omega (arith, good_named b q.turns g t m, fits.few)))

-- I is what is kept of best, as in GoodLaws
module _ (b : Batch) (fits : Fits b) (I : Incumbent → Type 0) (new : (ts : List Turn) → Named b ts → (ss : List ℕ) → starts_at (clashes b) b ts ≡ some ss → first_met (clashes b) ss 0 ≡ none → I (become_best b ss)) where
  -- a record of this batch at a good place
  pub record At (s : Search) : Type 0 where
    pub batch : s.batch ≡ b
    pub good : Good b fits I new (place_of s)

  step : (s : Search) → At s → Step b fits I new (place_of s).turns (next (clashes b) b (place_of s))
  step s a = step_next b fits I new (place_of s) a.good

  pub node_place : (s : Search) → At s → place_of (node (clashes b) s) ≡ next (clashes b) b (place_of s)
  unfolding node
  node_place s a =
      ap (λ (c : Batch). place_of (search_of c (s.total + 1) (next (clashes b) c (place_of s)))) a.batch
      ∙ place_search b fits (s.total + 1) (next (clashes b) b (place_of s)) (step s a).good.turns

  pub node_at : (s : Search) → At s → At (node (clashes b) s)
  unfolding node search_of
  node_at s a = record { batch = a.batch; good = subst (Good b fits I new) (sym (node_place s a)) (step s a).good }

  -- what a node keeps, the nodes keep
  pub nodes_keep : (P : Search → Type 0) → ((s : Search) → At s → s.ended ≡ false → P s → P (node (clashes b) s)) → (k : ℕ) (s : Search) → At s → P s → At (nodes_on (clashes b) k s) × P (nodes_on (clashes b) k s)
  unfolding nodes_on
  nodes_keep P f zero s a h = (a, h)
  nodes_keep P f (suc k) s a h = go s.ended refl (nodes_keep P f k (node (clashes b) s) (node_at s a))
    where
      go : (p : Bool) → s.ended ≡ p → (P (node (clashes b) s) → At (nodes_on (clashes b) k (node (clashes b) s)) × P (nodes_on (clashes b) k (node (clashes b) s))) → At (elim p [ true ↦ s | false ↦ nodes_on (clashes b) k (node (clashes b) s) ]) × P (elim p [ true ↦ s | false ↦ nodes_on (clashes b) k (node (clashes b) s) ])
      go true e rec = (a, h)
      go false e rec = rec (f s a e h)

  -- ---- it ends

  pub record Finished (s : Search) (m : ℕ) : Type 0 where
    pub k : ℕ
    pub few_nodes : k ≤ m
    pub ended : (nodes_on (clashes b) k s).ended ≡ true
    pub total : (nodes_on (clashes b) k s).total ≡ s.total + k

  node_ended : (s : Search) → At s → (node (clashes b) s).ended ≡ (next (clashes b) b (place_of s)).ended
  unfolding place_of
  node_ended s a = ap (λ (p : Place). p.ended) (node_place s a)

  one_node : (s : Search) → s.ended ≡ false → nodes_on (clashes b) 1 s ≡ node (clashes b) s
  unfolding nodes_on
  one_node s e = nodes_suc b 0 s e

  pub finishes : (m : ℕ) (s : Search) → At s → s.ended ≡ false → left (length (clashes b)) (place_of s).turns ≤ m → Finished s m
  finishes zero s a e h = absurd (omega (arith, left_pos (length (clashes b)) (place_of s).turns))
  finishes (suc m) s a e h = go (step s a).down (finishes m (node (clashes b) s) (node_at s a))
    where
      q : Place
      q = next (clashes b) b (place_of s)

      later : Finished (node (clashes b) s) m → Finished s (suc m)
      later f =
          record {
            k = suc f.k;
            few_nodes = omega (arith, f.few_nodes);
            ended = ap (λ (x : Search). x.ended) (nodes_suc b f.k s e) ∙ f.ended;
            total = ap (λ (x : Search). x.total) (nodes_suc b f.k s e) ∙ f.total ∙ omega (arith, node_total b s);
          }

      go : (q.ended ≡ true) ⊎ ((q.ended ≡ false) × (left (length (clashes b)) q.turns < left (length (clashes b)) (place_of s).turns)) → ((node (clashes b) s).ended ≡ false → left (length (clashes b)) (place_of (node (clashes b) s)).turns ≤ m → Finished (node (clashes b) s) m) → Finished s (suc m)
      go (inl d) rec =
          record {
            k = 1;
            few_nodes = omega arith;
            ended = ap (λ (x : Search). x.ended) (one_node s e) ∙ node_ended s a ∙ d;
            total = ap (λ (x : Search). x.total) (one_node s e) ∙ node_total b s;
          }
      go (inr d) rec =
          later
          (rec (node_ended s a ∙ d.0)
          (omega (arith, d.1, ap (λ (p : Place). left (length (clashes b)) p.turns) (node_place s a))))

  -- ---- a fresh search, whose incumbent is none

  module _ (none_kept : I fresh_place.incumbent) where
    fresh_good : Good b fits I new fresh_place
    unfolding fresh_place
    fresh_good = record { turns = good_none b; best = none_kept; over = λ e. refl }

    pub fresh_place_lem : place_of (fresh_search b) ≡ fresh_place
    unfolding fresh_search
    fresh_place_lem = place_search b fits 0 fresh_place fresh_good.turns

    pub fresh_at : At (fresh_search b)
    unfolding fresh_search search_of
    fresh_at = record { batch = refl; good = subst (Good b fits I new) (sym fresh_place_lem) fresh_good }

-- ---- the end of a fresh search, with a best that is a valid plan

module _ (b : Batch) (fits : Fits b) where
  none_valid : ValidBest b fresh_place.incumbent
  unfolding fresh_place
  none_valid = tt

  pub fresh_valid : At b fits (ValidBest b) (valid_new b fits) (fresh_search b)
  fresh_valid = fresh_at b fits (ValidBest b) (valid_new b fits) none_valid

  -- every valid plan is at or above best, or still open, after any number of nodes
  pub alive : (us : List ℕ) → Valid b us → (k : ℕ) → Live b fits us (place_of (nodes_on (clashes b) k (fresh_search b)))
  unfolding place_of Live fresh_place
  alive us v k =
      (nodes_keep b fits (ValidBest b) (valid_new b fits) (λ s. Live b fits us (place_of s)) one k (fresh_search b) fresh_valid
      (subst (Live b fits us) (sym (fresh_place_lem b fits (ValidBest b) (valid_new b fits) none_valid)) first)).1
    where
      place_ended : (s : Search) → (place_of s).ended ≡ s.ended
      place_ended s = refl

      first : Live b fits us fresh_place
      first = inr (refl, inl tt)

      one : (s : Search) → At b fits (ValidBest b) (valid_new b fits) s → s.ended ≡ false → Live b fits us (place_of s) → Live b fits us (place_of (node (clashes b) s))
      one s a e l =
          subst (Live b fits us) (sym (node_place b fits (ValidBest b) (valid_new b fits) s a))
          (live_next b fits us v (place_of s) (good_named b (place_of s).turns a.good.turns) (place_ended s ∙ e) l)

  -- best is a valid plan with its latency, after any number of nodes
  pub best_valid : (k : ℕ) → At b fits (ValidBest b) (valid_new b fits) (nodes_on (clashes b) k (fresh_search b))
  best_valid k = (nodes_keep b fits (ValidBest b) (valid_new b fits) (λ s. Unit {0}) (λ s a e h. tt) k (fresh_search b) fresh_valid tt).0

  ended_best : (us : List ℕ) (p : Place) → Live b fits us p → p.ended ≡ true → BestLe b fits p.incumbent.best (latency b us)
  unfolding Live
  ended_best us p (inl h) e = h
  ended_best us p (inr h) e = apart (sym h.0 ∙ e)

  -- the search's end, as demand 3 tells it: N, its bound, the plan, and that it is shortest
  pub record End (n : ℕ) : Type 0 where
    pub ends : Ends b n
    pub bound : n ≤ node_limit b
    pub valid : ValidBest b (place_of (nodes n (fresh_search b))).incumbent
    pub shortest : (us : List ℕ) → Valid b us → BestLe b fits (nodes n (fresh_search b)).best (latency b us)

  pub search_ends : (n : ℕ) × End n
  unfolding nodes tree left place_of fresh_search search_of fresh_place node_limit
  search_ends =
      let f = finishes b fits (ValidBest b) (valid_new b fits) (tree (length (clashes b))) (fresh_search b) fresh_valid (fresh_ended b) (omega (arith, open_at_first)) in (
        f.k,
        record {
          ends = record { ended = f.ended; total = f.total ∙ omega (arith, fresh_total b) };
          bound = f.few_nodes;
          valid = (best_valid f.k).good.best;
          shortest = λ us v. ended_best us (place_of (nodes_on (clashes b) f.k (fresh_search b))) (alive us v f.k) f.ended;
        },
      )
    where
      open_at_first : left (length (clashes b)) (place_of (fresh_search b)).turns ≡ tree (length (clashes b))
      open_at_first = ap (λ (p : Place). left (length (clashes b)) p.turns) (fresh_place_lem b fits (ValidBest b) (valid_new b fits) none_valid)
