-- The loop over nodes: each visited node is a node of the record, and what the arrays stand for stays so.
use Prim.Native.Nat.{ℕ, zero, suc, ◌+◌, ◌-◌, ◌≤◌, ◌<◌}
use mathlib.Core.Path.{◌≡◌, refl, ap, sym, ◌∙◌}
use mathlib.Core.Bool.{Bool, true, false}
use mathlib.Core.List.{List}
use native.Mathlib.Omega.{arith}
use Rattle.model.specs.declared.Batch.{Batch}
use Rattle.model.specs.declared.Search.{Search}
use Rattle.model.specs.declared.Tally.{Tally}
use Rattle.model.specs.Clash.{Clash, clashes}
use Rattle.model.specs.Search.{Place, next, place_of, search_of, node, nodes_on}
use Rattle.model.specs.Sound.{sound}
use Rattle.model.specs.Run.{counted}
use Rattle.model.proofs.GoodLaws.{step_next}
use Rattle.model.proofs.SoundLaws.{fits, SoundBest, sound_new, place_sound}
use Rattle.node.specs.declared.kit.Kit.{Kit}
use Rattle.node.specs.declared.kit.Trail.{Trail}
use Rattle.node.specs.declared.kit.Walk.{Walk}
use Rattle.node.specs.Walk.{Path, place_at}
use Rattle.node.specs.Kit.{Works, Ready, Visited}
use Rattle.node.proofs.WorksLaws.{place_back, passes, good}

nodes_none : (cs : List Clash) (s : Search) (k : ℕ) → k ≤ 0 → nodes_on cs k s ≡ s
unfolding nodes_on
nodes_none cs s zero h = refl
nodes_none cs s (suc k) h = absurd (omega arith)

pub nodes_over : (cs : List Clash) (s : Search) (k : ℕ) → s.ended ≡ true → nodes_on cs k s ≡ s
unfolding nodes_on
nodes_over cs s zero e = refl
nodes_over cs s (suc k) e = ap (λ (p : Bool). over p) e
  where
    over : Bool → Search
    over p = elim p [ true ↦ s | false ↦ nodes_on cs k (node cs s) ]

nodes_one : (cs : List Clash) (s : Search) (k : ℕ) → 0 < k → s.ended ≡ false → nodes_on cs k s ≡ nodes_on cs (k - 1) (node cs s)
unfolding nodes_on
nodes_one cs s zero h e = absurd (omega arith)
nodes_one cs s (suc k) h e = ap (λ (p : Bool). one p) e ∙ ap (λ (i : ℕ). nodes_on cs i (node cs s)) (less k)
  where
    one : Bool → Search
    one p = elim p [ true ↦ s | false ↦ nodes_on cs k (node cs s) ]

    less : (k : ℕ) → k ≡ suc k - 1
    less k = omega arith

-- a counted node leaves one less
pub counted_less : (t u : Tally) → u ≡ counted t → 0 < t.left → u.left < t.left
unfolding counted
counted_less t u e h = omega (arith, ap (λ (x : Tally). x.left) e)

-- a node of the record at a place
node_is : (b : Batch) (total : ℕ) (q : Place) → node (clashes b) (search_of b total q) ≡ search_of b (total + 1) (next (clashes b) b (place_of (search_of b total q)))
unfolding node search_of
node_is b total q = refl

ended_is : (b : Batch) (total : ℕ) (turns : List ℕ) (walk : Walk) {p : Bool} → walk.ended ≡ p → (search_of b total (place_at turns walk)).ended ≡ p
unfolding search_of place_at
ended_is b total turns walk e = e

module _ (kit : Kit) where
  -- what holds at the loop's test: whatever batch the arrays stood for at first, they stand for it, and the rest of the nodes leads where all lead
  abbrev pub Going : Trail → Walk → Tally → Trail → Walk → Tally → Type 0
  Going t₀ walk₀ tally₀ t walk tally =
      (tally.total + tally.left ≤ 100000000)
      × ((b : Batch) → Works b kit t₀ walk₀
      → Works b kit t walk
      × (nodes_on (clashes b) tally.left (search_of b tally.total (place_at t.turns walk)) ≡ nodes_on (clashes b) tally₀.left (search_of b tally₀.total (place_at t₀.turns walk₀))))

  -- one node more
  module _ (t₀ : Trail) (walk₀ : Walk) (tally₀ : Tally) (t : Trail) (walk : Walk) (tally : Tally) (g : Going t₀ walk₀ tally₀ t walk tally) where
    pub still_ready : Ready kit t₀ walk₀ → Ready kit t walk
    still_ready (b, w) = (b, (g.1 b w).0)

    pub goes_on : (t' : Trail) (walk' : Walk) (tally' : Tally) → 0 < tally.left → walk.ended ≡ false → tally' ≡ counted tally → Visited kit t walk t' walk' → Going t₀ walk₀ tally₀ t' walk' tally'
    unfolding counted
    goes_on t' walk' tally' h e c v =
        (omega (arith, g.0, ap (λ (x : Tally). x.total) c, ap (λ (x : Tally). x.left) c), λ b w₀. (works b w₀, path b w₀))
      where
        works : (b : Batch) → Works b kit t₀ walk₀ → Works b kit t' walk'
        works b w₀ =
            let w = (g.1 b w₀).0 in
            let n = v b w in
            let p = passes b kit t walk w in
            record {
              jobs = w.jobs;
              few = w.few;
              weights = w.weights;
              each_stays = w.each_stays;
              earliest = w.earliest;
              latest = w.latest;
              first = w.first;
              listed = w.listed;
              paired = w.paired;
              stands = n.1;
              is_sound =
                  ap (λ (q : Place). sound (search_of b 0 q)) n.0
                  ∙ place_sound b p 0 (next (clashes b) b (place_at t.turns walk)) (omega arith)
                  (step_next b (fits b p) (SoundBest b) (sound_new b (fits b p)) (place_at t.turns walk) (good b kit t walk w)).good;
            }

        path : (b : Batch) (w₀ : Works b kit t₀ walk₀) → nodes_on (clashes b) tally'.left (search_of b tally'.total (place_at t'.turns walk')) ≡ nodes_on (clashes b) tally₀.left (search_of b tally₀.total (place_at t₀.turns walk₀))
        path b w₀ =
            let w = (g.1 b w₀).0 in
            ap (λ (x : Tally). nodes_on (clashes b) x.left (search_of b x.total (place_at t'.turns walk'))) c
            ∙ ap (λ (q : Place). nodes_on (clashes b) (tally.left - 1) (search_of b (tally.total + 1) q)) (v b w).0
            ∙ ap (λ (q : Place). nodes_on (clashes b) (tally.left - 1) (search_of b (tally.total + 1) (next (clashes b) b q))) (sym (place_back b tally.total t.turns walk w.stands.path))
            ∙ ap (nodes_on (clashes b) (tally.left - 1)) (sym (node_is b tally.total (place_at t.turns walk)))
            ∙ sym (nodes_one (clashes b) (search_of b tally.total (place_at t.turns walk)) tally.left h (ended_is b tally.total t.turns walk e)) ∙ (g.1 b w₀).1

    -- the nodes are over, since the search has ended or the budget is used
    abbrev Over : Batch → Type 0
    Over b = (search_of b tally.total (place_at t.turns walk) ≡ nodes_on (clashes b) tally₀.left (search_of b tally₀.total (place_at t₀.turns walk₀))) × Path t.turns walk.depth

    pub stops : (b : Batch) → Works b kit t₀ walk₀ → (walk.ended ≡ true) → Over b
    stops b w₀ e = (sym (nodes_over (clashes b) (search_of b tally.total (place_at t.turns walk)) tally.left (ended_is b tally.total t.turns walk e)) ∙ (g.1 b w₀).1, (g.1 b w₀).0.stands.path)

    pub used_up : (b : Batch) → Works b kit t₀ walk₀ → (tally.left ≤ 0) → Over b
    used_up b w₀ e = (sym (nodes_none (clashes b) (search_of b tally.total (place_at t.turns walk)) tally.left e) ∙ (g.1 b w₀).1, (g.1 b w₀).0.stands.path)
