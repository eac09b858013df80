-- Going back over the arrays is going back of the definitions.
use Prim.Native.Nat.{ℕ, ◌+◌, ◌/◌}
use mathlib.Core.Path.{◌≡◌, refl, ap, ◌∙◌}
use mathlib.Core.Bool.{true, false}
use mathlib.Core.List.{List, []}
use mathlib.Core.Option.{some}
use native.Mathlib.Omega.{arith}
use native.Mathlib.Numerals.{add-one}
use lib.ListN.{get_or, set}
use Rattle.std.specs.Prelude.{None, Some}
use Rattle.std.specs.Option.{unwrap_or}
use Rattle.model.specs.Best.{Best}
use Rattle.model.specs.Common.{count}
use Rattle.model.specs.Search.{turned_back, back_to, back}
use Rattle.weights.specs.declared.Inequality.{Inequality}
use Rattle.weights.specs.Turn.{turn_inequality}
use Rattle.node.specs.declared.kit.Kit.{Kit}
use Rattle.node.specs.declared.kit.Trail.{Trail}
use Rattle.node.specs.declared.kit.Walk.{Walk}
use Rattle.node.specs.Walk.{turns_in, Path, Kin, Steps, back_as, bound_of, incumbent, place_at}
use Rattle.node.specs.Kit.{Returned}
use Rattle.node.proofs.StepsLaws.{steps_more, steps_less}

empty_turns : (turns : List ℕ) → turns_in turns 0 ≡ []
unfolding turns_in count
empty_turns turns = refl

-- some turns are left
some_left : (turns : List ℕ) (last : ℕ) → some (turns_in turns (last + 1)) ≡ back_as turns (last + 1)
unfolding back_as
some_left turns last = rw (add-one last) refl

module _ (kit : Kit) (t : Trail) (walk : Walk) (s : Steps kit.clashes.codes t.turns walk.depth t.steps) (turns : List ℕ) where
  -- the trail with these turns
  abbrev with_turns : Trail
  with_turns = record { turns = turns; steps = t.steps; rows = t.rows }

  -- no turn is left
  back_ended : back_as turns 0 ≡ turned_back (turns_in t.turns walk.depth)
      → place_at turns (record { depth = 0; best = walk.best; starts = walk.starts; ended = true }) ≡ back (turns_in t.turns walk.depth) (incumbent walk.best walk.starts)
  unfolding place_at back back_to back_as
  back_ended e = rw (empty_turns turns) (ap (back_to (incumbent walk.best walk.starts)) e)

  pub returned_ended : (back_as turns 0 ≡ turned_back (turns_in t.turns walk.depth)) × (Path turns 0 × Kin t.turns walk.depth turns 0)
      → Returned kit t walk with_turns (record { depth = 0; best = walk.best; starts = walk.starts; ended = true })
  returned_ended g =
      record {
        place = back_ended g.0;
        path = g.1.0;
        kin = g.1.1;
        steps = steps_less kit.clashes.codes t.turns turns t.steps walk.depth 0 s g.1.1.less (λ i l. absurd (omega arith));
        rows = refl;
      }

  -- one that is set to side 1 is the last
  module _ (last : ℕ) (g : (back_as turns (last + 1) ≡ turned_back (turns_in t.turns walk.depth)) × (Path turns (last + 1) × Kin t.turns walk.depth turns (last + 1))) where
    back_on : place_at turns (record { depth = last + 1; best = walk.best; starts = walk.starts; ended = false }) ≡ back (turns_in t.turns walk.depth) (incumbent walk.best walk.starts)
    unfolding place_at back back_to
    back_on = ap (back_to (incumbent walk.best walk.starts)) (some_left turns last) ∙ ap (back_to (incumbent walk.best walk.starts)) g.0

    pub returned_on : (c x : ℕ) (v : Inequality) → x ≡ get_or turns last 0 → c ≡ x / 2
        → v ≡ turn_inequality (get_or kit.clashes.codes c 0) x
        → Returned kit t walk (record { turns = turns; steps = set t.steps last v; rows = t.rows }) (record { depth = last + 1; best = walk.best; starts = walk.starts; ended = false })
    returned_on c x v q r f =
        record {
          place = back_on;
          path = g.1.0;
          kin = g.1.1;
          steps =
              steps_more kit.clashes.codes turns t.steps last c x v
              (steps_less kit.clashes.codes t.turns turns t.steps walk.depth last s (omega (arith, g.1.1.less)) (λ i l. g.1.1.same i (omega arith)))
              (omega (arith, g.1.0.deep)) q r f;
          rows = refl;
        }

-- the bound of best
pub bound_is : (best : Best) → unwrap_or best 43017 ≡ bound_of best
unfolding bound_of
bound_is None = refl
bound_is (Some k) = refl
