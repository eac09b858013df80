-- `visit::visit` meets its contract: in each case its answer is the next place of whatever batch the kit and the trail stand for.
use mathlib.Core.Path.{refl, sym, ◌∙◌}
use native.Mathlib.Omega.{arith}
use Rattle.node.proofs.WorksLaws.{coded_turns}
use Rattle.node.proofs.VisitLaws.{unmet_asks, met_asks, stands_back, visit_best, met_room, met_coded, visit_met, stands_more}
use Rattle.node.proofs.visit.visit.Goals as goal

pub gone_back-requires : goal.gone_back-requires
gone_back-requires c = let w = c.requires.1 in record { path = (w.stands.path, coded_turns _ _ _ _ w); steps = w.stands.steps }

-- no least starts below best
pub returns-in_default : goal.returns-in_default
returns-in_default c = λ b w. (c.gone_back.ensures.place ∙ sym (c.in_default.ensures b w), stands_back b _ _ _ w _ _ _ refl c.gone_back.ensures)

pub unmet-low-requires : goal.unmet-low-requires
unmet-low-requires c = unmet_asks _ _ _ _ c.requires.1

pub first_met-met-requires : goal.first_met-met-requires
first_met-met-requires c = let m = met_asks _ _ _ _ c.requires.1 _ _ c.unmet-low.ensures in record { low_le_count = m.0; known = m.1.0; unmet = m.1.1 }

pub gone_back-requires-in_default-met : goal.gone_back-requires-in_default-met
gone_back-requires-in_default-met c = let w = c.requires.1 in record { path = (w.stands.path, coded_turns _ _ _ _ w); steps = w.stands.steps }

-- no clash is met
pub returns-in_default-met : goal.returns-in_default-met
returns-in_default-met c = λ b w. (
  visit_best b _ _ _ w _ (c.in-Some.ensures b w) _ c.first_met-met.ensures _ c.in_default-met.is c.gone_back-in_default-met.ensures.place,
  stands_back b _ _ _ w _ _ _ refl c.gone_back-in_default-met.ensures,
)

-- a clash is met
pub overflow_mul-turn : goal.overflow_mul-turn
overflow_mul-turn c = let w = c.requires.1 in
    omega (arith, (met_room _ _ _ _ w _ (c.in-Some.ensures _ w) _ c.first_met-met.ensures _ c.in-Some-met.is).0)

pub bounds-kit-from : goal.bounds-kit-from
bounds-kit-from c = let w = c.requires.1 in
    omega (arith, c.from.ensures, (met_room _ _ _ _ w _ (c.in-Some.ensures _ w) _ c.first_met-met.ensures _ c.in-Some-met.is).0)

pub offset_bounds-trail-depth : goal.offset_bounds-trail-depth
offset_bounds-trail-depth c = let w = c.requires.1 in
    record { fits = omega (arith, (met_room _ _ _ _ w _ (c.in-Some.ensures _ w) _ c.first_met-met.ensures _ c.in-Some-met.is).1) }

pub bounds-trail-depth : goal.bounds-trail-depth
bounds-trail-depth c = let w = c.requires.1 in
    (met_room _ _ _ _ w _ (c.in-Some.ensures _ w) _ c.first_met-met.ensures _ c.in-Some-met.is).1

pub bounds-trail-depth-2 : goal.bounds-trail-depth-2
bounds-trail-depth-2 c = let w = c.requires.1 in
    (met_room _ _ _ _ w _ (c.in-Some.ensures _ w) _ c.first_met-met.ensures _ c.in-Some-met.is).1

pub turn_inequality-requires : goal.turn_inequality-requires
turn_inequality-requires c = let w = c.requires.1 in
    rw c.from.ensures (met_coded _ _ _ _ w _ (c.in-Some.ensures _ w) _ c.first_met-met.ensures _ c.in-Some-met.is)

pub overflow_cast-trail : goal.overflow_cast-trail
overflow_cast-trail c = let w = c.requires.1 in
    omega (arith, (met_room _ _ _ _ w _ (c.in-Some.ensures _ w) _ c.first_met-met.ensures _ c.in-Some-met.is).1)

pub overflow_add-result : goal.overflow_add-result
overflow_add-result c = let w = c.requires.1 in
    omega (arith, (met_room _ _ _ _ w _ (c.in-Some.ensures _ w) _ c.first_met-met.ensures _ c.in-Some-met.is).1)

pub returns : goal.returns
returns c = let f = c.first_met-met.ensures in
    let k = c.in-Some-met.is in λ b w.
    let l = c.in-Some.ensures b w in (
      visit_met b _ _ _ w _ l _ f _ k,
      stands_more b _ _ _ w _ l _ f _ k _ _ _ _ c.from.ensures refl refl c.turn_inequality.ensures,
    )
