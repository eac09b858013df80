-- `visit::reach` meets its contract: a node that is at best's bound already goes back at once, and another where its rounds say so.
use native.Mathlib.Omega.{arith}
use Rattle.starts.proofs.TakeLaws.{placed_take}
use Rattle.node.proofs.ReachLaws.{begun_latency, begun_long, gone_at_once, reaches}
use Rattle.node.proofs.WorksLaws.{counts, small_stays, bound_small, delays_room, delays_placed, turns_room, turns_placed}
use Rattle.node.proofs.visit.reach.Goals as goal

pub begin-low-requires : goal.begin-low-requires
begin-low-requires c = let w = c.requires.1 in record { depth_bound = (w.stands.path.deep, turns_placed _ _ _ _ w); small = (small_stays _ _ _ _ w, w.stands.kept.small) }

-- at best's bound already
pub returns-then-bound-low : goal.returns-then-bound-low
returns-then-bound-low c = λ b w. gone_at_once b _ _ _ w _ c.begin-low.ensures (omega (arith, c.bound_of-bound.ensures, c.if-bound-low.true))

-- the delays are within their array
pub shared_ref_as_front-least_starts : goal.shared_ref_as_front-least_starts
shared_ref_as_front-least_starts c = let w = c.requires.1 in omega (arith, (counts _ _ _ _ w).2, w.few)

pub least_starts-requires : goal.least_starts-requires
least_starts-requires c = let w = c.requires.1 in let n = counts _ _ _ _ w in record {
  n_bound = omega (arith, n.1, w.jobs);
  placed = placed_take _ _ (delays_room _ _ _ _ w) (delays_placed _ _ _ _ w);
  placed_2 = placed_take _ _ (turns_room _ _ _ _ w) (turns_placed _ _ _ _ w);
  small = (small_stays _ _ _ _ w, begun_long _ _ _ _ w _ c.begin-low.ensures);
  latency_value = (
    begun_latency _ _ _ _ w _ c.begin-low.ensures,
    (omega (arith, c.if-bound-low.false), omega (arith, bound_small _ _ _ _ w, c.bound_of-bound.ensures)),
  );
}

pub returns-then-not-least_starts : goal.returns-then-not-least_starts
returns-then-not-least_starts c = λ b w.
    (reaches b _ _ _ w _ c.begin-low.ensures _ c.bound_of-bound.ensures (omega (arith, c.if-bound-low.false)) _ c.least_starts.ensures).1 c.if-not-least_starts.true

pub returns : goal.returns
returns c = λ b w.
    (reaches b _ _ _ w _ c.begin-low.ensures _ c.bound_of-bound.ensures (omega (arith, c.if-bound-low.false)) _ c.least_starts.ensures).0 c.if-not-least_starts.false
