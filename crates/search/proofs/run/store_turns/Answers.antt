-- `run::store_turns` meets its contract. The invariant: the inequalities of the first k turns are stored.
use mathlib.Core.Path.{◌≡◌, refl}
use native.Mathlib.Omega.{arith}
use Rattle.node.proofs.StepsLaws.{steps_more}
use Rattle.search.proofs.run.store_turns.Goals as goal

pub loop-k-init : goal.loop-k-init
loop-k-init c = c.requires.none_yet

-- the turn is on a clash below 1,024, and its code names jobs
pub bounds-codes-from : goal.bounds-codes-from
bounds-codes-from c = omega (arith, c.from.ensures, c.requires.path.0.small c.loop-k.k c.loop-k-test.true)

pub turn_inequality-requires : goal.turn_inequality-requires
turn_inequality-requires c = rw c.from.ensures (c.requires.path.1.named c.loop-k.k c.loop-k-test.true)

-- one turn more
pub loop-k-preserved : goal.loop-k-preserved
loop-k-preserved c = steps_more _ _ _ _ _ _ _ c.loop-k.invariant (omega (arith, c.loop-k-test.true, c.requires.path.0.deep)) refl c.from.ensures c.turn_inequality.ensures

pub returns : goal.returns
returns c = let h : c.loop-k.k ≡ c.args.depth = omega arith in rw (← h) c.loop-k.invariant
