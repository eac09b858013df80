-- `round` meets its contract. The loop's invariant: the places are those after 4 * q rows, each sum from the old starts.
use native.Mathlib.Omega.{arith}
use mathlib.Core.Path.{◌≡◌, refl}
use Rattle.rounds.proofs.RoundLaws.{raised_none, raised_more, round_is}
use Rattle.rounds.proofs.rounds.round.Goals as goal

pub loop-q-init : goal.loop-q-init
loop-q-init c = raised_none _ _

pub loop-q-preserved : goal.loop-q-preserved
loop-q-preserved c = raised_more _ _ _ _ _ _ c.loop-q.invariant refl c.raised-new.ensures

pub returns : goal.returns
returns c = let h : c.loop-q.q ≡ c.args.fours = omega arith in
    round_is _ _ _ _ _ _ c.lifted-high.ensures (rw (← h) c.loop-q.invariant) c.highest.ensures
