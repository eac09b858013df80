-- `in_time` meets its contract. The loop's invariant: `timely` says whether none of the first j starts passes its latest.
use Rattle.times.proofs.EndsLaws.{late_none, late_found, late_more}
use Rattle.times.proofs.ends.in_time.Goals as goal
use Rattle.times.proofs.ends.in_time.Goals.{then-latest-j, else-latest-j}

pub loop-j-init : goal.loop-j-init
loop-j-init c = late_none _ _

pub loop-j-preserved : goal.loop-j-preserved
loop-j-preserved c = elim c.if-latest-j.branch [
  | then-latest-j w ↦ rw w.timely-is (late_found _ _ _ w.if-latest-j.true)
  | else-latest-j w ↦ rw w.timely-is (late_more _ _ _ _ c.loop-j.invariant w.if-latest-j.false)
]
