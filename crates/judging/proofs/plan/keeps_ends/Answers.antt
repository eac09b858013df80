-- `plan::keeps_ends` meets its contract. The invariant: the jobs from i on decide.
use mathlib.Core.Path.{ap}
use mathlib.Core.Bool.{not}
use native.Mathlib.Omega.{arith}
use borrow.Author.Rules.{rules}
use Rattle.model.proofs.AllLaws.{all_ended}
use Rattle.judging.proofs.PlanLaws.{test_more, test_not, ends_all, end_told}
use Rattle.judging.proofs.plan.keeps_ends.Goals as goal

pub loop-i-init : goal.loop-i-init
loop-i-init c = (search rules, ends_all _ _ _ c.from-i-end.ensures)

-- a start is outside
pub returns-then-not-is_within : goal.returns-then-not-is_within
returns-then-not-is_within c = test_not _ _ _ _ c.loop-i.invariant.1 c.loop-i-test.true _ (end_told _ _ _ _ (omega arith) c.is_within.ensures) (ap not c.if-not-is_within.true)

pub loop-i-preserved : goal.loop-i-preserved
loop-i-preserved c = (c.loop-i.invariant.0, test_more _ _ _ _ c.loop-i.invariant.1 c.loop-i-test.true _ (end_told _ _ _ _ (omega arith) c.is_within.ensures) (ap not c.if-not-is_within.false))

pub returns : goal.returns
returns c = all_ended _ _ _ _ c.loop-i.invariant.1 c.loop-i-test.false
