-- `plan::is_within` asks both ends.
use borrow.Author.Tests.{le-leb, lt-leb}
use Rattle.model.specs.Common.{between}
use Rattle.judging.proofs.plan.is_within.Goals as goal

pub returns-then-window-start : goal.returns-then-window-start
unfolding between
returns-then-window-start c = simp (le-leb _ _ c.if-window-start.true)

pub returns-else-window-start : goal.returns-else-window-start
unfolding between
returns-else-window-start c = simp (lt-leb _ _ c.if-window-start.false)
