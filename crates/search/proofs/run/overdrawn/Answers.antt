-- `run::overdrawn` meets its contract.
use Rattle.search.proofs.RunLaws.{drawn, drawn_ended}
use Rattle.search.proofs.run.overdrawn.Goals as goal

pub returns-then-not-ended : goal.returns-then-not-ended
returns-then-not-ended c = drawn _ _ _ c.if-not-ended.true c.requires

pub returns-else-not-ended : goal.returns-else-not-ended
returns-else-not-ended c = drawn_ended _ _ _ c.if-not-ended.false
