-- `job_lines::store` meets its contract, by whether there is room.
use borrow.Author.Tests.{lt-ltb, le-ltb}
use Rattle.claims.specs.JobLines.{stored}
use Rattle.claims.proofs.job_lines.store.Goals as goal

pub returns-then-k-lt24 : goal.returns-then-k-lt24
unfolding stored
returns-then-k-lt24 c = rw (lt-ltb _ 24 c.if-k-lt24.true)

pub returns-else-k-lt24 : goal.returns-else-k-lt24
unfolding stored
returns-else-k-lt24 c = rw (le-ltb _ 24 c.if-k-lt24.false)
