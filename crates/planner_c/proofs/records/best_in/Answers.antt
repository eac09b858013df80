-- `planner_c::records::best_in` meets its contract, by the test of the number.
use borrow.Author.Tests.{eq-eqb, ne_eqb}
use Rattle.planner_c.specs.Records.{best_in}
use Rattle.planner_c.proofs.records.best_in.Goals as goal

pub returns-then-found-eq0 : goal.returns-then-found-eq0
unfolding best_in
returns-then-found-eq0 c = simp (eq-eqb _ _ c.if-found-eq0.true)

pub returns : goal.returns
unfolding best_in
returns c = simp (ne_eqb _ _ c.if-found-eq0.false)
