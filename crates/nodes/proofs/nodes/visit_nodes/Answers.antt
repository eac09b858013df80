-- `nodes::visit_nodes` meets its contract. The invariant: the kit and the trail still stand for the batch, and the nodes that are left lead where
-- all of them lead.
use mathlib.Core.Path.{refl}
use borrow.Author.Rules.{rules}
use borrow.Author.Tests.{not-true, not-false}
use Rattle.nodes.proofs.NodesLaws.{counted_less, still_ready, goes_on, stops, used_up}
use Rattle.nodes.proofs.nodes.visit_nodes.Goals as goal

pub loop-tally-init : goal.loop-tally-init
loop-tally-init c = (search rules, λ b w. (w, refl))

pub returns-else-not-walk : goal.returns-else-not-walk
returns-else-not-walk c = λ b w. stops _ _ _ _ _ _ _ c.loop-tally.invariant b w (not-false c.loop-tally.walk.ended c.if-not-walk.false)

pub count_node-requires : goal.count_node-requires
count_node-requires c = (c.loop-tally-test.true, c.loop-tally.invariant.0)

pub visit-walk-requires : goal.visit-walk-requires
visit-walk-requires c = still_ready _ _ _ _ _ _ _ c.loop-tally.invariant c.requires.ready

pub loop-tally-smaller : goal.loop-tally-smaller
loop-tally-smaller c = counted_less _ _ c.count_node.ensures c.loop-tally-test.true

pub loop-tally-preserved : goal.loop-tally-preserved
loop-tally-preserved c = goes_on _ _ _ _ _ _ _ c.loop-tally.invariant _ _ _ c.loop-tally-test.true (not-true c.loop-tally.walk.ended c.if-not-walk.true) c.count_node.ensures c.visit-walk.ensures

pub returns-after-loop-tally : goal.returns-after-loop-tally
returns-after-loop-tally c = λ b w. used_up _ _ _ _ _ _ _ c.loop-tally.invariant b w c.loop-tally-test.false
