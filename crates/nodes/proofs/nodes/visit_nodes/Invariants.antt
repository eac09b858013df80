-- `nodes::visit_nodes` meets its contract. The invariant: the kit and the trail still stand for the batch, and the nodes that are left lead where
-- all of them lead.
use Rattle.nodes.proofs.NodesLaws.{Going}
use Rattle.nodes.proofs.nodes.visit_nodes.Given as goal

abbrev pub invariant-loop-tally : goal.invariant-loop-tally
invariant-loop-tally l = Going l.kit l.initial.trail l.initial.walk l.initial.tally l.trail l.walk l.tally

abbrev pub decreases-loop-tally : goal.decreases-loop-tally
decreases-loop-tally l = l.tally.left
