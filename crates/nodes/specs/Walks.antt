-- What the nodes of a run come to.
use Rattle.std.specs.Prelude.{◌≡◌}
use Rattle.model.specs.declared.Batch.{Batch}
use Rattle.model.specs.declared.Tally.{Tally}
use Rattle.model.specs.Clash.{clashes}
use Rattle.model.specs.Search.{search_of, nodes_on}
use Rattle.node.specs.declared.kit.Kit.{Kit}
use Rattle.node.specs.declared.kit.Trail.{Trail}
use Rattle.node.specs.declared.kit.Walk.{Walk}
use Rattle.node.specs.Walk.{Path, place_at}
use Rattle.node.specs.Kit.{Works}
use Rattle.nodes.specs.declared.nodes.Walked.{Walked}

-- whatever batch they stand for, the record at the new trail is the one that the tally's nodes reach
abbrev pub Walks : Kit → Trail → Walk → Tally → Trail → Walked → Type 0
Walks kit t walk tally t' r =
    (b : Batch) → Works b kit t walk
    → (search_of b r.tally.total (place_at t'.turns r.walk) ≡ nodes_on (clashes b) tally.left (search_of b tally.total (place_at t.turns walk)))
    × Path t'.turns r.walk.depth
