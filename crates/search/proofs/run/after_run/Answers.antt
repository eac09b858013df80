-- `run::after_run` meets its contract: an ended search stays as it is, and so does one that is given no nodes.
use Rattle.search.proofs.RunLaws.{has_room, over, no_nodes}
use Rattle.search.proofs.run.after_run.Goals as goal
use Rattle.search.proofs.run.after_run.Goals.{then-search-via-then-search, then-search-via-else-search+then-budget-eq0}

pub returns-then-search : goal.returns-then-search
returns-then-search c =
    elim c.then-search.branch [
      | then-search-via-then-search w ↦ over _ _ w.if-search.true
      | then-search-via-else-search+then-budget-eq0 w ↦ no_nodes _ _ w.if-budget-eq0.true
    ]

pub advance-requires : goal.advance-requires
advance-requires c = record { search_value = (c.requires.search_value.0, c.if-search.false); budget_bound = has_room _ _ _ c.requires.search_value.1 c.if-search.false; prepared = c.requires.prepared }
