-- `planner::run` meets its contract, which is that of `search::run_search`.
use Rattle.planner.proofs.run.Goals as goal

pub returns : goal.returns
returns c = c.run_search.ensures
