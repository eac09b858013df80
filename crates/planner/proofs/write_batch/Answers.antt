-- `planner::write_batch` meets its contract, which is that of `writing::write_batch`.
use Rattle.planner.proofs.write_batch.Goals as goal

pub returns : goal.returns
returns c = c.write_batch.ensures
