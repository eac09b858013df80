-- `planner::open` meets its contract, which is that of `opening::open_file`.
use Rattle.planner.proofs.open.Goals as goal

pub returns : goal.returns
returns c = c.open_file.ensures
