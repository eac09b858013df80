-- `planner::write_plan` meets its contract, which is that of `writing::write_plan`.
use Rattle.planner.proofs.write_plan.Goals as goal

pub returns : goal.returns
returns c = c.write_plan.ensures
