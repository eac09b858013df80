-- `planner::judge` meets its contract, which is that of `judging::judge_file`.
use Rattle.planner.proofs.judge.Goals as goal

pub returns : goal.returns
returns c = c.judge_file.ensures
