-- `planner_c::planner_write_plan` meets its contract: its parts make it up.
use Rattle.model.specs.Text.{plan_text}
use Rattle.planner_c.proofs.CallLaws.{record_written}
use Rattle.planner_c.proofs.planner_write_plan.Goals as goal

pub returns : goal.returns
returns c = record_written plan_text _ _ _ _ _ _ c.from.ensures c.write_plan.ensures c.from-2.ensures
