-- `planner_c::planner_write_batch` meets its contract: its parts make it up.
use Rattle.model.specs.Text.{batch_text}
use Rattle.planner_c.proofs.CallLaws.{record_written}
use Rattle.planner_c.proofs.planner_write_batch.Goals as goal

pub returns : goal.returns
returns c = record_written batch_text _ _ _ _ _ _ c.from.ensures c.write_batch.ensures c.from-2.ensures
