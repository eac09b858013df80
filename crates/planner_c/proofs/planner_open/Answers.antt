-- `planner_c::planner_open` meets its contract: the number and the record, by the cases of the answer.
use mathlib.Core.Path.{ap, sym, ◌∙◌}
use Rattle.planner_c.specs.Replies.{number_of}
use Rattle.planner_c.specs.Calls.{record_opened}
use Rattle.planner_c.proofs.CallLaws.{record_opened_lem}
use Rattle.planner_c.proofs.planner_open.Goals as goal

pub returns-in-Ok : goal.returns-in-Ok
unfolding number_of record_opened
returns-in-Ok c = record_opened_lem _ _ c.open-opened.result _ _ c.open-opened.ensures (sym (ap number_of c.in-Ok.is)) (rw c.in-Ok.is c.from.ensures)

pub returns-in-Err : goal.returns-in-Err
unfolding number_of record_opened
returns-in-Err c = record_opened_lem _ _ c.open-opened.result _ _ c.open-opened.ensures (c.number.ensures ∙ sym (ap number_of c.in-Err.is)) (rw c.in-Err.is)
