-- `plan_lines` meets its contract: the plan text fits, so it is written or refused as such.
use Rattle.plan.proofs.TextLaws.{wrote_text, wrote_nothing}
use Rattle.plan.proofs.text.plan_lines.Goals as goal

pub returns-in-Ok : goal.returns-in-Ok
returns-in-Ok c = wrote_text _ _ c.requires _ _ c.write_plan.ensures _ c.in-Ok.is

pub returns-in-Err : goal.returns-in-Err
returns-in-Err c = wrote_nothing _ _ c.requires _ _ c.write_plan.ensures _ c.in-Err.is _ _ c.refused.ensures
