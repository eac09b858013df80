-- `plan_text` meets its contract: a file opens and is searched, or its refusal is the text.
use Rattle.plan.proofs.TextLaws.{text_opened, text_closed}
use Rattle.plan.proofs.text.plan_text.Goals as goal

pub returns-in-Ok : goal.returns-in-Ok
returns-in-Ok c = text_opened _ _ c.open-opened.ensures c.in-Ok.is _ _ _ c.searched.ensures

pub returns-in-Err : goal.returns-in-Err
returns-in-Err c = text_closed _ _ c.open-opened.ensures _ c.in-Err.is _ _ _ c.refused.ensures
