-- `write_ended` writes the text that the definition names for what is best.
use Rattle.writing.proofs.Answers.{text_as_lem, plan_none, plan_some}
use Rattle.writing.proofs.plan_text.write_ended.Goals as goal

pub returns-in-None : goal.returns-in-None
returns-in-None c = text_as_lem _ c.write_no_plan.ensures (plan_none _ _ _ _ c.in-None.is)

pub returns-in-Some : goal.returns-in-Some
returns-in-Some c = text_as_lem _ c.write_found.ensures (plan_some _ _ _ _ c.in-Some.is)
