-- `answer::answered` meets its contract, by the cases of ended and best.
use Rattle.search.proofs.AnswerLaws.{told_spent, told_none, told_plan}
use Rattle.search.proofs.answer.answered.Goals as goal

pub returns-then-not-search : goal.returns-then-not-search
returns-then-not-search c = told_spent _ _ _ _ _ _ c.if-not-search.true

pub returns-in_default : goal.returns-in_default
returns-in_default c = told_none _ _ _ _ _ _ c.if-not-search.false c.in_default.is

pub returns : goal.returns
returns c = told_plan _ _ _ _ _ _ _ c.from.result _ c.if-not-search.false c.in-Some.is c.from.ensures c.give_starts.ensures
