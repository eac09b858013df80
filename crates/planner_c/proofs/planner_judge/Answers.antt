-- `planner_c::planner_judge` gives the planner's answer as a number.
use mathlib.Core.Path.{ap, ◌∙◌}
use borrow.Author.Rules.{rules}
use Rattle.planner_c.specs.Replies.{judge_number}
use Rattle.planner_c.specs.Calls.{judged_number}
use Rattle.planner_c.proofs.planner_judge.Goals as goal

pub judge-requires : goal.judge-requires
unfolding judged_number
judge-requires c = search rules

pub number_of-requires : goal.number_of-requires
unfolding judged_number
number_of-requires c = search rules

pub returns : goal.returns
unfolding judged_number
returns c = c.number_of.ensures ∙ ap judge_number c.judge.ensures
