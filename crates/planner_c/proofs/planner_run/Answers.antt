-- `planner_c::planner_run` meets its contract: its parts make it up, and the record is stored where the run is answered.
use mathlib.Core.Path.{◌≡◌, ◌∙◌}
use Rattle.planner_c.specs.Calls.{record_after}
use Rattle.planner_c.proofs.CallLaws.{record_ran, stored}
use Rattle.planner_c.proofs.planner_run.Goals as goal
use Rattle.planner_c.proofs.planner_run.Goals.{in-Refused, in-Spent}

pub returns : goal.returns
unfolding record_after
returns c = let after = elim c.match-ran.branch as (λ x. c.match-ran.state ≡ record_after c.args.state.now c.run-ran.result.answer c.run-ran.result.search) [
  | in-Refused w ↦ rw w.in-Refused.is w.state-is
  | in-Spent w ↦ w.state-is ∙ w.from-in-Spent.ensures ∙ stored c.args.state.now c.run-ran.result.answer c.run-ran.result.search w.in-Spent.is
] in
    record_ran _ _ _ _ _ _ _ _ c.from.ensures c.run-ran.ensures c.from-2.ensures after
