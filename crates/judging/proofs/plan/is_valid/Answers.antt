-- `plan::is_valid` asks the ends only where the delays are kept, and the clashes only where the ends are.
use native.Mathlib.Omega.{arith}
use Rattle.std.proofs.lemmas.Grind.{common_steps}
use Rattle.model.specs.Judge.{valid}
use Rattle.judging.proofs.plan.is_valid.Goals as goal

pub returns-then-keeps_ends : goal.returns-then-keeps_ends
unfolding valid
returns-then-keeps_ends c = grind (arith, common_steps)

pub returns-else-keeps_ends : goal.returns-else-keeps_ends
unfolding valid
returns-else-keeps_ends c = grind (arith, common_steps)
