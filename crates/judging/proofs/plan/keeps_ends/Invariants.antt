-- `plan::keeps_ends` meets its contract. The invariant: the jobs from i on decide.
use mathlib.Core.Path.{◌≡◌}
use lib.ListN.{length}
use Rattle.model.specs.Judge.{keeps_ends}
use Rattle.model.proofs.AllLaws.{all_from}
use Rattle.judging.proofs.PlanLaws.{end_test}
use Rattle.judging.proofs.plan.keeps_ends.Given as goal

abbrev pub invariant-loop-i : goal.invariant-loop-i
invariant-loop-i l = (length l.batch.windows ≡ 24) × (all_from (end_test l.batch l.starts) l.i l.i-end ≡ keeps_ends l.batch l.starts)
