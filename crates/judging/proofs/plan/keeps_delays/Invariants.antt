-- `plan::keeps_delays` meets its contract. The invariant: the delays that are left decide.
use mathlib.Core.Path.{◌≡◌}
use lib.ListN.{length}
use Rattle.model.proofs.AllLaws.{all_from}
use Rattle.judging.proofs.PlanLaws.{kept_test}
use Rattle.judging.proofs.plan.keeps_delays.Given as goal

abbrev pub invariant-loop-q : goal.invariant-loop-q
invariant-loop-q l = all_from (kept_test l.starts l.q-items) l.q-index (length l.q-items) ≡ all_from (kept_test l.starts l.q-items) 0 (length l.q-items)
