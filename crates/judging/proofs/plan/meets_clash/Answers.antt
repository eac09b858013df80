-- `plan::meets_clash` lists the clashes and asks for the first that is met.
use mathlib.Core.Path.{refl}
use Rattle.opening.proofs.WithinLaws.{within_tabled}
use Rattle.judging.proofs.PlanLaws.{clashes_fit, clash_told}
use Rattle.judging.proofs.plan.meets_clash.Goals as goal

pub list_clashes-requires : goal.list_clashes-requires
list_clashes-requires c = record { tabled = within_tabled _ c.requires.0; codes_value = refl }

pub first_met-requires : goal.first_met-requires
first_met-requires c = let fit = clashes_fit _ c.requires.0 c.requires.1 _ c.list_clashes.ensures c.args.starts.now in record { low_le_count = fit.0; known = fit.1.0; unmet = fit.1.1 }

pub returns : goal.returns
returns c = rw (c.is_some.ensures, c.first_met.ensures) (clash_told _ c.requires.0 c.requires.1 _ c.list_clashes.ensures c.args.starts.now)
