-- `batch::ticks_pass` meets its contract: `all` tests each of the first n jobs.
use mathlib.Core.Path.{◌∙◌}
use native.Mathlib.Omega.{arith}
use lib.ListN.{take}
use Rattle.std.proofs.Common.{rules, tests}
use Rattle.std.proofs.lemmas.Iterator.{YieldsList-from_slice}
use Rattle.std.proofs.lemmas.Iterator.Search.{all_from_yields_List}
use Rattle.model.specs.declared.Job.{Job}
use Rattle.model.specs.Open.{ticks_ok}
use Rattle.batch_limits.proofs.LimitLaws.{all_ticks}
use Rattle.batch_limits.proofs.batch.ticks_pass.Goals as goal

pub returns : goal.returns
returns c =
    let b = c.args.batch in
    all_from_yields_List (λ (j : Job). ticks_ok j.ticks) _ _ _ c.all.ensures.ran (YieldsList-from_slice (take c.from.result b.jobs) cc) (λ x b q k. search (rules, tests))
    ∙ all_ticks b _ c.from.ensures (omega (arith, c.well_formed.0.1.1.1.1.1.0.1.0.1, c.requires, c.from.ensures))
