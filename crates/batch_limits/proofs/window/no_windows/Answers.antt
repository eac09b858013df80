-- `window::no_windows` meets its contract: `all` tests each of the first n jobs.
use mathlib.Core.Path.{◌∙◌}
use lib.Dec.{eqb}
use native.Mathlib.Omega.{arith}
use lib.ListN.{take}
use Rattle.std.proofs.Common.{rules, tests}
use Rattle.std.proofs.lemmas.Iterator.{YieldsList-from_slice}
use Rattle.std.proofs.lemmas.Iterator.Search.{all_from_yields_List}
use Rattle.model.specs.declared.Window.{Window}
use Rattle.batch_limits.proofs.FurtherLaws.{all_unlined}
use Rattle.batch_limits.proofs.window.no_windows.Goals as goal

pub returns : goal.returns
returns c =
    let b = c.args.batch in
    all_from_yields_List (λ (w : Window). eqb w.lined 0) _ _ _ c.all.ensures.ran (YieldsList-from_slice (take c.from.result b.windows) cc) (λ x b q k. search (rules, tests))
    ∙ all_unlined b _ c.from.ensures (omega (arith, c.well_formed.0.1.1.1.1.1.1.1.0.1.0.1, c.requires, c.from.ensures))
