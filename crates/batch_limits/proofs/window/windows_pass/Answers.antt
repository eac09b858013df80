-- `window::windows_pass` meets its contract: `all` tests each of the first n jobs.
use mathlib.Core.Path.{◌∙◌}
use native.Mathlib.Omega.{arith}
use lib.ListN.{take}
use Rattle.std.proofs.Common.{rules, tests}
use Rattle.std.proofs.lemmas.Iterator.{YieldsList-from_slice}
use Rattle.std.proofs.lemmas.Iterator.Search.{all_from_yields_List}
use Rattle.batch_limits.specs.Further.{ends_pass}
use Rattle.batch_limits.proofs.FurtherLaws.{all_ends}
use Rattle.batch_limits.proofs.window.windows_pass.Goals as goal

pub returns : goal.returns
returns c =
    let b = c.args.batch in
    all_from_yields_List ends_pass _ _ _ c.all.ensures.ran (YieldsList-from_slice (take c.from.result b.windows) cc) (λ x b q k. search (rules, tests))
    ∙ all_ends b _ c.from.ensures (omega (arith, c.well_formed.0.1.1.1.1.1.1.1.0.1.0.1, c.requires, c.from.ensures))
