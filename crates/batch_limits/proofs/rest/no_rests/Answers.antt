-- `rest::no_rests` meets its contract: `all` tests each station of the array.
use mathlib.Core.Path.{◌∙◌}
use lib.Dec.{eqb}
use Rattle.std.proofs.Common.{rules, tests}
use Rattle.std.proofs.lemmas.Iterator.{YieldsList-from_slice}
use Rattle.std.proofs.lemmas.Iterator.Search.{all_from_yields_List}
use Rattle.batch_limits.proofs.FurtherLaws.{all_unrested}
use Rattle.batch_limits.proofs.rest.no_rests.Goals as goal

pub returns : goal.returns
returns c =
    all_from_yields_List (λ r. eqb r 0) _ _ _ c.all.ensures.ran (YieldsList-from_slice c.args.batch.rests cc) (λ x b q k. search (rules, tests))
    ∙ all_unrested c.args.batch (search rules)
