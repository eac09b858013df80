-- `rest::rests_pass` meets its contract: `all` tests each station of the array.
use mathlib.Core.Path.{◌∙◌}
use lib.Dec.{leb}
use Rattle.std.proofs.Common.{rules, tests}
use Rattle.std.proofs.lemmas.Iterator.{YieldsList-from_slice}
use Rattle.std.proofs.lemmas.Iterator.Search.{all_from_yields_List}
use Rattle.model.specs.Limits.{most_rest}
use Rattle.batch_limits.proofs.FurtherLaws.{all_rests}
use Rattle.batch_limits.proofs.rest.rests_pass.Goals as goal

pub returns : goal.returns
returns c =
    all_from_yields_List (λ r. leb r most_rest) _ _ _ c.all.ensures.ran (YieldsList-from_slice c.args.batch.rests cc) (λ x b q k. search (rules, tests))
    ∙ all_rests c.args.batch (search rules)
