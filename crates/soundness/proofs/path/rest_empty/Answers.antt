-- `path::rest_empty` meets its contract.
use Rattle.std.proofs.Common.{rules, true, ◌&&◌, not, ◌∙◌}
use Rattle.std.proofs.lemmas.Iterator.{YieldsList-from_slice}
use Rattle.std.proofs.lemmas.Iterator.Consumers.{YieldsList-from_copied, fold_from_yields_List}
use Rattle.model.specs.Search.{is_turn}
use Rattle.soundness.proofs.RestLaws.{rest_folded}
use Rattle.soundness.proofs.path.rest_empty.Goals as goal

pub returns : goal.returns
returns c =
    fold_from_yields_List _ (λ b t. b && not (is_turn t)) true _ c.fold.ensures.ran (YieldsList-from_copied (YieldsList-from_slice c.args.rest.now cc)) (λ a x b q k. search rules)
    ∙ rest_folded c.args.rest.now
