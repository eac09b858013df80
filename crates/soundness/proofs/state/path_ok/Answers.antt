-- `state::path_ok` meets its contract.
use mathlib.Core.Path.{refl, ap, sym, ◌∙◌}
use mathlib.Core.Bool.{not}
use borrow.Author.Rules.{rules}
use Rattle.soundness.proofs.StateLaws.{path_rest}
use Rattle.soundness.proofs.state.path_ok.Goals as goal

pub returns-then-not-search : goal.returns-then-not-search
returns-then-not-search c = ap not c.if-not-search.true
    ∙ path_rest c.args.search.now _ c.requires (search rules) _ (sym c.if-rest_empty.true ∙ c.rest_empty.ensures) _ c.if-not-search.true

pub returns-else-not-search : goal.returns-else-not-search
returns-else-not-search c = path_rest c.args.search.now _ c.requires (search rules) _ (sym c.if-rest_empty.true ∙ c.rest_empty.ensures) _ c.if-not-search.false

pub returns-else-rest_empty : goal.returns-else-rest_empty
returns-else-rest_empty c = c.if-rest_empty.false
    ∙ path_rest c.args.search.now _ c.requires (search rules) _ (sym c.if-rest_empty.false ∙ c.rest_empty.ensures) _ refl
