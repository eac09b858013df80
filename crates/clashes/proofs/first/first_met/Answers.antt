-- `first::first_met` meets its contract. The invariant: the first that is met from code k on is the first of all.
use mathlib.Core.Path.{◌∙◌}
use borrow.Author.Rules.{rules}
use Rattle.clashes.proofs.FirstLaws.{first_found, first_more, first_end, first_rest}
use Rattle.clashes.proofs.first.first_met.Goals as goal

-- none is met before low
pub loop-k-init : goal.loop-k-init
loop-k-init c = (search rules, first_rest _ _ _ _ (search rules) c.requires.unmet)

pub is_met-requires : goal.is_met-requires
is_met-requires c = c.requires.known.each _ (search rules)

pub returns-then-is_met : goal.returns-then-is_met
returns-then-is_met c = first_found _ _ _ _ _ (search rules) c.is_met.ensures c.if-is_met.true
    ∙ c.loop-k.invariant.1

pub loop-k-preserved : goal.loop-k-preserved
loop-k-preserved c = (
  search rules,
  first_more _ _ _ _ _ (search rules) c.is_met.ensures c.if-is_met.false
      ∙ c.loop-k.invariant.1,
)

pub returns : goal.returns
returns c = first_end _ _ _ _ (search rules) ∙ c.loop-k.invariant.1
