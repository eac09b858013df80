-- `pairs::unmet` meets its contract. The invariant: of whatever codes these are the pairs, the starts meet none of those before pair q.
use borrow.Author.Rules.{rules}
use Rattle.pairs.proofs.PassedLaws.{passed_none, passed_more, passed_end}
use Rattle.pairs.proofs.pairs.unmet.Goals as goal

pub loop-q-init : goal.loop-q-init
loop-q-init c = passed_none _ _

-- the pair has the bit of its starts: what is passed before it
pub returns-then-pairs-q-eq1 : goal.returns-then-pairs-q-eq1
returns-then-pairs-q-eq1 c = passed_end _ _ _ _ c.loop-q.invariant

-- it has not, so none of its codes is met
pub loop-q-preserved : goal.loop-q-preserved
loop-q-preserved c =
    passed_more _ _ _ _ _ _ _ _ _ c.loop-q.invariant (search rules) c.from-x.ensures c.from.ensures c.from-in-loop-q.ensures c.bit_of-at.ensures
    c.if-pairs-q-eq1.false
    c.from-low.ensures

pub returns : goal.returns
returns c = passed_end _ _ _ _ c.loop-q.invariant
