-- `list::list_clashes` meets its contract. The invariants: what is left of the rows completes the list, and what is left of the jobs after job i
-- completes its row.
use native.Mathlib.Omega.{arith}
use borrow.Author.Rules.{rules}
use Rattle.clashes.proofs.GrowLaws.{grow_none}
use Rattle.clashes.proofs.RowLaws.{job_short, resting, row_more, row_end, list_more, list_end}
use Rattle.clashes.proofs.list.list_clashes.Goals as goal

pub rested-rests-requires : goal.rested-rests-requires
rested-rests-requires c = resting _ c.requires.tabled

pub loop-i-init : goal.loop-i-init
loop-i-init c = grow_none _ _ _ _ _ _ (search rules) (search rules)

pub widened-first-requires : goal.widened-first-requires
widened-first-requires c = (job_short _ c.requires.tabled _ (search rules), c.rested-rests.ensures.longest.most)

pub loop-j-init : goal.loop-j-init
loop-j-init c = grow_none _ _ _ _ _ _ (search rules) (search rules)

pub add_pair-requires-clause-low_bound : goal.add_pair-requires-clause-low_bound
add_pair-requires-clause-low_bound c = let w = c.widened-first.ensures in
    let most = c.rested-rests.ensures.longest.most in
    let short = job_short _ c.requires.tabled in
    let first = short c.loop-i.i (search rules) in
    (omega (arith, w.low), (omega (arith, w.end), (omega (arith, w.end), short _ (search rules))))

-- one job more
pub loop-j-preserved : goal.loop-j-preserved
loop-j-preserved c = let w = c.widened-first.ensures in
    let rests = c.rested-rests.ensures in
    row_more _ c.requires.tabled _ _ _ _ _ _ _ _ _ (search rules) rests.longest w.low w.end (w.widens _ rests) c.loop-j.invariant (search rules) c.add_pair.ensures

-- one row more
pub loop-i-preserved : goal.loop-i-preserved
loop-i-preserved c = list_more _ _ _ _ _ c.loop-i.invariant (search rules) (row_end _ c.requires.tabled _ _ _ _ c.loop-j.invariant (search rules))

pub returns : goal.returns
returns c = list_end _ _ c.requires.codes_value _ _ c.loop-i.invariant (search rules)
