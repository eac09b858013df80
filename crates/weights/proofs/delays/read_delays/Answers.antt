-- `read_delays` meets its contract: the delays of the columns are the batch's, and in each turn those below k have passed and are coded, and those from k on decide.
use Rattle.weights.proofs.CodeLaws.{limited_fits, told_limited, told_coded}
use Rattle.weights.proofs.DelaysLaws.{read_none, read_limited, read_more, read_failed, read_all, read_not}
use Rattle.weights.proofs.delays.read_delays.Goals as goal

pub loop-k-init : goal.loop-k-init
loop-k-init c = read_none _ _ _

-- delay k fails
pub returns-then-not-delay_ok : goal.returns-then-not-delay_ok
returns-then-not-delay_ok c = read_not _ _ _ c.array_columns-columns.ensures c.from-m.ensures
    (read_failed _ _ _ _ _ c.loop-k.invariant c.loop-k-test.true _ _ c.delay_at-q.ensures c.delay_ok.ensures c.if-not-delay_ok.true)

-- its weight has a code
pub code_of-requires : goal.code_of-requires
code_of-requires c = told_limited _ (read_limited _ _ _ c.delay_ok.ensures c.if-not-delay_ok.false)

-- delay k passes
pub loop-k-preserved : goal.loop-k-preserved
loop-k-preserved c = read_more _ _ _ _ _ c.loop-k.invariant c.loop-k-test.true _ _ c.delay_at-q.ensures c.delay_ok.ensures c.if-not-delay_ok.false _
    (told_coded _ _ (limited_fits _ (read_limited _ _ _ c.delay_ok.ensures c.if-not-delay_ok.false)) c.code_of.ensures)

-- all have passed
pub returns : goal.returns
returns c = read_all _ _ _ c.array_columns-columns.ensures c.from-m.ensures _ _ c.loop-k.invariant c.loop-k-test.false
