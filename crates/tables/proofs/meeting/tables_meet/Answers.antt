-- `meeting::tables_meet` meets its contract. The invariant: no place before x, of those that lie over a tick of the second table, shares a station.
use borrow.Author.Rules.{rules}
use Rattle.tables.proofs.TableLaws.{tables_met, tables_clear}
use Rattle.tables.proofs.meeting.tables_meet.Goals as goal

-- place x shares a station
pub returns-then-share : goal.returns-then-share
returns-then-share c = tables_met _ _ _ _ _ _ _ _ (search rules) c.loop-x.invariant c.loop-x-test.true c.share.ensures c.if-share.true

pub returns : goal.returns
returns c = tables_clear _ _ _ _ _ _ _ (search rules) c.loop-x.invariant c.loop-x-test.false
