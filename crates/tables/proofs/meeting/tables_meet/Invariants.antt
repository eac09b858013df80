-- `meeting::tables_meet` meets its contract. The invariant: no place before x, of those that lie over a tick of the second table, shares a station.
use Rattle.tables.proofs.TableLaws.{Clear}
use Rattle.tables.proofs.meeting.tables_meet.Given as goal

abbrev pub invariant-loop-x : goal.invariant-loop-x
invariant-loop-x l = Clear l.first.low l.first.end l.first.masks l.second l.k l.x
