-- `read_all` reads one frame a turn, so that what is still to be read, put behind the items so far, stays what the whole reading gives.
use Prim.Native.Nat.{◌≤◌}
use lib.ListN.{length}
use Rattle.reading.proofs.Reading.{Reading}
use Rattle.reading.proofs.frames.read_all.Given as goal

abbrev pub invariant-loop-k : goal.invariant-loop-k
invariant-loop-k g l = (l.place ≤ length l.file) × Reading (g.K.Kind.says l.kind) g.row.N l.fn.blank l.file l.count l.at l.place l.k l.items
