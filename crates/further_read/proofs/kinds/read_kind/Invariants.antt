-- `read_kind` reads one line a turn, so that what is still to be read, after the places so far, stays what the whole reading gives.
use Prim.Native.Nat.{◌-◌, ◌≤◌}
use lib.ListN.{length, drop}
use Rattle.further_read.specs.Kind.{places}
use Rattle.further_read.proofs.Places.{Reading}
use Rattle.further_read.proofs.kinds.read_kind.Given as goal

abbrev pub invariant-loop-place : goal.invariant-loop-place
invariant-loop-place g l =
    (l.place ≤ length l.file)
    × Reading g.K.Kind.BYTE (g.K.Kind.one l.kind) l.file (places g.K.Kind.BYTE (g.K.Kind.one l.kind) (length (drop l.at l.file)) 0 l.initial.places (drop l.at l.file)) l.place l.low l.places

abbrev pub decreases-loop-place : goal.decreases-loop-place
decreases-loop-place g l = length l.file - l.place
