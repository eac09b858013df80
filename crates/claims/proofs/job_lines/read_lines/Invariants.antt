-- `job_lines::read_lines` reads one line a turn, so that what is still to be read, behind the lines so far, stays what the whole reading gives.
use Prim.Native.Nat.{◌-◌}
use lib.ListN.{length}
use Rattle.claims.proofs.LinesLaws.{ReadTo}
use Rattle.claims.proofs.job_lines.read_lines.Given as goal

abbrev pub invariant-loop-place : goal.invariant-loop-place
invariant-loop-place l = ReadTo l.text l.at l.place l.k l.ordered l.starts

abbrev pub decreases-loop-place : goal.decreases-loop-place
decreases-loop-place l = length l.text - l.place
