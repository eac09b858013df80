-- `digits_end` passes one digit a turn, so that the digits still end at the same place.
use mathlib.Core.Path.{◌≡◌}
use Rattle.lines.specs.Read.{digits_end}
use Rattle.lines.proofs.read.digits_end.Given as goal

abbrev pub invariant-loop-i : goal.invariant-loop-i
invariant-loop-i l = digits_end l.file l.i ≡ digits_end l.file l.at
