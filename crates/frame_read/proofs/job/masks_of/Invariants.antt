-- `masks_of` fills the array from its start, one mask a turn.
use mathlib.Core.Path.{◌≡◌}
use lib.ListN.{take, drop}
use Rattle.model.specs.Common.{pad}
use Rattle.model.specs.Open.{wides}
use Rattle.frame_read.proofs.job.masks_of.Given as goal

abbrev pub invariant-loop-a : goal.invariant-loop-a
invariant-loop-a l = l.masks ≡ pad 16 0 (take l.a (wides (drop 2 l.frame)))
