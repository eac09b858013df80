-- `highest` meets its contract. The loop's invariant: the first j places are filled.
use native.Mathlib.Omega.{arith}
use mathlib.Core.Path.{◌≡◌, ◌∙◌, ap}
use Rattle.times.specs.Fill.{filled}
use Rattle.rounds.specs.Rounds.{highest_of}
use Rattle.times.proofs.FillLaws.{filled_none, filled_more}
use Rattle.rounds.proofs.rounds.highest.Goals as goal

pub loop-j-init : goal.loop-j-init
loop-j-init c = filled_none _ 24

pub loop-j-preserved : goal.loop-j-preserved
loop-j-preserved c = filled_more _ 24 _ _ _ c.loop-j.invariant c.max.ensures

pub returns : goal.returns
unfolding highest_of
returns c = let h : c.loop-j.j ≡ 24 = omega arith in c.loop-j.invariant ∙ ap (filled _ 24) h
