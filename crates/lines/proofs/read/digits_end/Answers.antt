-- `digits_end` passes one digit a turn, so that the digits still end at the same place.
use mathlib.Core.Path.{sym, ◌∙◌}
use Rattle.lines.proofs.Judged.{end_more, end_here, end_max}
use Rattle.lines.proofs.read.digits_end.Goals as goal

pub returns-then-not-is_digit : goal.returns-then-not-is_digit
returns-then-not-is_digit c = end_here _ _ c.loop-i-test.true (sym c.if-not-is_digit.ensures) ∙ c.loop-i.invariant

pub loop-i-preserved : goal.loop-i-preserved
loop-i-preserved c = end_more _ _ c.loop-i-test.true (sym c.if-not-is_digit.ensures) ∙ c.loop-i.invariant

pub returns : goal.returns
returns c = c.max.ensures ∙ end_max _ _ _ c.loop-i-test.false c.loop-i.auto.i-end c.loop-i.invariant
