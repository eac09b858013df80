-- `stays_of` meets its contract. The loop's invariant: the first i places have the stays of the first i jobs.
use native.Mathlib.Omega.{arith}
use borrow.Author.Rules.{rules}
use mathlib.Core.Path.{◌∙◌}
use Rattle.times.proofs.FillLaws.{filled_none, filled_more}
use Rattle.times.proofs.StaysLaws.{ticks_told, stay_told, stays_read_lem}
use Rattle.times.proofs.stays.stays_of.Goals as goal

pub loop-i-init : goal.loop-i-init
loop-i-init c = filled_none _ 24

-- the job is within its limits
pub stay_of-requires : goal.stay_of-requires
stay_of-requires c = omega (arith, ticks_told c.args.batch c.loop-i.i, c.requires.short c.loop-i.i (search rules))

pub loop-i-preserved : goal.loop-i-preserved
loop-i-preserved c = filled_more _ 24 _ _ _ c.loop-i.invariant (c.stay_of.ensures ∙ stay_told c.args.batch _)

pub returns : goal.returns
returns c = stays_read_lem _ _ _ (omega (arith, c.from-i-end.ensures)) c.loop-i.invariant
