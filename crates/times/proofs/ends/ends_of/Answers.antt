-- `ends_of` meets its contract. The loop's invariant: the first i places have the ends of the first i jobs.
use native.Mathlib.Omega.{arith}
use mathlib.Core.Path.{◌≡◌, ap}
use lib.ListN.{length}
use Rattle.model.specs.declared.Window.{Window}
use Rattle.times.proofs.FillLaws.{filled_none, filled_more}
use Rattle.times.proofs.EndsLaws.{window_told_lem, earliest_read_lem, latest_read_lem}
use Rattle.times.proofs.ends.ends_of.Goals as goal

pub loop-i-init : goal.loop-i-init
loop-i-init c = (filled_none _ 24, filled_none _ 24)

pub loop-i-preserved : goal.loop-i-preserved
loop-i-preserved c = let full : length c.args.batch.windows ≡ 24 = c.well_formed.0.1.1.1.1.1.1.1.0.1.0.1 in
    let own = window_told_lem c.args.batch.windows c.loop-i.i (omega (arith, full, c.requires, c.from-i-end.ensures)) in
    let made = c.loop-i.invariant in
    (filled_more _ 24 _ _ _ made.0 (ap (λ (w : Window). w.earliest) own), filled_more _ 24 _ _ _ made.1 (ap (λ (w : Window). w.latest) own))

pub returns : goal.returns
returns c =
    let made = c.loop-i.invariant in
    (earliest_read_lem _ _ (omega (arith, c.from-i-end.ensures)) _ made.0, latest_read_lem _ _ (omega (arith, c.from-i-end.ensures)) _ made.1)
