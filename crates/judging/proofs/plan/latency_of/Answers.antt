-- `plan::latency_of` meets its contract. The invariant: the largest finish of the first i jobs.
use mathlib.Core.Path.{◌≡◌, refl, sym, ◌∙◌}
use native.Mathlib.Omega.{arith}
use Rattle.opening.proofs.WithinLaws.{within_tabled}
use Rattle.times.proofs.LatencyLaws.{latency_none, latency_more, latency_law}
use Rattle.judging.proofs.plan.latency_of.Goals as goal

pub stays_of-stays-requires : goal.stays_of-stays-requires
stays_of-stays-requires c = within_tabled _ c.requires

pub loop-i-init : goal.loop-i-init
loop-i-init c = sym (latency_none _ _)

-- the larger of the two
pub loop-i-preserved : goal.loop-i-preserved
loop-i-preserved c = rw latency_more (omega (arith, c.loop-i.invariant))

pub returns : goal.returns
returns c = let whole : c.loop-i.i ≡ c.args.batch.now.n = omega arith in
    rw (whole, c.stays_of-stays.ensures) at c.loop-i.invariant ∙ latency_law _ c.requires.jobs.1 _ _ (λ i h. refl)
