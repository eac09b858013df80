-- `raised_latency` meets its contract. The loop's invariant: the largest of the latency and the finishes of the first i places.
use native.Mathlib.Omega.{arith}
use mathlib.Core.Path.{◌≡◌}
use Rattle.times.specs.Latency.{raised_by}
use Rattle.times.proofs.LatencyLaws.{latency_none, latency_more}
use Rattle.times.proofs.latency.raised_latency.Goals as goal

pub loop-i-init : goal.loop-i-init
loop-i-init c = rw latency_none (omega arith)

-- one place more
pub loop-i-preserved : goal.loop-i-preserved
loop-i-preserved c = rw latency_more (omega (arith, c.loop-i.invariant, c.from.ensures, c.max-latest.ensures))

pub returns : goal.returns
unfolding raised_by
returns c = let h : c.loop-i.i ≡ 24 = omega arith in rw (← h) c.loop-i.invariant
