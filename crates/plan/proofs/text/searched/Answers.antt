-- `searched` meets its contract. The loop's invariant: what the runs that are left give is what all of them give, and the buffer is as it was.
use native.Mathlib.Omega.{arith}
use Rattle.plan.proofs.TextLaws.{no_runs, goes_on, is_refused, is_ended}
use Rattle.model.specs.Refusal as refusal
use Rattle.plan.proofs.text.searched.Goals as goal

pub returns-in-Refused : goal.returns-in-Refused
returns-in-Refused c = is_refused _ _ _ c.loop.invariant.1 _ _ c.loop.invariant.0 (omega arith) _ c.run_once-ran.ensures _ c.in-Refused.is _ _ c.refused.ensures

pub returns-in-Plan : goal.returns-in-Plan
returns-in-Plan c = is_ended _ _ _ c.loop.invariant.1 _ _ c.loop.invariant.0 (omega arith) _ c.run_once-ran.ensures c.in-Plan.in-Plan-own.keys3 _ _ c.plan_lines.ensures

pub loop-preserved : goal.loop-preserved
loop-preserved c = (
  c.loop.invariant.0,
  goes_on _ _ _ c.loop.invariant.1 _ _ c.loop.invariant.0 (omega arith) _ c.run_once-ran.ensures _ c.in-Spent.is,
)

pub returns : goal.returns
unfolding refusal.number
returns c = no_runs _ _ _ c.loop.invariant.1 _ _ c.loop.invariant.0 (omega arith) _ _ c.refused-2.ensures
