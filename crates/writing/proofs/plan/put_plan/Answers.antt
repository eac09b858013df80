-- `put_plan` puts the start lines behind the first line.
use native.Mathlib.Omega.{arith}
use borrow.Author.Rules.{rules}
use Rattle.lines.proofs.Puts.{put_then}
use Rattle.frame_put.proofs.Lengths.{head_length}
use Rattle.writing.specs.Plan.{found_lines}
use Rattle.writing.proofs.plan.put_plan.Goals as goal

pub returns : goal.returns
unfolding found_lines
returns c = let first = c.put_head-next.ensures in
    let second = c.put_starts.ensures in
    let args = c.args in
    let size = head_length args.n args.latency args.total in
    (search rules, put_then _ 0 _ _ (omega (arith, size)) (omega (arith, size)) first.1 second.1)
