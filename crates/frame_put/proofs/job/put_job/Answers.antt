-- `put_job` puts the parts of its line one behind the other.
use native.Mathlib.Omega.{arith}
use borrow.Author.Rules.{rules}
use Rattle.model.specs.Format.{job_line}
use Rattle.lines.proofs.Puts.{put_digits, put_line}
use Rattle.frame_put.proofs.Lengths.{masks_length}
use Rattle.frame_put.proofs.job.put_job.Goals as goal

pub returns : goal.returns
unfolding job_line
returns c = let first = c.put_pair-masks.ensures in
    let second = c.put_masks-end.ensures in
    let end = c.put_end.ensures in
    let bytes = put_digits _ _ _ _ (omega arith) first.0 first.1 second.1 in
    let size = masks_length c.args.job in
    (search rules, put_line _ _ _ (omega arith) (omega arith) bytes end.1)
