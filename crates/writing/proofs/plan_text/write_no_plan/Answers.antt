-- `write_no_plan` refuses a text longer than the buffer, and puts any other.
use native.Mathlib.Omega.{arith}
use Rattle.frame_put.proofs.Lengths.{no_plan_length}
use Rattle.writing.proofs.Answers.{text_fits, text_long}
use Rattle.writing.proofs.plan_text.write_no_plan.Goals as goal

pub returns-then-buffer-lt11 : goal.returns-then-buffer-lt11
returns-then-buffer-lt11 c = text_long _ _ (omega (arith, no_plan_length c.args.total))

pub returns : goal.returns
returns c = let put = c.put_no_plan.ensures in
    let size = no_plan_length c.args.total in
    text_fits _ _ (omega arith) (omega arith) put.1
