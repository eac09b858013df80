-- `write_found` refuses a text longer than the buffer, and puts any other.
use native.Mathlib.Omega.{arith}
use Rattle.writing.proofs.Texts.{found_length}
use Rattle.writing.proofs.Answers.{text_fits, text_long}
use Rattle.writing.proofs.plan_text.write_found.Goals as goal

pub returns-then-buffer-size : goal.returns-then-buffer-size
returns-then-buffer-size c = let args = c.args in
    text_long _ _ (omega (arith, found_length args.n args.latency args.starts args.total))

pub returns : goal.returns
returns c = let args = c.args in
    let put = c.put_plan.ensures in
    let size = found_length args.n args.latency args.starts args.total in
    text_fits _ _ (omega arith) (omega arith) put.1
