-- `write_bounded` refuses a text longer than the buffer, and puts any other.
use native.Mathlib.Omega.{arith}
use Rattle.writing.proofs.Answers.{text_fits, text_long}
use Rattle.writing.proofs.batch_text.write_bounded.Goals as goal

pub returns-then-buffer-size : goal.returns-then-buffer-size
returns-then-buffer-size c = text_long _ _ (omega arith)

pub returns : goal.returns
returns c = let put = c.put_batch.ensures in
    text_fits _ _ (omega arith) put.0 put.1
