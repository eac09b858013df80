-- `judge_file` opens the file, and judges the text where it opens.
use mathlib.Core.Path.{◌∙◌}
use Rattle.frame_read.proofs.Told.{told_ok, told_err}
use Rattle.reading.proofs.Told.{exit_told}
use Rattle.judging.proofs.AnswerLaws.{judged_told, file_refused, file_fits, file_judged}
use Rattle.judging.proofs.judge.judge_file.Goals as goal

pub returns-in_err-batch : goal.returns-in_err-batch
returns-in_err-batch c = judged_told _ _ _ (exit_told _ _ c.from_residual.ensures.1 ∙ file_refused c.args.file.now c.args.text.now _ (told_err _ c.in_err-batch.ensures))

pub judge_text-requires : goal.judge_text-requires
judge_text-requires c = file_fits c.args.file.now _ (told_ok c.in_ok-batch.ensures)

pub returns : goal.returns
returns c = judged_told _ _ _ (c.judge_text.ensures ∙ file_judged c.args.file.now _ (told_ok c.in_ok-batch.ensures) c.args.text.now)
