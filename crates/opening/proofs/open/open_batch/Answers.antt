-- `open_batch` reads the batch, and then asks 9 and 10.
use mathlib.Core.Path.{sym, ◌∙◌}
use Rattle.model.specs.Refusal.{told, number}
use Rattle.frame_read.proofs.Told.{told_ok, told_err}
use Rattle.reading.proofs.Told.{exit_told}
use Rattle.opening.proofs.WithinLaws.{within_sound, within_soon}
use Rattle.opening.proofs.OpenLaws.{open_refused, open_within, open_many, open_unmet, open_all}
use Rattle.opening.proofs.open.open_batch.Goals as goal

pub returns-in_err-batch : goal.returns-in_err-batch
returns-in_err-batch c = exit_told _ _ c.from_residual.ensures.1 ∙ open_refused c.args.file.now _ (told_err _ c.in_err-batch.ensures)

pub few_clashes-requires : goal.few_clashes-requires
few_clashes-requires c = open_within _ _ (told_ok c.in_ok-batch.ensures)

pub returns-then-not-few_clashes : goal.returns-then-not-few_clashes
unfolding told number
returns-then-not-few_clashes c = open_many c.args.file.now c.in_ok-batch.batch (told_ok c.in_ok-batch.ensures) (sym c.few_clashes.ensures ∙ c.if-not-few_clashes.true)

pub delays_met-requires : goal.delays_met-requires
delays_met-requires c = let w = open_within _ _ (told_ok c.in_ok-batch.ensures) in (within_sound _ w, within_soon _ w)

pub returns-then-not-delays_met : goal.returns-then-not-delays_met
unfolding told number
returns-then-not-delays_met c = open_unmet c.args.file.now c.in_ok-batch.batch (told_ok c.in_ok-batch.ensures) (sym c.few_clashes.ensures ∙ c.if-not-few_clashes.false) (sym c.delays_met.ensures ∙ c.if-not-delays_met.true)

pub returns : goal.returns
unfolding told
returns c = open_all c.args.file.now c.in_ok-batch.batch (told_ok c.in_ok-batch.ensures) (sym c.few_clashes.ensures ∙ c.if-not-few_clashes.false) (sym c.delays_met.ensures ∙ c.if-not-delays_met.false)
