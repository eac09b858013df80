-- `write_batch` asks 12, and then writes the text of a batch that stays within its arrays.
use mathlib.Core.Path.{sym, ◌∙◌}
use Rattle.model.specs.declared.refusal.Refusal.TheVariants.{Unsound}
use Rattle.writing.proofs.Answers.{text_as_lem, text_refused}
use Rattle.writing.proofs.Refusals.{sound_bounded, batch_unsound, batch_sound}
use Rattle.writing.proofs.batch_text.write_batch.Goals as goal

pub returns-then-not-is_sound : goal.returns-then-not-is_sound
returns-then-not-is_sound c = text_refused _ Unsound (batch_unsound c.args.search (sym c.is_sound.ensures ∙ c.if-not-is_sound.true))

pub write_bounded-requires : goal.write_bounded-requires
write_bounded-requires c = sound_bounded c.args.search (sym c.is_sound.ensures ∙ c.if-not-is_sound.false)

pub returns : goal.returns
returns c = text_as_lem _ c.write_bounded.ensures (batch_sound c.args.search (sym c.is_sound.ensures ∙ c.if-not-is_sound.false))
