-- `write_plan` asks 12, then 15, and then writes the text of an ended search.
use mathlib.Core.Path.{refl, sym, ◌∙◌}
use Rattle.model.proofs.BoolLaws.{passes, fails}
use Rattle.model.specs.declared.refusal.Refusal.TheVariants.{Unsound, Unended}
use Rattle.writing.proofs.Answers.{text_as_lem, text_refused}
use Rattle.writing.proofs.Refusals.{sound_bounded, plan_unsound, plan_open, plan_ended}
use Rattle.writing.proofs.plan_text.write_plan.Goals as goal

pub returns-then-not-is_sound : goal.returns-then-not-is_sound
returns-then-not-is_sound c = text_refused _ Unsound (plan_unsound c.args.search (sym c.is_sound.ensures ∙ c.if-not-is_sound.true))

pub returns-then-not-search : goal.returns-then-not-search
returns-then-not-search c = text_refused _ Unended (plan_open c.args.search (sym c.is_sound.ensures ∙ c.if-not-is_sound.false) (fails refl c.if-not-search.true))

pub write_ended-requires : goal.write_ended-requires
write_ended-requires c = (sound_bounded c.args.search (sym c.is_sound.ensures ∙ c.if-not-is_sound.false)).jobs

pub returns : goal.returns
returns c = text_as_lem _ c.write_ended.ensures (plan_ended c.args.search (sym c.is_sound.ensures ∙ c.if-not-is_sound.false) (passes refl c.if-not-search.false))
