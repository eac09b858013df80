-- `plan::keeps_delays` meets its contract. The invariant: the delays that are left decide.
use mathlib.Core.Path.{ap, sym, ◌∙◌}
use mathlib.Core.Bool.{not}
use Rattle.std.proofs.lemmas.Option.{same_Some}
use Rattle.model.proofs.AllLaws.{all_ended}
use Rattle.weights.proofs.SoundLaws.{sound_read}
use Rattle.opening.proofs.WithinLaws.{within_sound}
use Rattle.judging.proofs.PlanLaws.{kept_test, test_more, test_not, kept_jobs, kept_all}
use Rattle.judging.proofs.plan.keeps_delays.Goals as goal

pub unwrap-delays-requires : goal.unwrap-delays-requires
unwrap-delays-requires c = rw (sound_read _ (within_sound _ c.requires) _ c.read_delays.ensures)

pub is_kept-requires : goal.is_kept-requires
is_kept-requires c = kept_jobs _ c.requires c.unwrap-delays.result (same_Some _ _ (sym c.unwrap-delays.ensures ∙ sound_read _ (within_sound _ c.requires) _ c.read_delays.ensures)) _ c.from.ensures _ c.loop-q-test.true

-- a delay is not kept
pub returns-then-not-is_kept : goal.returns-then-not-is_kept
unfolding kept_test
returns-then-not-is_kept c = test_not _ _ _ _ c.loop-q.invariant c.loop-q-test.true _ c.is_kept.ensures (ap not c.if-not-is_kept.true)
    ∙ kept_all _ c.requires c.unwrap-delays.result (same_Some _ _ (sym c.unwrap-delays.ensures ∙ sound_read _ (within_sound _ c.requires) _ c.read_delays.ensures)) _ c.from.ensures _

pub loop-q-preserved : goal.loop-q-preserved
unfolding kept_test
loop-q-preserved c = test_more _ _ _ _ c.loop-q.invariant c.loop-q-test.true _ c.is_kept.ensures (ap not c.if-not-is_kept.false)

-- each is kept
pub returns : goal.returns
returns c = all_ended _ _ _ _ c.loop-q.invariant c.loop-q-test.false ∙ kept_all _ c.requires c.unwrap-delays.result (same_Some _ _ (sym c.unwrap-delays.ensures ∙ sound_read _ (within_sound _ c.requires) _ c.read_delays.ensures)) _ c.from.ensures _
