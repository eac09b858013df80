-- What the tests before a text decide: refusal 12, for a plan 15, and what soundness says of a batch that is to be written.
use Prim.Native.Nat.{ℕ, ◌<◌}
use mathlib.Core.Path.{◌≡◌, refl, ap, ap₂, sym}
use mathlib.Core.Bool.{Bool, true, false, ◌&&◌, ◌||◌}
use mathlib.Core.List.{List}
use native.Mathlib.Omega.{arith}
use lib.Dec.{eqb}
use borrow.Author.Tests.{eqb-true}
use Rattle.model.specs.declared.Batch.{Batch}
use Rattle.model.specs.declared.Search.{Search}
use Rattle.model.specs.declared.refusal.Refusal.TheVariants.{Unsound, Unended}
use Rattle.model.specs.Refusal.{number}
use Rattle.model.specs.Common.{Outcome, refuse, accept, ◌>>=◌, require}
use Rattle.model.specs.Format.{further_of, has_none, batch_file}
use Rattle.model.specs.Sound.{sound_edition, sound}
use Rattle.model.specs.Text.{plan_lines, plan_text, batch_text}
use Rattle.model.proofs.BoolLaws.{both}
use Rattle.model.proofs.LimitLaws.{counts_iff}
use Rattle.model.proofs.SoundLaws.{record_passes, passes_fit}
use Rattle.writing.specs.Bounded.{Bounded}

-- a sound edition is a byte
edition_small : (b : Batch) → sound_edition b ≡ true → b.edition < 256
unfolding sound_edition
edition_small b h = go (eqb b.edition 2) refl h
  where
    go : (t : Bool) → eqb b.edition 2 ≡ t → (t || (eqb b.edition 1 && has_none (further_of b))) ≡ true → b.edition < 256
    go true e h = omega (arith, eqb-true b.edition 2 e)
    go false e h = omega (arith, eqb-true b.edition 1 (both (eqb b.edition 1) _ h).0)

-- a sound record's batch stays within its arrays
pub sound_bounded : (s : Search) → sound s ≡ true → Bounded s.batch
sound_bounded s h =
    let passes = record_passes s h in
    let fits = passes_fit s.batch passes in
    record {
      edition = edition_small s.batch passes.edition;
      jobs = fits.jobs;
      delays = ((counts_iff s.batch.n s.batch.m).0 passes.counts).1;
      ticks_each = fits.short;
    }

-- ---- the batch text

asked : Bool → List ℕ → Outcome (List ℕ)
asked sound text = require 12 sound >>= (λ _. accept text)

pub batch_unsound : (s : Search) → sound s ≡ false → refuse (number Unsound) ≡ batch_text s
unfolding number batch_text asked require ◌>>=◌
batch_unsound s h = ap (λ (p : Bool). asked p (batch_file s.batch)) (sym h)

pub batch_sound : (s : Search) → sound s ≡ true → accept (batch_file s.batch) ≡ batch_text s
unfolding batch_text asked require ◌>>=◌
batch_sound s h = ap (λ (p : Bool). asked p (batch_file s.batch)) (sym h)

-- ---- the plan text

asked_both : Bool → Bool → List ℕ → Outcome (List ℕ)
asked_both sound ended text = require 12 sound >>= (λ _. require 15 ended >>= (λ _. accept text))

text_of : Search → List ℕ
text_of s = plan_lines s.best s.batch.n s.starts s.total

pub plan_unsound : (s : Search) → sound s ≡ false → refuse (number Unsound) ≡ plan_text s
unfolding number plan_text asked_both text_of require ◌>>=◌
plan_unsound s h = ap (λ (p : Bool). asked_both p s.ended (text_of s)) (sym h)

pub plan_open : (s : Search) → sound s ≡ true → s.ended ≡ false → refuse (number Unended) ≡ plan_text s
unfolding number plan_text asked_both text_of require ◌>>=◌
plan_open s h e = ap₂ (λ (p q : Bool). asked_both p q (text_of s)) (sym h) (sym e)

pub plan_ended : (s : Search) → sound s ≡ true → s.ended ≡ true → accept (plan_lines s.best s.batch.n s.starts s.total) ≡ plan_text s
unfolding plan_text asked_both text_of require ◌>>=◌
plan_ended s h e = ap₂ (λ (p q : Bool). asked_both p q (text_of s)) (sym h) (sym e)
