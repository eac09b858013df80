-- What a writer leaves and answers: the text at the front of the buffer and its length, or a refusal and the buffer as it was.
use Prim.Native.Nat.{ℕ, ◌≤◌, ◌<◌}
use mathlib.Core.Path.{◌≡◌, ap, ap₂, sym, ◌∙◌}
use mathlib.Core.Bool.{Bool}
use mathlib.Core.List.{List}
use lib.ListN.{length}
use borrow.Author.Tests.{le-leb, lt-leb}
use Rattle.model.specs.Best.{Best}
use Rattle.std.specs.Prelude.{None, Some}
use Rattle.std.specs.Prelude.{Ok, Err}
use Rattle.model.specs.declared.refusal.Refusal.{Refusal}
use Rattle.model.specs.declared.refusal.Refusal.TheVariants.{ShortBuffer}
use Rattle.model.specs.Refusal.{Written, number, named}
use Rattle.model.proofs.NamedLaws.{named_number}
use Rattle.model.specs.Common.{Outcome, refuse, accept, ◌>>=◌, require}
use Rattle.model.specs.Text.{plan_lines, fitting, written_as, written}
use Rattle.lines.specs.Write.{overwritten}
use Rattle.lines.proofs.Puts.{put_front}
use Rattle.frame_put.specs.Lines.{head_line, start_line, no_plan_line}
use Rattle.writing.specs.Plan.{start_lines, found_lines}

-- by the test of refusal 16
answer : List ℕ → List ℕ → Bool → Written × List ℕ
answer text buffer fits = written_as (require 16 fits >>= (λ _. accept text)) buffer

-- a text that fits
pub text_fits : (text buffer : List ℕ) {size : ℕ} {after : List ℕ} → length text ≤ length buffer → size ≡ length text → after ≡ overwritten buffer 0 text → (Ok size, after) ≡ written (accept text) buffer
unfolding written fitting written_as ◌>>=◌ require answer
text_fits text buffer fits p e =
    ap₂ (λ (n : ℕ) (l : List ℕ). (Ok n, l)) p (e ∙ put_front buffer text)
    ∙ ap (answer text buffer) (sym (le-leb (length text) (length buffer) fits))

-- a text longer than the buffer
pub text_long : (text buffer : List ℕ) → length buffer < length text → (Err ShortBuffer, buffer) ≡ written (accept text) buffer
unfolding named written fitting written_as ◌>>=◌ require answer
text_long text buffer long = ap (answer text buffer) (sym (lt-leb (length text) (length buffer) long))

-- the same outcome by another name
pub text_as_lem : (buffer : List ℕ) {text other : Outcome (List ℕ)} {r : Written × List ℕ} → r ≡ written text buffer → text ≡ other → r ≡ written other buffer
text_as_lem buffer e h = e ∙ ap (λ (o : Outcome (List ℕ)). written o buffer) h

-- a refusal leaves the buffer as it was
pub text_refused : (buffer : List ℕ) (refusal : Refusal) {text : Outcome (List ℕ)} → refuse (number refusal) ≡ text → (Err refusal, buffer) ≡ written text buffer
unfolding written fitting written_as ◌>>=◌
text_refused buffer refusal h = ap (λ (r : Refusal). (Err r, buffer)) (sym (named_number refusal)) ∙ ap (λ (o : Outcome (List ℕ)). written o buffer) h

-- ---- the plan text by what is best

pub plan_none : (best : Best) (n : ℕ) (starts : List ℕ) (total : ℕ) → best ≡ None → accept (no_plan_line total) ≡ accept (plan_lines best n starts total)
unfolding plan_lines no_plan_line
plan_none best n starts total h = ap (λ (found : Best). accept (plan_lines found n starts total)) (sym h)

pub plan_some : (best : Best) (n : ℕ) (starts : List ℕ) (total : ℕ) {latency : ℕ} → best ≡ Some latency → accept (found_lines n latency starts total) ≡ accept (plan_lines best n starts total)
unfolding plan_lines found_lines head_line start_lines start_line
plan_some best n starts total h = ap (λ (found : Best). accept (plan_lines found n starts total)) (sym h)
