-- A line of a plan text, by the first of its tests that fails.
use Rattle.std.specs.Prelude.{Some, None}
use Prim.Native.Nat.{ℕ, ◌+◌, ◌*◌, ◌≤◌, ◌<◌}
use mathlib.Core.Path.{◌≡◌, refl, ap, ◌∙◌}
use mathlib.Core.Bool.{Bool, true, false, ◌&&◌}
use mathlib.Core.Option.{none, some}
use mathlib.Core.List.{List, [], ◌∷◌}
use lib.ListN.{length, drop}
use lib.Dec.{eqb}
use borrow.Author.Tests.{eq-eqb, ne_eqb}
use Rattle.model.specs.Common.{is_empty, Outcome, refuse, ◌>>=◌, require, given}
use Rattle.model.specs.Line.{read_line, at as byte_of, wide as wide_of, frame_is}
use Rattle.model.specs.Open.{due, read_one}
use Rattle.model.specs.Judge.{claim_head, claim_line}
use Rattle.model.proofs.BoolLaws.{and, and_false}
use Rattle.model.proofs.OutcomeLaws.{accepts_require, refuses_require}
use Rattle.frame_read.proofs.One.{one_refused, one_read}
use Rattle.claims.specs.Claim.{ReadsHead, ReadsJob}

-- no line: refused, whichever the number
none_read : {A : Type 0} (frame : List ℕ → Outcome A) (text : List ℕ) → read_line text ≡ none → (k : ℕ) × (read_one frame text ≡ refuse k)
unfolding read_one due given is_empty require ◌>>=◌
none_read frame [] e = (7, refl)
none_read frame (c ∷ cs) e = (1, rw e)

pub head_none : (text : List ℕ) → read_line text ≡ none → ReadsHead text None
unfolding ReadsHead
head_none text e = none_read claim_head text e

pub job_none : (text : List ℕ) (at : ℕ) → read_line (drop at text) ≡ none → ReadsJob text at None
unfolding ReadsJob
job_none text at e = none_read claim_line (drop at text) e

-- the first line, a frame, that is asked for its kind and length, and then for 01
module _ (text f : List ℕ) (next : ℕ) (is : read_line text ≡ some (f, drop next text)) where
  -- another kind or length
  pub head_other : frame_is 0xB0 9 f ≡ false → ReadsHead text None
  unfolding ReadsHead claim_head
  head_other e = (17, one_refused claim_head text 0 is 17 (refuses_require 17 _ (ap (λ (t : Bool). t && eqb (byte_of f 1) 1) e)))

  -- another number than 01
  pub head_edition : (byte_of f 1 ≡ 1 → ⊥) → ReadsHead text None
  unfolding ReadsHead claim_head
  head_edition h =
      (17, one_refused claim_head text 0 is 17 (refuses_require 17 _ (ap (λ (t : Bool). frame_is 0xB0 9 f && t) (ne_eqb (byte_of f 1) 1 h) ∙ and_false (frame_is 0xB0 9 f))))

  -- it is read
  pub head_read : frame_is 0xB0 9 f ≡ true → byte_of f 1 ≡ 1 → next ≤ length text → ReadsHead text (Some (record { n = byte_of f 2; latency = wide_of f 3; next = next }))
  unfolding ReadsHead claim_head
  head_read right one inside =
      (inside, wide_of f 5 * 65536 + wide_of f 7, one_read claim_head text 0 is _ (accepts_require 17 _ (and right (eq-eqb (byte_of f 1) 1 one))))

-- a line at a place, likewise
module _ (text f : List ℕ) (at next : ℕ) (is : read_line (drop at text) ≡ some (f, drop next text)) where
  pub job_other : frame_is 0xB1 4 f ≡ false → ReadsJob text at None
  unfolding ReadsJob claim_line
  job_other e = (17, one_refused claim_line text at is 17 (refuses_require 17 _ e))

  pub job_read : frame_is 0xB1 4 f ≡ true → at < next → next ≤ length text → ReadsJob text at (Some (record { job = byte_of f 1; start = wide_of f 2; next = next }))
  unfolding ReadsJob claim_line
  job_read right later inside = (later, inside, one_read claim_line text at is _ (accepts_require 17 _ right))
