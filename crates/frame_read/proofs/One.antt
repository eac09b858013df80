-- One line where a frame is due, at a place of the file: what is read of it, by the first of 7, 1 and the frame's own tests that fails.
use Prim.Native.Nat.{ℕ, ◌≤◌, ◌<◌}
use mathlib.Core.Path.{◌≡◌, refl, ap, ◌∙◌}
use mathlib.Core.Bool.{true, not}
use mathlib.Core.Option.{none, some}
use mathlib.Core.List.{List, [], ◌∷◌}
use native.Mathlib.Omega.{arith}
use lib.ListN.{length, drop, length-drop, drop_of_length-le}
use Rattle.model.specs.Common.{is_empty, Outcome, refuse, accept, ◌>>=◌, require, given}
use Rattle.model.specs.Line.{read_line}
use Rattle.model.specs.Open.{due, read_one}
use Rattle.model.proofs.OutcomeLaws.{accepts_bind, accepts_require}
use Rattle.lines.proofs.Framed.{frame as frame_of}
use Rattle.frame_read.proofs.Tests.{refuses_bind}

-- where something is left, a file is not empty
some_left : (rest : List ℕ) → 0 < length rest → not (is_empty rest) ≡ true
unfolding is_empty
some_left [] l = absurd (omega arith)
some_left (c ∷ cs) l = refl

module _ {A : Type 0} (frame : List ℕ → Outcome A) (file : List ℕ) (at : ℕ) where
  -- nothing is left
  pub one_nothing : length file ≤ at → read_one frame (drop at file) ≡ refuse 7
  unfolding read_one due is_empty require ◌>>=◌
  one_nothing l = ap (read_one frame) (drop_of_length-le file l)

  -- something is left
  left : at < length file → not (is_empty (drop at file)) ≡ true
  left l = some_left (drop at file) (omega (arith, length-drop at file))

  -- no line
  pub one_broken : at < length file → read_line (drop at file) ≡ none → read_one frame (drop at file) ≡ refuse 1
  unfolding read_one due given
  one_broken l e = refuses_bind _ (accepts_require 7 _ (left l) ∙ ap (given 1) e)

  module _ {f rest : List ℕ} (is : read_line (drop at file) ≡ some (f, rest)) where
    -- the line is due, and is read
    is_due : due (drop at file) ≡ accept (f, rest)
    unfolding due given
    is_due = accepts_require 7 _ (left (omega (arith, (frame_of file at f rest is).inside))) ∙ ap (given 1) is

    -- a frame that is refused
    pub one_refused : (k : ℕ) → frame f ≡ refuse k → read_one frame (drop at file) ≡ refuse k
    unfolding read_one
    one_refused k e = accepts_bind _ is_due ∙ refuses_bind _ e

    -- a frame that is accepted, and the rest of the file from behind its 0A
    pub one_read : (x : A) → frame f ≡ accept x → read_one frame (drop at file) ≡ accept (x, rest)
    unfolding read_one
    one_read x e = accepts_bind _ is_due ∙ accepts_bind _ e
