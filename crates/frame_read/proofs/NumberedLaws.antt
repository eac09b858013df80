-- A frame of a kind whose numbers rise: what is read of it, by the tests that it passes and the first that it fails.
use Prim.Native.Nat.{ℕ, ◌≤◌, ◌<◌}
use mathlib.Core.Path.{◌≡◌, ap, sym, ◌∙◌}
use mathlib.Core.Bool.{Bool, true, false, ◌&&◌}
use mathlib.Core.List.{List}
use native.Mathlib.Omega.{arith}
use lib.Dec.{leb, ltb}
use borrow.Author.Tests.{leb-true, ltb-true}
use Rattle.model.specs.Common.{Outcome, refuse, accept, ◌>>=◌, require}
use Rattle.model.specs.Line.{at as byte_of, frame_is}
use Rattle.model.specs.Numbered.{rises}
use Rattle.model.proofs.BoolLaws.{both}
use Rattle.model.proofs.OutcomeLaws.{accept_eq, require_accepts, accepts_require, refuses_require}
use Rattle.frame_read.specs.Numbered.{Lowest}

module _ {A : Type 0} (number : A → ℕ) where
  -- what the code asks: the kind and the length, the number at its second byte, and what is the kind's own
  module _ (kind size limit k low : ℕ) (f : List ℕ) (before : List A) (lowest : Lowest number low before) (own : Bool) (line : A) where
    abbrev frame : Outcome A
    frame = require 2 (frame_is kind size f) >>= λ u. require k (rises number limit before (byte_of f 1) && own) >>= λ v. accept line

    -- another kind or length
    pub frame_kind : false ≡ frame_is kind size f → frame ≡ refuse 2
    frame_kind a = refuses_require 2 _ (sym a)

    module _ (right : true ≡ frame_is kind size f) (i : ℕ) (read : i ≡ byte_of f 1) where
      risen : (ltb i limit && leb low i) ≡ rises number limit before (byte_of f 1)
      unfolding rises Lowest
      risen = ap (λ (t : Bool). ltb i limit && t) (sym (lowest i)) ∙ ap (rises number limit before) read

      -- a number past the limit, or one that does not rise
      pub frame_number : false ≡ (ltb i limit && leb low i) → frame ≡ refuse k
      frame_number a = accepts_require 2 _ (sym right) ∙ refuses_require k _ (rw (sym (a ∙ risen)))

      module _ (above : true ≡ (ltb i limit && leb low i)) where
        -- what is the kind's own fails
        pub frame_own : false ≡ own → frame ≡ refuse k
        frame_own a = accepts_require 2 _ (sym right) ∙ refuses_require k _ (rw (sym (above ∙ risen)) (sym a))

        -- the line
        pub frame_read : true ≡ own → frame ≡ accept line
        frame_read a = accepts_require 2 _ (sym right) ∙ accepts_require k _ (rw (sym (above ∙ risen)) (sym a))

    -- a line that was read has a number below the limit, not below those that are left
    pub frame_limits : (x : A) → number line ≡ byte_of f 1 → frame ≡ accept x → (number x < limit) × (low ≤ number x)
    unfolding rises Lowest
    frame_limits x first e =
        let t = require_accepts k _ _ x (require_accepts 2 _ _ x e).1 in
        let z : number line ≡ number x = ap number (accept_eq t.1) in
        let r = both (ltb (byte_of f 1) limit) _ (both _ own t.0).0 in
        (omega (arith, z, first, ltb-true (byte_of f 1) limit r.0), omega (arith, z, first, leb-true low (byte_of f 1) (sym (lowest (byte_of f 1)) ∙ r.1)))
