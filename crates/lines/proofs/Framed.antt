-- What a caller of `line_at` knows by its answer: of a frame, the bytes that were read and where each stands; of a broken line, that
-- there is none to read.
use Prim.Native.Nat.{ℕ, ◌+◌, ◌*◌, ◌<◌}
use mathlib.Core.Path.{◌≡◌, refl, sym, ◌∙◌, subst}
use mathlib.Core.Bool.{Bool, true, false}
use mathlib.Core.Option.{Option, none, some}
use mathlib.Core.List.{List}
use native.Mathlib.Nat.{add_assoc}
use native.Mathlib.Omega.{arith}
use lib.ListN.{length, get_or, drop, length-drop, get_or-eq_default}
use lib.Seq.{drop-drop}
use lib.Dec.{ltb}
use borrow.Author.Tests.{ltb-true, ltb-false}
use Rattle.model.specs.Line.{read_line}
use Rattle.lines.specs.Read.{line_at, as_line, byte_at}
use Rattle.std.specs.Prelude.{Option as Maybe, Some, None}
use Rattle.lines.proofs.Digit.{byte_small, byte_drop}
use Rattle.lines.proofs.Parsed.{parsed}

-- the frame from `at` to the 0A at `end`
pub record Framed (file : List ℕ) (at end : ℕ) : Type 0 where
  pub bytes : List ℕ
  pub rest : List ℕ
  pub is : read_line (drop at file) ≡ some (bytes, rest)
  pub size : end ≡ at + 2 * length bytes
  pub full : 0 < length bytes
  pub inside : end < length file
  pub after : rest ≡ drop (end + 1) file
  pub each : (k : ℕ) → k < length bytes → get_or bytes k 0 ≡ byte_at file (at + 2 * k)
  pub small : (k : ℕ) → get_or bytes k 0 < 256

-- past its end a list holds 0, which is a byte too
bounded : (bytes : List ℕ) → ((k : ℕ) → k < length bytes → get_or bytes k 0 < 256) → (k : ℕ) → get_or bytes k 0 < 256
bounded bytes small k = go (ltb k (length bytes)) refl
  where
    go : (b : Bool) → ltb k (length bytes) ≡ b → get_or bytes k 0 < 256
    go true e = small k (ltb-true k (length bytes) e)
    go false e = omega (arith, get_or-eq_default bytes 0 (ltb-false k (length bytes) e))

-- a line that is read is a frame
pub frame : (file : List ℕ) (at : ℕ) (bytes rest : List ℕ) → read_line (drop at file) ≡ some (bytes, rest) → Framed file at (at + 2 * length bytes)
frame file at bytes rest e =
    let p = parsed (drop at file) bytes rest e in
    let each : (k : ℕ) → k < length bytes → get_or bytes k 0 ≡ byte_at file (at + 2 * k) = λ k l. p.each k l ∙ byte_drop at file (2 * k) in
    record {
      bytes = bytes;
      rest = rest;
      is = e;
      size = refl;
      full = p.full;
      inside = omega (arith, p.inside, length-drop at file);
      after = p.after ∙ drop-drop (2 * length bytes + 1) at file ∙ rw (← add_assoc);
      each = each;
      small = bounded bytes (λ k l. rw (each k l) (byte_small file (at + 2 * k)));
    }

-- the answer `Some end`
pub line_frame : (r : Maybe ℕ) (file : List ℕ) (at end : ℕ) → r ≡ line_at file at → r ≡ Some end → Framed file at end
unfolding line_at as_line
line_frame r file at end p q = go (read_line (drop at file)) refl (sym p ∙ q)
  where
    go : (o : Option (List ℕ × List ℕ)) → read_line (drop at file) ≡ o → as_line at o ≡ Some end → Framed file at end
    go none e h = let z : ◌≡◌ {A = ℕ} 0 1 = cc in absurd (omega arith)
    go (some f) e h =
        let z : at + 2 * length f.0 ≡ end = cc in
        subst (Framed file at) z (frame file at f.0 f.1 e)

-- the answer `None`
pub line_broken : (r : Maybe ℕ) (file : List ℕ) (at : ℕ) → r ≡ line_at file at → r ≡ None → read_line (drop at file) ≡ none
unfolding line_at as_line
line_broken r file at p q = go (read_line (drop at file)) refl (sym p ∙ q)
  where
    go : (o : Option (List ℕ × List ℕ)) → read_line (drop at file) ≡ o → as_line at o ≡ None → read_line (drop at file) ≡ none
    go none e h = e
    go (some f) e h = let z : ◌≡◌ {A = ℕ} 0 1 = cc in absurd (omega arith)
