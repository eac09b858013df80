-- A frame where it stands: as many bytes as its size says, each the byte of its two digits.
use Prim.Native.Nat.{ℕ, zero, suc, ◌+◌, ◌-◌, ◌*◌, ◌/◌, ◌<◌}
use mathlib.Core.Path.{◌≡◌, refl, ap, ap₂, sym, ◌∙◌}
use mathlib.Core.Bool.{true}
use mathlib.Core.Option.{some}
use mathlib.Core.List.{List}
use native.Mathlib.Omega.{arith}
use lib.ListN.{length, get_or, drop}
use lib.Seq.{ext_get_or}
use lib.Dec.{eqb}
use borrow.Author.Tests.{eqb-true}
use Rattle.model.specs.Line.{read_line, at as byte_of, wide as wide_of, frame_is}
use Rattle.model.proofs.BoolLaws.{both}
use Rattle.lines.specs.Read.{byte_at}
use Rattle.lines.proofs.Framed.{Framed}
use Rattle.frame_read.specs.Frame.{frame_at, InFile}

-- its length
pub frame_length : (file : List ℕ) (at size : ℕ) → length (frame_at file at size) ≡ size
unfolding frame_at
frame_length file at zero = refl
frame_length file at (suc k) = ap suc (frame_length file (at + 2) k)

-- its bytes
pub frame_at_lem : (file : List ℕ) (at size k : ℕ) → k < size → get_or (frame_at file at size) k 0 ≡ byte_at file (at + 2 * k)
unfolding frame_at
frame_at_lem file at zero k l = absurd (omega arith)
frame_at_lem file at (suc n) zero l = let e : at ≡ at + 2 * 0 = omega arith in ap (byte_at file) e
frame_at_lem file at (suc n) (suc k) l =
    let e : at + 2 + 2 * k ≡ at + 2 * suc k = omega arith in
    frame_at_lem file (at + 2) n k (omega arith) ∙ ap (byte_at file) e

-- a frame that a struct has as its bytes, and what it knows of them: how many there are, and where each stands
module _ (file : List ℕ) (at size : ℕ) {f : List ℕ} (is : frame_at file at size ≡ f) where
  pub size_is : size ≡ length f
  size_is = sym (frame_length file at size) ∙ ap length is

  -- the byte that `byte_at` reads is the frame's
  pub byte_is : (k : ℕ) {r : ℕ} → k < length f → r ≡ byte_at file (at + 2 * k) → r ≡ byte_of f k
  unfolding byte_of
  byte_is k l e =
      e ∙ sym (frame_at_lem file at size k (omega (arith, size_is))) ∙ ap (λ (g : List ℕ). get_or g k 0) is

  -- two of them put together are the frame's two-byte number
  pub wide_is : (k : ℕ) {h l : ℕ} → k + 1 < length f → h ≡ byte_at file (at + 2 * k) → l ≡ byte_at file (at + 2 * k + 2) → h * 256 + l ≡ wide_of f k
  unfolding wide_of
  wide_is k m p q =
      let next : at + 2 * k + 2 ≡ at + 2 * suc k = omega arith in
      ap₂ (λ (x y : ℕ). x * 256 + y) (byte_is k (omega arith) p) (byte_is (suc k) (omega arith) (q ∙ ap (byte_at file) next))

-- a frame of a length has that many bytes
pub frame_size : (f : List ℕ) (kind len : ℕ) → frame_is kind len f ≡ true → length f ≡ len
unfolding frame_is
frame_size f kind len e = eqb-true _ len (both (eqb (byte_of f 0) kind) _ e).1

-- the bytes of a line that was read are those of the frame there
module _ {file : List ℕ} {at end : ℕ} (f : Framed file at end) (size : ℕ) (sized : size ≡ (end - at) / 2) where
  -- as many as the code counts
  sized_by : size ≡ length f.bytes
  sized_by = omega (arith, f.size)

  -- one by one
  framed_bytes : f.bytes ≡ frame_at file at size
  framed_bytes =
      ext_get_or 0 f.bytes (frame_at file at size) (sym (frame_length file at size ∙ sized_by))
      (λ k l. f.each k l ∙ sym (frame_at_lem file at size k (omega (arith, sized_by))))

  -- and behind its 0A is the rest of the file
  pub framed_read : read_line (drop at file) ≡ some (frame_at file at size, drop (end + 1) file)
  framed_read = f.is ∙ ap₂ (λ (b r : List ℕ). some (b, r)) framed_bytes f.after

  -- they stand in the file
  pub framed_inside : InFile file at size
  framed_inside = record { full = omega (arith, sized_by, f.full); fits = omega (arith, sized_by, f.size, f.inside) }
