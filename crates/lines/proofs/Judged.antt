-- The steps by which the code judges a line: where its digits end, and what that place and the count say of the line.
use Prim.Native.Nat.{ℕ, suc, ◌+◌, ◌-◌, ◌*◌, ◌%◌, ◌≤◌, ◌<◌, max}
use mathlib.Core.Path.{◌≡◌, refl, ap, sym, ◌∙◌}
use mathlib.Core.Bool.{Bool, true, false}
use mathlib.Core.Option.{Option, none, some}
use mathlib.Core.List.{List, [], ◌∷◌}
use native.Mathlib.Numerals.{add-one}
use native.Mathlib.Omega.{arith}
use lib.ListN.{length, get_or, drop, drop_of_length-le}
use lib.Seq.{get_or-drop, drop-cons}
use lib.Dec.{leb}
use borrow.Author.Tests.{eqb-true, eqb-false, leb-true, leb-false}
use Rattle.model.specs.Common.{up_to}
use Rattle.model.specs.Line.{read_line}
use Rattle.lines.specs.Read.{line_at, as_line, is_digit, digits_end, closes}
use Rattle.std.specs.Prelude.{Some, None}
use Rattle.lines.proofs.UpTo.{up_to_pass, up_to_fail}
use Rattle.lines.proofs.Parsed.{Parsed, parsed, parses}

-- the digits end behind a digit where they end from it on
pub end_more : (file : List ℕ) (i : ℕ) → i < length file → is_digit (get_or file i 0) ≡ true → digits_end file (i + 1) ≡ digits_end file i
unfolding digits_end
end_more file i l h =
    let e : up_to is_digit (drop i file) ≡ get_or file i 0 ∷ up_to is_digit (drop (i + 1) file) =
    ap (up_to is_digit) (drop-cons file i 0 l) ∙ up_to_pass is_digit (get_or file i 0) (drop (suc i) file) h ∙ rw (add-one i) in
    omega (arith, ap length e)

-- the digits end where none stands
pub end_here : (file : List ℕ) (i : ℕ) → i < length file → is_digit (get_or file i 0) ≡ false → i ≡ digits_end file i
unfolding digits_end
end_here file i l h =
    let e : up_to is_digit (drop i file) ≡ [] =
    ap (up_to is_digit) (drop-cons file i 0 l) ∙ up_to_fail is_digit (get_or file i 0) (drop (suc i) file) h in
    omega (arith, ap length e)

-- past the end of the file there is no digit
pub end_past : (file : List ℕ) (i : ℕ) → length file ≤ i → i ≡ digits_end file i
unfolding digits_end up_to
end_past file i l =
    let e : up_to is_digit (drop i file) ≡ [] = ap (up_to is_digit) (drop_of_length-le file l) in
    omega (arith, ap length e)

-- so do they at the file's end, or at the place itself past it, where each character from the place on is a digit
pub end_max : (file : List ℕ) (at i : ℕ) → length file ≤ i → (at ≤ length file → i ≤ length file) → digits_end file i ≡ digits_end file at → max at (length file) ≡ digits_end file at
end_max file at i l within e = go (leb at (length file)) refl
  where
    go : (b : Bool) → leb at (length file) ≡ b → max at (length file) ≡ digits_end file at
    go true h = let k = leb-true at (length file) h in omega (arith, k, within k, end_past file i l, e)
    go false h = let k = leb-false at (length file) h in omega (arith, k, end_past file at (omega (arith, k)))

-- a line is broken that cannot be read
broken : (file : List ℕ) (at : ℕ) → ((bytes rest : List ℕ) → Parsed (drop at file) bytes rest → ⊥) → None ≡ line_at file at
unfolding line_at as_line
broken file at never = go (read_line (drop at file)) refl
  where
    go : (o : Option (List ℕ × List ℕ)) → read_line (drop at file) ≡ o → None ≡ as_line at o
    go none e = refl
    go (some p) e = absurd (never p.0 p.1 (parsed (drop at file) p.0 p.1 e))

-- the 0A of a line that can be read stands where its digits end
ends_frame : (file : List ℕ) (at end : ℕ) (bytes rest : List ℕ) → read_line (drop at file) ≡ some (bytes, rest) → end ≡ digits_end file at → Some end ≡ line_at file at
unfolding line_at as_line digits_end
ends_frame file at end bytes rest e ends =
    let place : end ≡ at + 2 * length bytes = omega (arith, (parsed (drop at file) bytes rest e).stop) in
    ap Some place ∙ sym (ap (as_line at) e)

module _ (file : List ℕ) (at end : ℕ) (ends : end ≡ digits_end file at) where
  -- no digit
  pub judged_empty : end ≤ at → None ≡ line_at file at
  unfolding digits_end
  judged_empty l = broken file at (λ bytes rest p. omega (arith, p.stop, p.full))

  -- an odd count
  pub judged_odd : (end - at) % 2 ≡ 1 → None ≡ line_at file at
  unfolding digits_end
  judged_odd odd = broken file at (λ bytes rest p. omega (arith, p.stop))

  -- another character than 0A, or none, behind the digits
  pub judged_open : closes file end ≡ false → None ≡ line_at file at
  unfolding digits_end closes
  judged_open other =
      broken file at (λ bytes rest p.
      let place : end ≡ at + 2 * length bytes = omega (arith, p.stop) in
      eqb-false (get_or file end 0) 10 other (ap (λ (n : ℕ). get_or file n 0) place ∙ sym (get_or-drop at file (2 * length bytes) 0) ∙ p.closed))

  -- an even count of digits, not 0, and a 0A
  pub judged_frame : at < end → (end - at) % 2 ≡ 0 → closes file end ≡ true → Some end ≡ line_at file at
  unfolding digits_end closes
  judged_frame l even closed =
      let n = length (up_to is_digit (drop at file)) in
      let here : get_or (drop at file) n 0 ≡ 10 =
      get_or-drop at file n 0 ∙ ap (λ (k : ℕ). get_or file k 0) (sym ends) ∙ eqb-true (get_or file end 0) 10 closed in
      let r = parses (drop at file) (omega arith) (omega arith) here in
      ends_frame file at end r.0 r.1.0 r.1.1 ends
