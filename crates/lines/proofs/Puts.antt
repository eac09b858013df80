-- Texts put into a buffer: one behind the other they are one text, the buffer keeps its length, and a text of bytes is two digits a byte.
use Prim.Native.Nat.{ℕ, ◌+◌, ◌*◌, ◌/◌, ◌%◌, ◌≤◌}
use mathlib.Core.Path.{◌≡◌, refl, ap, ap₂, sym, ◌∙◌}
use mathlib.Core.List.{List, [], ◌∷◌, ◌++◌, append_assoc}
use native.Mathlib.Nat.{zero-add, add-zero, add_assoc}
use native.Mathlib.Numerals.{add-one}
use native.Mathlib.Omega.{arith}
use lib.ListN.{length, take, drop, set, length-append, length-drop, take-append-drop}
use lib.Seq.{length-take-le, take_at, drop_at, drop-drop, sets, sets-eq}
use Rattle.model.specs.Common.{joined}
use Rattle.model.specs.Line.{digit_of, digits_of, line}
use Rattle.lines.specs.Write.{overwritten}

-- the empty text changes nothing
pub put_nothing : (buffer : List ℕ) (at : ℕ) → overwritten buffer at [] ≡ buffer
unfolding overwritten
put_nothing buffer at = rw (add-zero at) (take-append-drop at buffer)

-- a text at the front
pub put_front : (buffer text : List ℕ) → overwritten buffer 0 text ≡ text ++ drop (length text) buffer
unfolding overwritten
put_front buffer text = rw (zero-add (length text))

-- a buffer that holds the text keeps its length
pub put_length : (buffer : List ℕ) (at : ℕ) (text : List ℕ) → at + length text ≤ length buffer → length (overwritten buffer at text) ≡ length buffer
unfolding overwritten
put_length buffer at text fits =
    simp (length-append, length-drop) (omega (arith, length-take-le at buffer (omega arith)))

-- two texts, one behind the other
pub put_append : (buffer : List ℕ) (at : ℕ) (s t : List ℕ) → at + length s ≤ length buffer → overwritten (overwritten buffer at s) (at + length s) t ≡ overwritten buffer at (s ++ t)
unfolding overwritten
put_append buffer at s t fits =
    let n = at + length s in
    let head = take at buffer ++ s in
    let tail = drop n buffer in
    let split : overwritten buffer at s ≡ head ++ tail = sym (append_assoc (take at buffer) s tail) in
    let size : length head ≡ n = length-append (take at buffer) s ∙ ap (λ (k : ℕ). k + length s) (length-take-le at buffer (omega arith)) in
    let front : take n (overwritten buffer at s) ≡ head = ap (take n) split ∙ take_at head tail n size in
    let back : drop (n + length t) (overwritten buffer at s) ≡ drop (at + length (s ++ t)) buffer =
    sym (drop-drop (length t) n (overwritten buffer at s))
    ∙ ap (λ (l : List ℕ). drop (length t) (drop n l)) split
    ∙ ap (drop (length t)) (drop_at head tail n size)
    ∙ drop-drop (length t) n buffer
    ∙ ap (λ (k : ℕ). drop k buffer) (add_assoc at (length s) (length t) ∙ ap (λ (k : ℕ). at + k) (sym (length-append s t))) in
    ap₂ (λ (a b : List ℕ). a ++ (t ++ b)) front back
    ∙ append_assoc (take at buffer) s (t ++ drop (at + length (s ++ t)) buffer)
    ∙ ap (λ (l : List ℕ). take at buffer ++ l) (sym (append_assoc s t (drop (at + length (s ++ t)) buffer)))

-- stores one behind the other put a text
pub stores : (text buffer : List ℕ) (at : ℕ) → at + length text ≤ length buffer → sets buffer at text ≡ overwritten buffer at text
unfolding overwritten
stores text buffer at fits =
    sets-eq text buffer at fits ∙ append_assoc (take at buffer) text (drop (at + length text) buffer)

-- two stores put the digits of a byte
pub stores_byte : (buffer : List ℕ) (at byte : ℕ) {h l : ℕ} → at + 2 ≤ length buffer → h ≡ digit_of (byte / 16) → l ≡ digit_of (byte % 16) → set (set buffer at h) (at + 1) l ≡ overwritten buffer at (digits_of (byte ∷ []))
unfolding digits_of joined
stores_byte buffer at byte {h} {l} fits p q =
    rw (add-one at) (stores (h ∷ l ∷ []) buffer at fits)
    ∙ ap₂ (λ (x y : ℕ). overwritten buffer at (x ∷ y ∷ [])) p q

-- a second text put behind a first, as two calls leave it
pub put_then : (buffer : List ℕ) (at : ℕ) (s t : List ℕ) {first second : List ℕ} {next : ℕ} → at + length s ≤ length buffer → next ≡ at + length s → first ≡ overwritten buffer at s → second ≡ overwritten first next t → second ≡ overwritten buffer at (s ++ t)
put_then buffer at s t fits p e f =
    f ∙ ap₂ (λ (b : List ℕ) (n : ℕ). overwritten b n t) e p ∙ put_append buffer at s t fits

-- the digits of bytes, one part behind the other
pub digits_append : (s t : List ℕ) → digits_of (s ++ t) ≡ digits_of s ++ digits_of t
unfolding digits_of joined
digits_append [] t = refl
digits_append (b ∷ s) t = ap (λ (l : List ℕ). digit_of (b / 16) ∷ digit_of (b % 16) ∷ l) (digits_append s t)

-- two digits a byte
pub digits_length : (s : List ℕ) → length (digits_of s) ≡ 2 * length s
unfolding digits_of joined
digits_length [] = refl
digits_length (b ∷ s) = omega (arith, digits_length s)

-- a second part of a line's bytes put behind a first, as two calls leave them
pub put_digits : (buffer : List ℕ) (at : ℕ) (s t : List ℕ) {first second : List ℕ} {next : ℕ} → at + 2 * length s ≤ length buffer → next ≡ at + 2 * length s → first ≡ overwritten buffer at (digits_of s) → second ≡ overwritten first next (digits_of t) → second ≡ overwritten buffer at (digits_of (s ++ t))
put_digits buffer at s t fits p e f =
    put_then buffer at (digits_of s) (digits_of t) (omega (arith, digits_length s)) (omega (arith, digits_length s)) e f
    ∙ ap (overwritten buffer at) (sym (digits_append s t))

-- a 0A put behind a line's bytes closes the line
pub put_line : (buffer : List ℕ) (at : ℕ) (s : List ℕ) {first second : List ℕ} {next : ℕ} → at + 2 * length s ≤ length buffer → next ≡ at + 2 * length s → first ≡ overwritten buffer at (digits_of s) → second ≡ overwritten first next (10 ∷ []) → second ≡ overwritten buffer at (line s)
unfolding line
put_line buffer at s fits p e f =
    put_then buffer at (digits_of s) (10 ∷ []) (omega (arith, digits_length s)) (omega (arith, digits_length s)) e f

-- a line is two digits a byte and a 0A
pub line_length : (s : List ℕ) → length (line s) ≡ 2 * length s + 1
unfolding line
line_length s = rw (length-append (digits_of s) (10 ∷ [])) (omega (arith, digits_length s))
