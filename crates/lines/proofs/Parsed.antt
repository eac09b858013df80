-- The first line of a file that was read: as many digits as the code counts, closed by a 0A, and each byte the value of two digits.
use Prim.Native.Nat.{ℕ, zero, suc, ◌+◌, ◌*◌, ◌%◌, ◌<◌}
use mathlib.Core.Path.{◌≡◌, refl, ap, ap₂, sym, ◌∙◌, subst}
use mathlib.Core.Bool.{Bool, true, false, not}
use mathlib.Core.Option.{Option, none, some}
use mathlib.Core.List.{List, [], ◌∷◌}
use native.Mathlib.Omega.{arith}
use lib.ListN.{length, get_or, drop, length-drop}
use lib.Seq.{drop-drop}
use lib.Dec.{eqb}
use borrow.Author.Tests.{eqb-true, not-false, eq-eqb, ne_eqb}
use Rattle.model.specs.Common.{between, all, up_to, is_some}
use Rattle.model.specs.Line.{digit, bytes_of, line_of, frame_bytes, read_line}
use Rattle.lines.specs.Read.{value, is_digit, byte_at}
use Rattle.lines.proofs.UpTo.{up_to_next, up_to_at, up_to_agree, up_to_all, all_weaken}
use Rattle.lines.proofs.Bytes.{Whole, Known, known}

-- the test of a character that belongs to a line
abbrev not_end : ℕ → Bool
not_end x = not (eqb x 10)

-- what a line is made of that was read from a file's start
pub record Parsed (file bytes rest : List ℕ) : Type 0 where
  pub full : 0 < length bytes
  pub stop : length (up_to is_digit file) ≡ 2 * length bytes
  pub closed : get_or file (2 * length bytes) 0 ≡ 10
  pub inside : 2 * length bytes < length file
  pub after : rest ≡ drop (2 * length bytes + 1) file
  pub each : (k : ℕ) → k < length bytes → get_or bytes k 0 ≡ byte_at file (2 * k)

-- a line that was read has bytes, and a character behind its digits
frame_parts : (o : Option (List ℕ)) (after bytes rest : List ℕ) → frame_bytes o after ≡ some (bytes, rest) → (o ≡ some bytes) × ((0 < length bytes) × ((c : ℕ) × (after ≡ c ∷ rest)))
unfolding frame_bytes
frame_parts none after bytes rest e = let z : ◌≡◌ {A = ℕ} 0 1 = cc in absurd (omega arith)
frame_parts (some []) after bytes rest e = let z : ◌≡◌ {A = ℕ} 0 1 = cc in absurd (omega arith)
frame_parts (some (b ∷ bs)) [] bytes rest e = let z : ◌≡◌ {A = ℕ} 0 1 = cc in absurd (omega arith)
frame_parts (some (b ∷ bs)) (c ∷ r) bytes rest e =
    let z : ◌≡◌ {A = List ℕ × List ℕ} (b ∷ bs, r) (bytes, rest) = cc in
    let s : (b ∷ bs) ≡ bytes = ap (λ (p : List ℕ × List ℕ). p.0) z in
    (ap some s, (omega (arith, ap length s), (c, ap (λ (p : List ℕ × List ℕ). c ∷ p.1) z)))

-- 0A is no digit
end_not_digit : (c : ℕ) → c ≡ 10 → is_digit c ≡ false
unfolding is_digit is_some digit between
end_not_digit c e = ap is_digit e

-- the bytes of the items before the first that fails are those of the list
byte_within : (f : ℕ → Bool) (file : List ℕ) (k : ℕ) → k + 1 < length (up_to f file) → byte_at (up_to f file) k ≡ byte_at file k
unfolding byte_at
byte_within f file k l =
    ap₂ (λ (a b : ℕ). value a * 16 + value b) (up_to_at f file k (omega arith)) (up_to_at f file (k + 1) l)

-- what follows the characters before the first 0A, where something follows
record Closed (file rest : List ℕ) (n : ℕ) : Type 0 where
  inside : n < length file
  closed : get_or file n 0 ≡ 10
  after : rest ≡ drop (n + 1) file

-- it is a 0A
closing : (file : List ℕ) (c : ℕ) (rest : List ℕ) → drop (length (line_of file)) file ≡ c ∷ rest → Closed file rest (length (line_of file))
unfolding line_of
closing file c rest q =
    let n = length (line_of file) in
    let inside : n < length file = omega (arith, sym (ap length q) ∙ length-drop n file) in
    let next = up_to_next not_end file inside in
    record {
      inside = inside;
      closed = eqb-true (get_or file n 0) 10 (not-false (eqb (get_or file n 0) 10) next);
      after = sym (ap (λ (l : List ℕ). drop 1 l) q) ∙ drop-drop 1 n file;
    }

-- the line's characters are the digits that the file starts with
stops : (file : List ℕ) → all is_digit (line_of file) ≡ true → get_or file (length (line_of file)) 0 ≡ 10 → up_to is_digit file ≡ line_of file
unfolding line_of
stops file d e =
    up_to_agree not_end is_digit file d (end_not_digit (get_or file (length (line_of file)) 0) e)

-- the parts of a line together
parsed_by : (file bytes rest : List ℕ) → 0 < length bytes → Whole (line_of file) bytes → Closed file rest (length (line_of file)) → Parsed file bytes rest
unfolding line_of
parsed_by file bytes rest f w c =
    record {
      full = f;
      stop = ap length (stops file w.digits c.closed) ∙ w.size;
      closed = rw (← w.size) c.closed;
      inside = omega (arith, w.size, c.inside);
      after = c.after ∙ ap (λ (n : ℕ). drop (n + 1) file) w.size;
      each = λ k l. w.each k ∙ byte_within not_end file (2 * k) (omega (arith, w.size));
    }

-- a line that was read is made so
pub parsed : (file bytes rest : List ℕ) → read_line file ≡ some (bytes, rest) → Parsed file bytes rest
unfolding read_line
parsed file bytes rest e =
    let p = frame_parts (bytes_of (line_of file)) (drop (length (line_of file)) file) bytes rest e in
    parsed_by file bytes rest p.1.0 (subst (Known (line_of file)) p.0 (known (line_of file))) (closing file p.1.1.0 rest p.1.1.1)

-- an even count of digits, not 0, and a character behind them are a line
frame_made : (o : Option (List ℕ)) (cs : List ℕ) → Known cs o → (after : List ℕ) → all is_digit cs ≡ true → length cs % 2 ≡ 0 → 0 < length cs → 0 < length after → (bytes : List ℕ) × ((rest : List ℕ) × (frame_bytes o after ≡ some (bytes, rest)))
unfolding frame_bytes
frame_made none cs w after a e l m = absurd (w a e)
frame_made (some []) cs w after a e l m = absurd (omega (arith, w.size))
frame_made (some (b ∷ bs)) cs w [] a e l m = absurd (omega arith)
frame_made (some (b ∷ bs)) cs w (c ∷ rest) a e l m = (b ∷ bs, (rest, refl))

-- a digit is not 0A
digit_not_end : (c : ℕ) → is_digit c ≡ true → not_end c ≡ true
digit_not_end c h = ap not (ne_eqb c 10 (λ e. let n = end_not_digit c e in let z : ◌≡◌ {A = ℕ} 0 1 = cc in omega arith))

-- a 0A stands within the file
within : (file : List ℕ) (n : ℕ) → get_or file n 0 ≡ 10 → n < length file
within [] n e = absurd (omega arith)
within (x ∷ xs) zero e = omega arith
within (x ∷ xs) (suc n) e = omega (arith, within xs n e)

-- an even count of digits, not 0, with a 0A behind them, is read
pub parses : (file : List ℕ) → 0 < length (up_to is_digit file) → length (up_to is_digit file) % 2 ≡ 0 → get_or file (length (up_to is_digit file)) 0 ≡ 10 → (bytes : List ℕ) × ((rest : List ℕ) × (read_line file ≡ some (bytes, rest)))
unfolding read_line line_of
parses file l e c =
    let d = up_to is_digit file in
    let same : line_of file ≡ d = up_to_agree is_digit not_end file (all_weaken is_digit not_end digit_not_end d (up_to_all is_digit file)) (ap not (eq-eqb (get_or file (length d) 0) 10 c)) in
    frame_made (bytes_of (line_of file)) (line_of file) (known (line_of file)) (drop (length (line_of file)) file)
    (ap (all is_digit) same ∙ up_to_all is_digit file) (ap (λ (x : List ℕ). length x % 2) same ∙ e) (omega (arith, ap length same))
    (rw (length-drop (length (line_of file)) file) (omega (arith, ap length same, within file (length d) c)))
