-- A line read in place: the answer for a line that starts at a place of the file, and the byte of the two digits at a place.
use Rattle.std.specs.Prelude.{ℕ, ◌+◌, ◌*◌, Bool, List, length, drop, get_or, eqb, Option, Some, None}
use Rattle.std.proofs.Math.Option as Maybe
use Rattle.std.proofs.Math.Option.{none, some}
use Rattle.model.specs.Common.{is_some, up_to}
use Rattle.model.specs.Line.{digit, read_line}

-- what a reading at a place answers: the place of the line's 0A, two digits a byte further on, or nothing for a broken line
unfoldable pub as_line : ℕ → Maybe.Option (List ℕ × List ℕ) → Option ℕ
as_line at none = None
as_line at (some frame) = Some (at + 2 * length frame.0)

-- the line that starts at a place of the file
unfoldable pub line_at : List ℕ → ℕ → Option ℕ
line_at file at = as_line at (read_line (drop at file))

-- the value of a digit, and 0 for another character
unfoldable pub value : ℕ → ℕ
value c = Maybe.get_or (digit c) 0

-- the byte of the two digits at a place, high digit first
unfoldable pub byte_at : List ℕ → ℕ → ℕ
byte_at file at = value (get_or file at 0) * 16 + value (get_or file (at + 1) 0)

-- whether a character is a digit
unfoldable pub is_digit : ℕ → Bool
is_digit c = is_some (digit c)

-- the first place at or after `at` without a digit
unfoldable pub digits_end : List ℕ → ℕ → ℕ
digits_end file at = at + length (up_to is_digit (drop at file))

-- whether a 0A stands at a place
unfoldable pub closes : List ℕ → ℕ → Bool
closes file at = eqb (get_or file at 0) 10
