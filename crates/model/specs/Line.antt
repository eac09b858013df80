-- Lines: upper-case hexadecimal, two digits a byte, closed by byte 0A. Reading the first line of a file, what its bytes say, and writing one.
use Rattle.std.specs.Prelude.{ℕ, suc, ◌+◌, ◌-◌, ◌*◌, ◌/◌, ◌%◌, Bool, ◌&&◌, not, List, [], ◌∷◌, ◌++◌, length, get_or, drop, ltb, eqb, if◌then◌else◌}
use Rattle.std.proofs.Math.Option.{Option, none, some}
use Rattle.model.specs.Common.{between, up_to, joined}

-- the value of a digit: 0-9, A-F
unfoldable pub digit : ℕ → Option ℕ
digit c = if between 48 c 57 then some (c - 48) else if between 65 c 70 then some (c - 55) else none

-- the two digits of a byte before the bytes that follow; nothing if one of them is none
unfoldable pub byte : Option ℕ → Option ℕ → Option (List ℕ) → Option (List ℕ)
byte (some h) (some l) (some bs) = some ((h * 16 + l) ∷ bs)
byte (some h) (some l) none = none
byte (some h) none r = none
byte none l r = none

-- the bytes of a line's digits; nothing for an odd count or another character
unfoldable pub bytes_of : List ℕ → Option (List ℕ)
bytes_of [] = some []
bytes_of (h ∷ []) = none
bytes_of (h ∷ l ∷ cs) = byte (digit h) (digit l) (bytes_of cs)

-- the characters before the first 0A
unfoldable pub line_of : List ℕ → List ℕ
line_of file = up_to (λ c. not (eqb c 10)) file

-- a line has digits and is closed
unfoldable pub frame_bytes : Option (List ℕ) → List ℕ → Option (List ℕ × List ℕ)
frame_bytes none after = none
frame_bytes (some []) after = none
frame_bytes (some (b ∷ bs)) [] = none
frame_bytes (some (b ∷ bs)) (nl ∷ rest) = some (b ∷ bs, rest)

-- the bytes of the first line, and the rest of the file; nothing where it has no 0A, no digits, an odd count, or another byte
unfoldable pub read_line : List ℕ → Option (List ℕ × List ℕ)
read_line file = frame_bytes (bytes_of (line_of file)) (drop (length (line_of file)) file)

-- ---- a frame: the bytes of a line

-- byte k of a frame, and the two-byte number there
unfoldable pub at : List ℕ → ℕ → ℕ
at frame k = get_or frame k 0

unfoldable pub wide : List ℕ → ℕ → ℕ
wide frame k = at frame k * 256 + at frame (suc k)

-- a frame of this kind and length
unfoldable pub frame_is : ℕ → ℕ → List ℕ → Bool
frame_is kind size frame = eqb (at frame 0) kind && eqb (length frame) size

-- ---- writing

unfoldable pub digit_of : ℕ → ℕ
digit_of v = if ltb v 10 then v + 48 else v + 55

unfoldable pub digits_of : List ℕ → List ℕ
digits_of bytes = joined (λ b. digit_of (b / 16) ∷ digit_of (b % 16) ∷ []) bytes

unfoldable pub line : List ℕ → List ℕ
line bytes = digits_of bytes ++ (10 ∷ [])

-- numbers of two and of four bytes, high byte first
unfoldable pub two : ℕ → List ℕ
two v = (v / 256) ∷ (v % 256) ∷ []

unfoldable pub four : ℕ → List ℕ
four v = two (v / 65536) ++ two (v % 65536)
