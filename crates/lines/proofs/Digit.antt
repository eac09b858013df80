-- The value of a digit, by the ranges of characters that the code tests: 0 to 9, A to F, and the three ranges of other characters.
use Rattle.std.specs.Prelude.{if◌then◌else◌}
use Prim.Native.Nat.{ℕ, ◌+◌, ◌-◌, ◌≤◌, ◌<◌}
use mathlib.Core.Path.{◌≡◌, refl, ap, sym}
use mathlib.Core.Bool.{Bool, true, false, ◌&&◌}
use mathlib.Core.Option
use mathlib.Core.Option.{Option, none, some}
use mathlib.Core.List.{List}
use native.Mathlib.Omega.{arith}
use native.Mathlib.Nat.{add_assoc}
use lib.ListN.{get_or, drop}
use lib.Seq.{get_or-drop}
use lib.Dec.{leb}
use borrow.Author.Tests.{le-leb, lt-leb, leb-true}
use Rattle.model.specs.Common.{between, is_some}
use Rattle.model.specs.Line.{digit}
use Rattle.lines.specs.Read.{value, is_digit, byte_at}

-- 0 to 9
pub digit_number : (c : ℕ) → 48 ≤ c → c < 58 → digit c ≡ some (c - 48)
unfolding digit between
digit_number c h k = simp (le-leb 48 c h, le-leb c 57 (omega arith))

-- A to F
pub digit_letter : (c : ℕ) → 65 ≤ c → c < 71 → digit c ≡ some (c - 55)
unfolding digit between
digit_letter c h k = simp (le-leb 48 c (omega arith), lt-leb c 57 (omega arith), le-leb 65 c h, le-leb c 70 (omega arith))

-- no digit: below 0
pub digit_below : (c : ℕ) → c < 48 → digit c ≡ none
unfolding digit between
digit_below c h = simp (lt-leb 48 c h, lt-leb 65 c (omega arith))

-- no digit: between 9 and A
pub digit_amid : (c : ℕ) → 58 ≤ c → c < 65 → digit c ≡ none
unfolding digit between
digit_amid c h k = simp (le-leb 48 c (omega arith), lt-leb c 57 (omega arith), lt-leb 65 c k)

-- no digit: above F
pub digit_above : (c : ℕ) → 71 ≤ c → digit c ≡ none
unfolding digit between
digit_above c h = simp (le-leb 48 c (omega arith), lt-leb c 57 (omega arith), le-leb 65 c (omega arith), lt-leb c 70 (omega arith))

-- the value goes by what the digit is
pub value_by : (c : ℕ) {o : Option ℕ} → digit c ≡ o → Option.get_or o 0 ≡ value c
unfolding value
value_by c e = sym (ap (λ (o : Option ℕ). Option.get_or o 0) e)

-- and so does the test
pub test_by : (c : ℕ) {o : Option ℕ} → digit c ≡ o → is_some o ≡ is_digit c
unfolding is_digit
test_by c e = sym (ap is_some e)

-- a digit's value is below 16
pub value_small : (c : ℕ) → value c < 16
unfolding value digit between
value_small c = go (leb 48 c) (leb c 57) refl (leb 65 c) (leb c 70) refl
  where
    go : (p q : Bool) → leb c 57 ≡ q → (r s : Bool) → leb c 70 ≡ s → Option.get_or (if p && q then some (c - 48) else if r && s then some (c - 55) else none) 0 < 16
    go true true h r s k = omega (arith, leb-true c 57 h)
    go true false h true true k = omega (arith, leb-true c 70 k)
    go true false h true false k = omega arith
    go true false h false s k = omega arith
    go false q h true true k = omega (arith, leb-true c 70 k)
    go false q h true false k = omega arith
    go false q h false s k = omega arith

-- and so is a number that equals it
pub value_below : (c r : ℕ) → r ≡ value c → r < 16
value_below c r e = omega (arith, value_small c)

-- two digits make a byte
pub byte_small : (file : List ℕ) (at : ℕ) → byte_at file at < 256
unfolding byte_at
byte_small file at = omega (arith, value_small (get_or file at 0), value_small (get_or file (at + 1) 0))

-- the byte at a place of a part is that of the whole at the part's start and the place
pub byte_drop : (start : ℕ) (file : List ℕ) (at : ℕ) → byte_at (drop start file) at ≡ byte_at file (start + at)
unfolding byte_at
byte_drop start file at = rw (get_or-drop start file at, get_or-drop start file (at + 1), ← add_assoc)
