-- `digit_value` takes a digit's value by its range.
use Prim.Native.Nat.{◌+◌, ◌-◌}
use mathlib.Core.Path.{◌≡◌, ◌∙◌}
use native.Mathlib.Omega.{arith}
use Rattle.lines.proofs.Digit.{value_by, digit_number, digit_letter, digit_below, digit_amid, digit_above}
use Rattle.lines.proofs.read.digit_value.Goals as goal

pub returns-in-48-to-57 : goal.returns-in-48-to-57
returns-in-48-to-57 c = value_by _ (digit_number _ (omega arith) (omega arith))

pub returns-in-65-to-70 : goal.returns-in-65-to-70
returns-in-65-to-70 c = let up : c.args.c - 65 + 10 ≡ c.args.c - 55 = omega arith in
    up ∙ value_by _ (digit_letter _ (omega arith) (omega arith))

pub returns-in_default : goal.returns-in_default
returns-in_default c = value_by _ (digit_below _ (omega arith))

pub returns-in_default-2 : goal.returns-in_default-2
returns-in_default-2 c = value_by _ (digit_amid _ (omega arith) (omega arith))

pub returns-in_default-3 : goal.returns-in_default-3
returns-in_default-3 c = value_by _ (digit_above _ (omega arith))
