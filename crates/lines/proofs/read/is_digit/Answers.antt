-- `is_digit` tests the ranges of the digits.
use native.Mathlib.Omega.{arith}
use Rattle.model.specs.Common.{is_some}
use Rattle.lines.proofs.Digit.{test_by, digit_number, digit_letter, digit_below, digit_amid, digit_above}
use Rattle.lines.proofs.read.is_digit.Goals as goal

pub returns-in-48-to-57 : goal.returns-in-48-to-57
unfolding is_some
returns-in-48-to-57 c = test_by _ (digit_number _ (omega arith) (omega arith))

pub returns-in-48-to-57-2 : goal.returns-in-48-to-57-2
unfolding is_some
returns-in-48-to-57-2 c = test_by _ (digit_letter _ (omega arith) (omega arith))

pub returns-in_default : goal.returns-in_default
unfolding is_some
returns-in_default c = test_by _ (digit_below _ (omega arith))

pub returns-in_default-2 : goal.returns-in_default-2
unfolding is_some
returns-in_default-2 c = test_by _ (digit_amid _ (omega arith) (omega arith))

pub returns-in_default-3 : goal.returns-in_default-3
unfolding is_some
returns-in_default-3 c = test_by _ (digit_above _ (omega arith))
