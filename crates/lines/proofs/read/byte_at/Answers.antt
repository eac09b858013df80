-- `byte_at` reads two digits' values, which are below 16, so that the byte fits.
use Prim.Native.Nat.{ℕ, ◌+◌, ◌*◌}
use mathlib.Core.Path.{ap₂}
use native.Mathlib.Omega.{arith}
use Rattle.lines.specs.Read.{byte_at}
use Rattle.lines.proofs.Digit.{value_below}
use Rattle.lines.proofs.read.byte_at.Goals as goal

pub overflow_mul-result : goal.overflow_mul-result
overflow_mul-result c = omega (arith, value_below _ _ c.digit_value-high.ensures, value_below _ _ c.digit_value-low.ensures)

pub overflow_add-result : goal.overflow_add-result
overflow_add-result c = omega (arith, value_below _ _ c.digit_value-high.ensures, value_below _ _ c.digit_value-low.ensures)

pub returns : goal.returns
unfolding byte_at
returns c = ap₂ (λ (h l : ℕ). h * 16 + l) c.digit_value-high.ensures c.digit_value-low.ensures
