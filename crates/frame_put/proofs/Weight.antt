-- A weight of 16 bits in two's complement: the bits that hold it, as a number.
use mathlib.Core.Path.{◌≡◌, refl, ap, ◌∙◌}
use Prim.Native.Nat.{ℕ}
use native.Mathlib.Omega.{arith}
use lib.IntN.{ℤ, pos, negsuc}
use mir.Syntax.{w16}
use mir.Val.{SFits, to_z, of_z}
use mir.ValLaws.{to_z-of_z}
use Rattle.model.specs.Format.{unsigned}

bits_of : (w : ℤ) → of_z w16 w ≡ unsigned w
unfolding unsigned
bits_of (pos k) = refl
bits_of (negsuc k) = omega arith

-- as the code holds it, and gives its bits
pub weight_bits : (w : ℤ) (bits : ℕ) → SFits w16 w → bits ≡ of_z w16 (to_z w16 (of_z w16 w)) → bits ≡ unsigned w
weight_bits w bits fits e = e ∙ ap (of_z w16) (to_z-of_z w16 w fits) ∙ bits_of w
