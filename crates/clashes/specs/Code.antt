-- A clash as one number, so that a list of clashes is an array of 16-bit numbers.
-- i and j are below 24 and d is from −22 to 22, so the number's parts give i, j and d back.
use Rattle.std.specs.Prelude.{ℕ, ◌+◌, ◌*◌, ◌-◌, ◌/◌, ◌%◌, ℤ, pos, negsuc}
use Rattle.std.proofs.Math.IntN.{sub_ℕ}
use Rattle.model.specs.Clash.{Clash}

-- d + 22, for a distance of −22 or more
unfoldable pub lift : ℤ → ℕ
lift (pos k) = 22 + k
lift (negsuc k) = 21 - k

-- i, then j in 5 bits, then d + 22 in 6 bits
unfoldable pub code_of : Clash → ℕ
code_of c = c.i * 2048 + c.j * 64 + lift c.d

-- the clash of a code
unfoldable pub clash_of : ℕ → Clash
clash_of x = record { i = x / 2048; j = x / 64 % 32; d = sub_ℕ (x % 64) 22 }
