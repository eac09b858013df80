-- The inequality of a turn on the clash with a code: from i to j with d + 1 on side 0, from j to i with 1 − d on side 1; 1,000 less its weight.
use Rattle.std.specs.Prelude.{ℕ, ◌+◌, ◌-◌, ◌/◌, ◌%◌, eqb, if◌then◌else◌}
use Rattle.weights.specs.declared.Inequality.{Inequality}

unfoldable pub turn_from : ℕ → ℕ → ℕ
turn_from clash turn = if eqb (turn % 2) 0 then clash / 2048 else clash / 64 % 32

unfoldable pub turn_to : ℕ → ℕ → ℕ
turn_to clash turn = if eqb (turn % 2) 0 then clash / 64 % 32 else clash / 2048

unfoldable pub turn_code : ℕ → ℕ → ℕ
turn_code clash turn = if eqb (turn % 2) 0 then 1021 - clash % 64 else clash % 64 + 977

abbrev pub turn_inequality : ℕ → ℕ → Inequality
turn_inequality clash turn = record { from = turn_from clash turn; to = turn_to clash turn; code = turn_code clash turn }
