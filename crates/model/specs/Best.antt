-- The incumbent's latency, if there is an incumbent.
use Rattle.std.specs.Prelude.{ℕ, Option}

abbrev pub Best : Type 0
Best = Option ℕ
