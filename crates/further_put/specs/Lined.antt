-- A line that stands only where a number is not 0, a job's flag or a station's rest.
use Rattle.std.specs.Prelude.{ℕ, not, List, [], eqb, if◌then◌else◌}

unfoldable pub line_if : ℕ → List ℕ → List ℕ
line_if number line = if not (eqb number 0) then line else []
