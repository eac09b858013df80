-- What a station's rest puts into the text: its rest line, and nothing where the station has none.
use Rattle.std.specs.Prelude.{ℕ, List}
use Rattle.frame_put.specs.Rest.{rest_as}
use Rattle.further_put.specs.Lined.{line_if}

unfoldable pub rest_piece : ℕ → ℕ → List ℕ
rest_piece station ticks = line_if ticks (rest_as station ticks)
