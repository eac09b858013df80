-- The rest line as the code writes it: from a station and its rest.
use Rattle.std.specs.Prelude.{ℕ, List}
use Rattle.model.specs.Rest.{rest_text}

unfoldable pub rest_as : ℕ → ℕ → List ℕ
rest_as station ticks = rest_text (record { station = station; ticks = ticks })
