-- What a job's place in the record puts into the text: its window line, and nothing where the place has no line.
use Rattle.std.specs.Prelude.{ℕ, List}
use Rattle.model.specs.declared.Window.{Window}
use Rattle.frame_put.specs.Window.{window_as}
use Rattle.further_put.specs.Lined.{line_if}

unfoldable pub window_piece : ℕ → Window → List ℕ
window_piece job w = line_if w.lined (window_as job w)
