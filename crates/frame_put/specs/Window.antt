-- The window line as the code writes it: from a job and its place in the record.
use Rattle.std.specs.Prelude.{ℕ, List}
use Rattle.model.specs.declared.Window.{Window}
use Rattle.model.specs.Window.{window_text}

unfoldable pub window_as : ℕ → Window → List ℕ
window_as job w = window_text (record { job = job; earliest = w.earliest; latest = w.latest })
