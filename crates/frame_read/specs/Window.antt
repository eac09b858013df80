-- Kind A3 as a frame is read: a line's number, and what the code answers for a line.
use Rattle.std.specs.Prelude.{ℕ}
use Rattle.model.specs.declared.Window.{Window}
use Rattle.model.specs.Common.{Outcome, accept, ◌>>=◌}
use Rattle.model.specs.Window.{WindowLine, window_place}

abbrev pub window_job : WindowLine → ℕ
window_job w = w.job

-- the job and its place, or the refusal
unfoldable pub window_told : Outcome WindowLine → Outcome (ℕ × Window)
window_told o = o >>= λ w. accept (w.job, window_place w)
