-- Kind A3 as all its lines are read, and what the code answers for them.
use Rattle.std.specs.Prelude.{ℕ, zero, suc, List, [], ◌∷◌, length}
use Rattle.model.specs.declared.Window.{Window}
use Rattle.model.specs.Common.{Outcome, accept, ◌>>=◌}
use Rattle.model.specs.Window.{WindowLine, windows_of, window}
use Rattle.model.specs.Open.{read_kind}
use Rattle.frame_read.specs.Answer.{place_of}
use Rattle.frame_read.specs.Window.{window_told}

-- the lines of the kind, from the front of what is left of the file
unfoldable pub read_windows : ℕ → List ℕ → Outcome (List WindowLine × List ℕ)
read_windows n file = read_kind 0xA3 (window n) (length file) [] file

-- each job's place and the place behind the lines, or the refusal
unfoldable pub windows_told : List ℕ → Outcome (List WindowLine × List ℕ) → Outcome (List Window × ℕ)
windows_told file o = o >>= λ (lines, rest). accept (windows_of lines, place_of file rest)

-- ---- by the lowest job that is left, in place of the lines before

-- lines whose jobs are below
unfoldable pub windows_below : ℕ → List WindowLine
windows_below zero = []
windows_below (suc job) = record { job = job; earliest = 0; latest = 0 } ∷ []

-- a frame after such lines
unfoldable pub window_from : ℕ → ℕ → List ℕ → Outcome (ℕ × Window)
window_from n low f = window_told (window n (windows_below low) f)
