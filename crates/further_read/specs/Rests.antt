-- Kind A4 as all its lines are read, and what the code answers for them.
use Rattle.std.specs.Prelude.{ℕ, zero, suc, List, [], ◌∷◌, length}
use Rattle.model.specs.Common.{Outcome, accept, ◌>>=◌}
use Rattle.model.specs.Rest.{RestLine, rests_of, rest}
use Rattle.model.specs.Open.{read_kind}
use Rattle.frame_read.specs.Answer.{place_of}
use Rattle.frame_read.specs.Rest.{rest_told}

-- the lines of the kind, from the front of what is left of the file
unfoldable pub read_rests : List ℕ → Outcome (List RestLine × List ℕ)
read_rests file = read_kind 0xA4 rest (length file) [] file

-- each station's rest and the place behind the lines, or the refusal
unfoldable pub rests_told : List ℕ → Outcome (List RestLine × List ℕ) → Outcome (List ℕ × ℕ)
rests_told file o = o >>= λ (lines, rest). accept (rests_of lines, place_of file rest)

-- ---- by the lowest station that is left, in place of the lines before

-- lines whose stations are below
unfoldable pub rests_below : ℕ → List RestLine
rests_below zero = []
rests_below (suc station) = record { station = station; ticks = 0 } ∷ []

-- a frame after such lines
unfoldable pub rest_from : ℕ → List ℕ → Outcome (ℕ × ℕ)
rest_from low f = rest_told (rest (rests_below low) f)
