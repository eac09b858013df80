-- Kind A4: the rest ticks of a station (02, Q-5). Its line, its limits, the frame that is read, and its places in the record.
use Rattle.std.specs.Prelude.{ℕ, ◌≤◌, ◌<◌, Bool, ◌&&◌, not, List, [], ◌∷◌, map, leb, eqb}
use Rattle.model.specs.declared.Batch.{Batch}
use Rattle.model.specs.Common.{between, count, keep, Outcome, accept, ◌>>=◌, require}
use Rattle.model.specs.Limits.{stations, most_rest}
use Rattle.model.specs.Batch.{rest_of}
use Rattle.model.specs.Line.{at, frame_is, line}
use Rattle.model.specs.Numbered.{rises, place_in}

-- ---- the line: A4, station, r

pub record RestLine : Type 0 where
  pub station : ℕ
  pub ticks : ℕ

unfoldable pub rest_text : RestLine → List ℕ
rest_text l = line (0xA4 ∷ l.station ∷ l.ticks ∷ [])

-- ---- the lines of a batch: one for each station that rests, stations rising

unfoldable pub rested : Batch → ℕ → Bool
rested b s = not (eqb (rest_of b s) 0)

unfoldable pub rest_line : Batch → ℕ → RestLine
rest_line b s = record { station = s; ticks = rest_of b s }

unfoldable pub rest_lines : Batch → List RestLine
rest_lines b = map (rest_line b) (keep (rested b) (count 0 stations))

-- ---- and the record's places for lines: a station without one rests 0 ticks

unfoldable pub rest_in : List RestLine → ℕ → ℕ
rest_in ls s = place_in (λ (l : RestLine). l.station) (λ l. l.ticks) 0 ls s

unfoldable pub rests_of : List RestLine → List ℕ
rests_of ls = map (rest_in ls) (count 0 stations)

-- ---- the limits: up to 7 ticks

unfoldable pub WithinRests : Batch → Type 0
WithinRests b = (s : ℕ) → s < stations → rest_of b s ≤ most_rest

-- the same as a test, of every record
unfoldable pub rest_ok : Batch → ℕ → Bool
rest_ok b s = leb (rest_of b s) most_rest

-- ---- the frame, after other lines of the kind: refusal 2, then 21

-- at most 15, and above every station before it
unfoldable pub station_rises : List RestLine → ℕ → Bool
station_rises before s = rises (λ (l : RestLine). l.station) stations before s

unfoldable pub rest : List RestLine → List ℕ → Outcome RestLine
rest before f = do
  _ ← require 2 (frame_is 0xA4 3 f)
  _ ← require 21 (station_rises before (at f 1) && between 1 (at f 2) most_rest)
  accept (record { station = at f 1; ticks = at f 2 })
