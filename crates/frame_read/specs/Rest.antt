-- Kind A4 as a frame is read: a line's number, and what the code answers for a line.
use Rattle.std.specs.Prelude.{ℕ}
use Rattle.model.specs.Common.{Outcome, accept, ◌>>=◌}
use Rattle.model.specs.Rest.{RestLine}

abbrev pub rest_station : RestLine → ℕ
rest_station l = l.station

-- the station and its rest, or the refusal
unfoldable pub rest_told : Outcome RestLine → Outcome (ℕ × ℕ)
rest_told o = o >>= λ l. accept (l.station, l.ticks)
