-- `rest_frame` asks the kind and length, and then the station and the rest.
use Prim.Native.Nat.{ℕ}
use mathlib.Core.Path.{ap, ap₂, sym, ◌∙◌}
use Rattle.model.specs.Common.{accept, ◌>>=◌}
use Rattle.model.specs.Common.{between}
use Rattle.model.specs.Limits.{most_rest}
use Rattle.model.specs.Rest.{station_rises, rest}
use Rattle.model.specs.Refusal.{number, told}
use Rattle.frame_read.specs.Rest.{rest_station, rest_told}
use Rattle.frame_read.proofs.NumberedLaws.{frame_kind, frame_number, frame_own, frame_read}
use Rattle.frame_read.proofs.rest.rest_frame.Goals as goal
use Rattle.frame_read.proofs.rest.rest_frame.Goals.{then-not-rises-via-then-not-rises, then-not-rises-via-else-not-rises+then-not-rest_line_ok}

pub returns-then-not-is : goal.returns-then-not-is
unfolding rest station_rises rest_told told number ◌>>=◌
returns-then-not-is c before lowest = sym (ap rest_told (frame_kind rest_station 0xA4 3 _ 21 _ _ before lowest _ _ c.if-not-is.ensures))

pub returns-then-not-rises : goal.returns-then-not-rises
unfolding rest station_rises rest_told told number ◌>>=◌
returns-then-not-rises c before lowest =
    elim c.then-not-rises.branch [
      | then-not-rises-via-then-not-rises w ↦ sym (ap rest_told (frame_number rest_station 0xA4 3 _ 21 _ _ before lowest _ _ c.if-not-is.ensures _ c.byte-station.ensures w.if-not-rises.ensures))
      | then-not-rises-via-else-not-rises+then-not-rest_line_ok w ↦ sym (ap rest_told (frame_own rest_station 0xA4 3 _ 21 _ _ before lowest _ _ c.if-not-is.ensures _ c.byte-station.ensures w.if-not-rises.ensures (w.if-not-rest_line_ok.ensures ∙ ap (λ (r : ℕ). between 1 r most_rest) c.byte-ticks.ensures)))
    ]

pub returns : goal.returns
unfolding rest station_rises rest_told told number ◌>>=◌
returns c before lowest =
    ap₂ (λ (s t : ℕ). accept (s, t)) c.byte-station.ensures c.byte-ticks.ensures
    ∙ sym (ap rest_told (frame_read rest_station 0xA4 3 _ 21 _ _ before lowest _ _ c.if-not-is.ensures _ c.byte-station.ensures c.if-not-rises.ensures (c.if-not-rest_line_ok.ensures ∙ ap (λ (r : ℕ). between 1 r most_rest) c.byte-ticks.ensures)))
