-- Kind A4 as one of the kinds whose numbers rise.
use Prim.Native.Nat.{ℕ, zero, suc, ◌≤◌, ◌<◌}
use mathlib.Core.Path.{◌≡◌, refl, ap, sym, ◌∙◌}
use mathlib.Core.Bool.{Bool, ◌&&◌}
use mathlib.Core.List.{List, []}
use native.Mathlib.Omega.{arith}
use lib.Dec.{ltb}
use Rattle.model.specs.Common.{between, accept, ◌>>=◌, require}
use Rattle.model.specs.Limits.{stations, most_rest}
use Rattle.model.specs.Line.{at as byte_of, frame_is}
use Rattle.model.specs.Numbered.{rises}
use Rattle.model.specs.Rest.{RestLine, station_rises, rest}
use Rattle.model.proofs.OutcomeLaws.{accept_eq, bind_accepts}
use Rattle.frame_read.specs.Numbered.{Lowest}
use Rattle.frame_read.specs.Rest.{rest_station, rest_told}
use Rattle.frame_read.proofs.NumberedLaws.{frame_limits}
use Rattle.further_read.specs.Rests.{rests_below, rest_from}
use Rattle.further_read.proofs.NumberedLaws.{lowest_none, lowest_more}
use Rattle.further_read.proofs.NumberedKind.{Numbers}

-- a rest that was read names a station below 16, not below those that are left
pub rest_limits : (low : ℕ) (before : List RestLine) (f : List ℕ) (l : RestLine) → Lowest rest_station low before → rest before f ≡ accept l → (l.station < stations) × (low ≤ l.station)
unfolding rest station_rises
rest_limits low before f l lowest e = frame_limits rest_station 0xA4 3 stations 21 low f before lowest _ _ l refl e

-- lines whose stations are below
pub rests_lowest : (low : ℕ) → Lowest rest_station low (rests_below low)
unfolding rests_below
rests_lowest zero = lowest_none rest_station
rests_lowest (suc station) = lowest_more rest_station 0 [] (record { station = station; ticks = 0 }) (lowest_none rest_station) (omega arith)

-- any lines with the same lowest station that is left are read on from alike
pub rest_same : (low : ℕ) (before : List RestLine) (f : List ℕ) → Lowest rest_station low before → rest_from low f ≡ (rest before f >>= λ l. accept (l.station, l.ticks))
unfolding rest_from rest_told rest station_rises rises Lowest
rest_same low before f lowest =
    ap (λ (t : Bool). rest_told (require 2 (frame_is 0xA4 3 f) >>= λ u. require 21 ((ltb (byte_of f 1) stations && t) && between 1 (byte_of f 2) most_rest) >>= λ v. accept (record { station = byte_of f 1; ticks = byte_of f 2 })))
    (rests_lowest low (byte_of f 1) ∙ sym (lowest (byte_of f 1)))

-- a station that was read is below 16
pub rest_below : (low : ℕ) (f : List ℕ) (i p : ℕ) → rest_from low f ≡ accept (i, p) → i < stations
unfolding rest_from rest_told
rest_below low f i p e =
    let s = bind_accepts (rest (rests_below low) f) _ (i, p) e in
    let z : ◌≡◌ {A = ℕ × ℕ} (s.0.station, s.0.ticks) (i, p) = accept_eq s.2 in
    omega (arith, ap (λ (q : ℕ × ℕ). q.0) z, (rest_limits low (rests_below low) f s.0 (rests_lowest low) s.1).0)

abbrev pub rest_numbers : Numbers RestLine ℕ
rest_numbers =
    record {
      kind = 0xA4;
      limit = stations;
      size = stations;
      number = rest_station;
      place = λ l. l.ticks;
      blank = 0;
      frame = rest;
      one = rest_from;
      room = omega arith;
      limits = rest_limits;
      same = rest_same;
    }
