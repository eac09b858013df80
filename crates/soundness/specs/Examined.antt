-- What examining a record yields: what a run works on, if the record is sound.
use Rattle.std.specs.Prelude.{◌≡◌, Bool, true, false, ◌&&◌, leb, Option, MatchOption}
use Rattle.model.specs.declared.Search.{Search}
use Rattle.model.specs.Limits.{most_total}
use Rattle.model.specs.Search.{turns_of}
use Rattle.model.specs.Sound.{sound_path, sound_best, sound}
use Rattle.clashes.specs.List.{list_of}
use Rattle.weights.specs.Delays.{delays_read}
use Rattle.times.specs.Stays.{stays_read}
use Rattle.times.specs.Ends.{earliest_read, latest_read}
use Rattle.soundness.specs.declared.Examined.{Examined}
use Rattle.soundness.specs.Path.{Coded}

-- the part of a sound record beside its batch
unfoldable pub state_sound : Search → Bool
state_sound s = sound_path s && leb s.total most_total && sound_best s.batch.n s.best s.starts

-- what a run works on: the clash list, the delays, the stays and the ends as arrays, and the path's turns as numbers
pub record Prepared (s : Search) (r : Examined) : Type 0 where
  pub clashes : r.clashes ≡ list_of s.batch
  pub delays : r.delays ≡ delays_read s.batch
  pub stays : r.stays ≡ stays_read s.batch
  pub earliest : r.ends.earliest ≡ earliest_read s.batch
  pub latest : r.ends.latest ≡ latest_read s.batch
  pub path : Coded (turns_of s.path) r.route.turns r.route.depth

-- what a run works on exactly where the record is sound
abbrev pub Examines : Search → Option Examined → Type 0
Examines s r = MatchOption r (sound s ≡ false) (λ x. (sound s ≡ true) × Prepared s x)
