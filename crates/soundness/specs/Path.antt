-- What reading a path yields.
use Rattle.std.specs.Prelude.{ℕ, ◌+◌, ◌*◌, ◌<◌, ◌≤◌, ◌≡◌, Bool, true, false, ◌&&◌, not, List, length, get_or, leb, ltb, Option, MatchOption}
use Rattle.model.specs.declared.Turn.{Turn}
use Rattle.model.specs.Common.{all}
use Rattle.model.specs.Search.{empty, is_turn, turns_of}
use Rattle.model.specs.Sound.{sound_turns}
use Rattle.soundness.specs.declared.path.Route.{Route}

-- a turn as one number, 2 * clash + side
abbrev pub turn_code : Turn → ℕ
turn_code t = 2 * t.clash + t.side

-- a turn with a listed clash, side 0 or 1, and a clash that is not marked
unfoldable pub turn_new : ℕ → List Bool → Turn → Bool
turn_new D marks t = ltb t.clash D && leb t.side 1 && not (get_or marks t.clash false)

-- the first `depth` places hold these turns as numbers
pub record Coded (ts : List Turn) (turns : List ℕ) (depth : ℕ) : Type 0 where
  pub whole : depth ≡ length ts
  pub each : (k : ℕ) → k < depth → get_or turns k 0 ≡ turn_code (get_or ts k empty)

-- the turns of the path are sound for D clashes, and the route holds them
pub record Routed (path : List Turn) (D : ℕ) (r : Route) : Type 0 where
  pub sound : sound_turns D (turns_of path) ≡ true
  pub short : r.depth ≤ 1024
  pub coded : Coded (turns_of path) r.turns r.depth

-- a route exactly where the turns of the path are sound for D clashes
abbrev pub Reads : List Turn → ℕ → Option Route → Type 0
Reads path D r = MatchOption r (sound_turns D (turns_of path) ≡ false) (λ x. Routed path D x)

-- no turn in these places
unfoldable pub rest_empty : List Turn → Bool
rest_empty rest = all (λ t. not (is_turn t)) rest
