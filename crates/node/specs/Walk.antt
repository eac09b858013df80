-- A path as the code holds it while a search runs: an array of numbers, of which the first `depth` are turns, 2 * clash + side each.
use Rattle.std.specs.Prelude.{ℕ, zero, suc, ◌+◌, ◌/◌, ◌%◌, ◌≤◌, ◌<◌, ◌≡◌, List, map, get_or, length, Option, None, Some}
use Rattle.std.proofs.Math.Option.{Option as Found, none, some}
use Rattle.model.specs.declared.Turn.{Turn}
use Rattle.model.specs.Best.{Best}
use Rattle.model.specs.Common.{count}
use Rattle.model.specs.Search.{Incumbent, Place}
use Rattle.clashes.specs.First.{Named}
use Rattle.weights.specs.declared.Inequality.{Inequality}
use Rattle.weights.specs.Inequality.{nth}
use Rattle.weights.specs.Turn.{turn_inequality}
use Rattle.node.specs.declared.kit.Walk.{Walk}

-- the turn of a number
unfoldable pub turn_of : ℕ → Turn
turn_of x = record { clash = x / 2; side = x % 2 }

-- the turns of the first places
unfoldable pub turns_in : List ℕ → ℕ → List Turn
turns_in turns depth = map (λ k. turn_of (get_or turns k 0)) (count 0 depth)

-- an array of 1,024 places whose first `depth` are turns on clashes below 1,024
pub record Path (turns : List ℕ) (depth : ℕ) : Type 0 where
  pub full : length turns ≡ 1024
  pub deep : depth ≤ 1024
  pub small : (k : ℕ) → k < depth → get_or turns k 0 < 2048

-- turns gone back from a depth to another: all but the last are as they were, and the last is on the clash that it was on
pub record Kin (turns : List ℕ) (depth : ℕ) (turns' : List ℕ) (left : ℕ) : Type 0 where
  pub less : left ≤ depth
  pub same : (k : ℕ) → suc k < left → get_or turns' k 0 ≡ get_or turns k 0
  pub clash : (k : ℕ) → suc k ≡ left → get_or turns' k 0 / 2 ≡ get_or turns k 0 / 2

-- how many turns are left where the last of them stands here
abbrev pub left_of : Option ℕ → ℕ
left_of None = 0
left_of (Some last) = last + 1

-- what is left after going back: none at depth 0
unfoldable pub back_as : List ℕ → ℕ → Found (List Turn)
back_as turns zero = none
back_as turns (suc d) = some (turns_in turns (suc d))

-- a latency at or above this sends a node back: best's, or one above the largest that there is
unfoldable pub bound_of : Best → ℕ
bound_of None = 43017
bound_of (Some k) = k

-- the first turns are on clashes that the codes name
pub record Coded (codes turns : List ℕ) (depth : ℕ) : Type 0 where
  pub named : (k : ℕ) → k < depth → Named (get_or codes (get_or turns k 0 / 2) 0)

-- an array of 1,024 places holds the inequalities of the first turns, as the table takes them
pub record Steps (codes turns : List ℕ) (depth : ℕ) (w : List Inequality) : Type 0 where
  pub long : length w ≡ 1024
  pub each : (k : ℕ) → k < depth → nth w k ≡ turn_inequality (get_or codes (get_or turns k 0 / 2) 0) (get_or turns k 0)

-- best with its starts, and the place where a search stands
abbrev pub incumbent : Best → List ℕ → Incumbent
incumbent best starts = record { best = best; starts = starts }

unfoldable pub place_at : List ℕ → Walk → Place
place_at turns w = record { turns = turns_in turns w.depth; incumbent = incumbent w.best w.starts; ended = w.ended }
