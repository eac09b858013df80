-- What a run works on stands for a batch, and for a place of its search.
use Rattle.std.specs.Prelude.{◌≡◌, true, false, List, ℕ, ◌≤◌, Option, MatchOption}
use Rattle.std.proofs.Math.Option.{some}
use Rattle.model.specs.declared.Batch.{Batch}
use Rattle.model.specs.Common.{pad}
use Rattle.model.specs.Plan.{latency}
use Rattle.model.specs.Clash.{clashes}
use Rattle.model.specs.Search.{starts_at, prunes, back, next, search_of}
use Rattle.model.specs.Sound.{sound}
use Rattle.clashes.specs.List.{list_of}
use Rattle.pairs.specs.Pairs.{Paired}
use Rattle.times.specs.Stays.{stays_read}
use Rattle.times.specs.Ends.{earliest_read, latest_read}
use Rattle.times.specs.Latency.{latency_of}
use Rattle.weights.specs.Delays.{delays_read}
use Rattle.starts.specs.Table.{heaviest_of}
use Rattle.node.specs.declared.kit.Kit.{Kit}
use Rattle.node.specs.declared.kit.Trail.{Trail}
use Rattle.node.specs.declared.kit.Reach.{Reach}
use Rattle.node.specs.declared.kit.Walk.{Walk}
use Rattle.node.specs.Walk.{Path, Kin, Steps, incumbent, turns_in, place_at}
use Rattle.node.specs.Rows.{Kept}

-- a trail of a batch's search at a depth
pub record Stands (b : Batch) (kit : Kit) (t : Trail) (depth : ℕ) : Type 0 where
  pub path : Path t.turns depth
  pub steps : Steps kit.clashes.codes t.turns depth t.steps
  pub kept : Kept b kit.stays t.turns depth t.rows

-- they hold the batch's delays, stays, ends and clashes, and a sound place
pub record Works (b : Batch) (kit : Kit) (t : Trail) (walk : Walk) : Type 0 where
  pub jobs : kit.jobs ≡ b.n
  pub few : kit.delays ≡ b.m
  pub weights : kit.weights ≡ heaviest_of b.m (delays_read b)
  pub each_stays : kit.stays ≡ stays_read b
  pub earliest : kit.earliest ≡ earliest_read b
  pub latest : kit.latest ≡ latest_read b
  pub first : kit.first ≡ latency_of kit.stays kit.earliest 24
  pub listed : kit.clashes ≡ list_of b
  pub paired : (n : ℕ) × ((n ≤ kit.clashes.count) × Paired kit.clashes.codes kit.pairs n)
  pub stands : Stands b kit t walk.depth
  pub is_sound : sound (search_of b 0 (place_at t.turns walk)) ≡ true

-- for some batch they do
abbrev pub Ready : Kit → Trail → Walk → Type 0
Ready kit t walk = (b : Batch) × Works b kit t walk

-- the least starts of the place, and their latency, which is below best's
pub record Least (b : Batch) (t : Trail) (walk : Walk) (r : Reach) : Type 0 where
  pub jobs : List ℕ
  pub least : starts_at (clashes b) b (turns_in t.turns walk.depth) ≡ some jobs
  pub padded : r.starts ≡ pad 24 0 jobs
  pub told : r.latency ≡ latency b jobs
  pub below : prunes walk.best (latency b jobs) ≡ false
  pub small : r.latency ≤ 43016

-- whatever batch they stand for, a node that is to go on has these least starts, and another goes back
abbrev pub Reaches : Kit → Trail → Walk → Option Reach → Type 0
Reaches kit t walk r =
    (b : Batch) → Works b kit t walk
    → MatchOption r (next (clashes b) b (place_at t.turns walk) ≡ back (turns_in t.turns walk.depth) (incumbent walk.best walk.starts)) (λ x. Least b t walk x)

-- gone back with the walk's best: the place, the turns and their inequalities; the rows stay
pub record Returned (kit : Kit) (t : Trail) (walk : Walk) (t' : Trail) (walk' : Walk) : Type 0 where
  pub place : place_at t'.turns walk' ≡ back (turns_in t.turns walk.depth) (incumbent walk.best walk.starts)
  pub path : Path t'.turns walk'.depth
  pub kin : Kin t.turns walk.depth t'.turns walk'.depth
  pub steps : Steps kit.clashes.codes t'.turns walk'.depth t'.steps
  pub rows : t'.rows ≡ t.rows

-- whatever batch they stand for, the new trail and walk are its next place
abbrev pub Visited : Kit → Trail → Walk → Trail → Walk → Type 0
Visited kit t walk t' walk' =
    (b : Batch) → Works b kit t walk
    → (place_at t'.turns walk' ≡ next (clashes b) b (place_at t.turns walk)) × Stands b kit t' walk'.depth
