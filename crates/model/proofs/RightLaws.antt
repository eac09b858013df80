-- What the judge's laws and the laws of a node read out of definitions: the bytes that a claimed line fits, the plan of a right text, and what a latency
-- that a best rules out says.
use Prim.Native.Nat.{ℕ, ◌≤◌, ◌<◌}
use mathlib.Core.Path.{◌≡◌}
use mathlib.Core.Bool.{true}
use mathlib.Core.List.{List}
use borrow.Author.Tests.{leb-true}
use Rattle.model.specs.declared.Batch.{Batch}
use Rattle.std.specs.Prelude.{Some}
use Rattle.model.specs.Plan.{Valid}
use Rattle.model.specs.Search.{prunes}
use Rattle.model.specs.Judge.{RightText}

-- job and start of a line in their bytes
abbrev pub LineOk : ℕ × ℕ → Type 0
LineOk q = (q.0 < 256) × (q.1 < 65536)

-- the starts of a right text are a valid plan
pub right_valid : (b : Batch) (text : List ℕ) (r : RightText b text) → Valid b r.starts
right_valid b text r = r.valid

-- a best rules out what is at or above it
pub pruned_from : (k l : ℕ) → prunes (Some k) l ≡ true → k ≤ l
unfolding prunes
pruned_from k l e = leb-true k l e
