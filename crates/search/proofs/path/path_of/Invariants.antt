-- `search::path::path_of` meets its contract: after k turns the path is the first k turns and empty places.
use Prim.Native.Nat.{◌≤◌}
use mathlib.Core.Path.{◌≡◌}
use Rattle.model.specs.Common.{pad}
use Rattle.model.specs.Search.{empty}
use Rattle.node.specs.Walk.{turns_in}
use Rattle.search.proofs.path.path_of.Given as goal

abbrev pub invariant-loop-k : goal.invariant-loop-k
invariant-loop-k l = (l.k ≤ l.depth) × (l.path ≡ pad 1024 empty (turns_in l.turns l.k))
