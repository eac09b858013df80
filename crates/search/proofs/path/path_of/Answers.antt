-- `search::path::path_of` meets its contract: after k turns the path is the first k turns and empty places.
use mathlib.Core.Path.{refl}
use native.Mathlib.Omega.{arith}
use borrow.Author.Rules.{rules}
use Rattle.model.specs.Search.{empty}
use Rattle.node.specs.Walk.{turn_of}
use Rattle.node.proofs.PathLaws.{path_none, path_more, path_all}
use Rattle.search.proofs.path.path_of.Goals as goal

pub loop-k-init : goal.loop-k-init
unfolding empty
loop-k-init c = (search rules, path_none _)

pub bounds-path-k : goal.bounds-path-k
bounds-path-k c = omega arith

pub loop-k-preserved : goal.loop-k-preserved
unfolding turn_of
loop-k-preserved c = (search rules, path_more _ _ c.loop-k.k _ (omega arith) refl c.loop-k.invariant.1)

pub returns : goal.returns
returns c = path_all _ _ _ _ c.loop-k.invariant.0 (omega arith) c.loop-k.invariant.1
