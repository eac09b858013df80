-- `heaviest_of` meets its contract: the table holds the first m delays, and gives each its pair's code.
use mathlib.Core.Path.{refl}
use native.Mathlib.Omega.{arith}
use borrow.Author.Rules.{rules}
use Rattle.weights.proofs.ListedLaws.{listed_none, listed_more}
use Rattle.starts.specs.Table.{empty_table, lowered}
use Rattle.starts.proofs.TakeLaws.{placed_take, heaviest_is}
use Rattle.starts.proofs.heaviest.heaviest_of.Goals as goal

pub put_all-requires : goal.put_all-requires
put_all-requires c = placed_take _ _ (search rules) c.requires.placed

pub loop-k-init : goal.loop-k-init
loop-k-init c = listed_none _ _

pub loop-k-preserved : goal.loop-k-preserved
unfolding lowered
loop-k-preserved c = listed_more _ 128 _ _ _ c.loop-k.invariant (rw (c.from-i.ensures, c.from-j.ensures) refl)

pub returns : goal.returns
unfolding empty_table
returns c = heaviest_is _ _ (search rules) _ c.put_all.ensures _ _ c.loop-k.invariant (omega arith)
