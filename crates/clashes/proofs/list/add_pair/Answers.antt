-- `list::add_pair` meets its contract. The invariant: what is left of the distances completes the pair.
use Prim.Native.Nat.{◌<◌}
use mathlib.Core.Path.{◌∙◌}
use borrow.Author.Rules.{rules}
use Rattle.clashes.proofs.PairLaws.{pair_first, pair_in, pair_out, pair_last}
use Rattle.clashes.proofs.list.add_pair.Goals as goal
use Rattle.clashes.proofs.list.add_pair.Goals.{then-tables_meet, else-tables_meet}

pub loop-k-init : goal.loop-k-init
loop-k-init c = pair_first _ _ _ _ _ _ _ (search rules) (search rules) (search rules)

-- one distance more
pub loop-k-preserved : goal.loop-k-preserved
loop-k-preserved c = let i = c.loop-k.invariant in
    let below : c.loop-k.k < 45 = search rules in
    let told = c.tables_meet.ensures in
    elim c.if-tables_meet.branch [
      | then-tables_meet w ↦ pair_in _ _ _ _ _ _ _ _ _ _ i below told w.if-tables_meet.true (w.clashes-is ∙ w.put_code.ensures)
      | else-tables_meet w ↦ pair_out _ _ _ _ _ _ _ _ _ _ i below told w.if-tables_meet.false w.clashes-is
    ]

pub returns : goal.returns
returns c = pair_last _ _ _ _ _ _ _ _ c.loop-k.invariant c.loop-k-test.false
