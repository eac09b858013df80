-- `list_columns` meets its contract. The invariant: the columns are those of the first k delays.
use mathlib.Core.Path.{refl, ap, ◌∙◌}
use lib.Seq.{take_all}
use Rattle.model.specs.Common.{pad}
use Rattle.model.specs.Batch.{blank_delay}
use Rattle.delay_list.specs.Columns.{columns_of}
use Rattle.delay_list.proofs.ColumnLaws.{columns_more}
use Rattle.delay_list.proofs.list_columns.Goals as goal

-- no delay yet
pub loop-k-init : goal.loop-k-init
unfolding columns_of pad
loop-k-init c = refl

-- one delay more
pub loop-k-preserved : goal.loop-k-preserved
unfolding blank_delay
loop-k-preserved c = c.store.ensures ∙ columns_more c.args.list.now c.loop-k.k c.loop-k.columns c.loop-k-test.true c.requires c.loop-k.invariant

pub returns : goal.returns
returns c = c.loop-k.invariant ∙ ap columns_of (take_all c.loop-k.k c.args.list.now c.loop-k-test.false)
