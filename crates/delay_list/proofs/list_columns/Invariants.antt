-- `list_columns` meets its contract. The invariant: the columns are those of the first k delays.
use mathlib.Core.Path.{◌≡◌}
use lib.ListN.{take}
use Rattle.delay_list.specs.Columns.{columns_of}
use Rattle.delay_list.proofs.list_columns.Given as goal

abbrev pub invariant-loop-k : goal.invariant-loop-k
invariant-loop-k l = l.columns ≡ columns_of (take l.k l.list)
