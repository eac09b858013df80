-- `put_all` meets its contract. The loop's invariant: the inequalities so far are in the table.
use mathlib.Core.Path.{◌≡◌}
use Rattle.starts.specs.Table.{with_put}
use Rattle.starts.proofs.table.put_all.Given as goal

abbrev pub invariant-loop-q : goal.invariant-loop-q
invariant-loop-q l = l.table ≡ with_put l.list l.initial.table l.q-index
