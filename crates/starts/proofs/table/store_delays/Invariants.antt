-- `store_delays` meets its contract. The loop's invariant: the inequalities so far are in the table.
use mathlib.Core.Path.{◌≡◌}
use Rattle.starts.specs.Table.{with_stored}
use Rattle.starts.proofs.table.store_delays.Given as goal

abbrev pub invariant-loop-q : goal.invariant-loop-q
invariant-loop-q l = l.table ≡ with_stored l.list l.initial.table l.q-index
