-- The table that a run goes over.
use mathlib.Core.List.{List}
use Prim.Native.Nat.{ℕ}
use Rattle.weights.specs.declared.Inequality.{Inequality}
use Rattle.starts.specs.Table.{with_put, with_stored, empty_table, heaviest_of}

-- the table of a path: the delays, stored with the smallest codes of their pairs, and then the turns
abbrev pub path_table : ℕ → List Inequality → List Inequality → ℕ → List (List ℕ)
path_table m w steps depth = with_put steps (with_stored (heaviest_of m w) empty_table m) depth
