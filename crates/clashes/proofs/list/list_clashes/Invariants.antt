-- `list::list_clashes` meets its contract. The invariants: what is left of the rows completes the list, and what is left of the jobs after job i
-- completes its row.
use Prim.Native.Nat.{suc}
use Rattle.model.specs.Clash.{clashes_of}
use Rattle.clashes.specs.List.{listing}
use Rattle.clashes.proofs.GrowLaws.{Growing}
use Rattle.clashes.proofs.RowLaws.{row_of}
use Rattle.clashes.proofs.list.list_clashes.Given as goal

abbrev pub invariant-loop-j : goal.invariant-loop-j
invariant-loop-j l = Growing (clashes_of l.batch l.i) 45 (suc l.i) l.batch.n l.initial.clashes l.clashes l.j

abbrev pub invariant-loop-i : goal.invariant-loop-i
invariant-loop-i l = Growing (row_of l.batch) 1080 0 l.batch.n (listing 0 l.initial.clashes.codes) l.clashes l.i
