-- `first::first_met` meets its contract. The invariant: the first that is met from code k on is the first of all.
use Prim.Native.Nat.{◌≤◌}
use mathlib.Core.Path.{◌≡◌}
use Rattle.clashes.specs.First.{first_code}
use Rattle.clashes.proofs.FirstLaws.{first_from}
use Rattle.clashes.proofs.first.first_met.Given as goal

abbrev pub invariant-loop-k : goal.invariant-loop-k
invariant-loop-k l = (l.k ≤ l.clashes.count) × (first_from l.clashes.codes l.starts l.k l.clashes.count ≡ first_code l.clashes.codes l.clashes.count l.starts)
