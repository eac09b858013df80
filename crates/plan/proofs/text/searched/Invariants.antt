-- `searched` meets its contract. The loop's invariant: what the runs that are left give is what all of them give, and the buffer is as it was.
use Prim.Native.Nat.{◌-◌}
use mathlib.Core.Path.{◌≡◌}
use Rattle.model.specs.Program.{planned}
use Rattle.plan.proofs.text.searched.Given as goal

abbrev pub invariant-loop : goal.invariant-loop
invariant-loop l = (l.text ≡ l.initial.text) × (planned (101 - l.counter) l.search ≡ planned 101 l.initial.search)
