-- `run_once` meets its contract.
use mathlib.Core.Path.{ap}
use mathlib.Core.List.{List}
use Prim.Native.Nat.{ℕ}
use Rattle.model.specs.declared.Ran.{Ran}
use Rattle.plan.proofs.text.run_once.Goals as goal

pub returns : goal.returns
returns c = ap (λ (x : Ran × List ℕ). x.0) c.run.ensures
