-- `rest::near_places` meets its contract. The invariant: the places so far are widened.
use Prim.Native.Nat.{◌-◌}
use Rattle.tables.proofs.RestLaws.{Widening}
use Rattle.tables.proofs.rest.near_places.Given as goal

abbrev pub invariant-loop-x : goal.invariant-loop-x
invariant-loop-x l = Widening l.close l.job (7 - l.longest) l.places l.x
