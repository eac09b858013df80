-- `rest::near_place` meets its contract. The invariant: the mask holds the stations of the first a ticks.
use Prim.Native.Nat.{ℕ}
use mathlib.Core.List.{List}
use Rattle.tables.specs.Rest.{Closes, Near}
use Rattle.tables.proofs.rest.near_place.Given as goal

abbrev pub invariant-loop-a : goal.invariant-loop-a
invariant-loop-a l = (rests : List ℕ) → Closes rests l.close → Near rests l.job.masks l.a l.x l.mask
