-- `round` meets its contract. The loop's invariant: the places are those after 4 * q rows, each sum from the old starts.
use mathlib.Core.Path.{◌≡◌}
use Prim.Native.Nat.{◌*◌}
use Rattle.rounds.specs.Rounds.{raised_to}
use Rattle.rounds.proofs.rounds.round.Given as goal

abbrev pub invariant-loop-q : goal.invariant-loop-q
invariant-loop-q l = l.new ≡ raised_to l.table l.high (4 * l.q)
