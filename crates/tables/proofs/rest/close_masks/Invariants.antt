-- `rest::close_masks` meets its contract. The invariant: the masks of the differences so far are in their places, and all others are 0.
use Rattle.tables.proofs.RestLaws.{Closing}
use Rattle.tables.proofs.rest.close_masks.Given as goal

abbrev pub invariant-loop-e : goal.invariant-loop-e
invariant-loop-e l = Closing l.rests l.longest l.close l.e
