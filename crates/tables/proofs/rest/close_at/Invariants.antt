-- `rest::close_at` meets its contract. The invariant: of the first s stations the mask holds those for which the ticks are too close.
use Rattle.tables.specs.Rest.{CloseAt}
use Rattle.tables.proofs.rest.close_at.Given as goal

abbrev pub invariant-loop-s : goal.invariant-loop-s
invariant-loop-s l = CloseAt l.rests l.gap l.mask l.s
