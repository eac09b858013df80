-- `rest::widened` meets its contract: where no station rests, the places are the masks as they are.
use Rattle.tables.proofs.RestLaws.{plain_widens}
use Rattle.tables.proofs.rest.widened.Goals as goal

pub returns-then-longest-eq0-clause-widens : goal.returns-then-longest-eq0-clause-widens
returns-then-longest-eq0-clause-widens c all r = rw c.from.ensures (plain_widens all _ _ _ c.if-longest-eq0.true r.longest (c.as_it_is.ensures all))
