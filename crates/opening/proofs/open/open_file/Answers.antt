-- `open_file` puts the batch into a fresh search, and the blank one beside a refusal.
use mathlib.Core.Path.{ap}
use Rattle.model.specs.Open.{blank_search, opened_as, opened}
use Rattle.model.specs.Refusal.{told}
use Rattle.model.proofs.NamedLaws.{named_number}
use Rattle.opening.proofs.open.open_file.Goals as goal

pub returns-in-Ok : goal.returns-in-Ok
unfolding opened opened_as told
returns-in-Ok c = rw c.fresh.ensures (ap opened_as c.in-Ok.ensures)

pub returns-in-Err : goal.returns-in-Err
unfolding opened opened_as told blank_search
returns-in-Err c = rw (c.fresh-in-Err.ensures, c.blank_batch.ensures, ← named_number c.in-Err.refusal) (ap opened_as c.in-Err.ensures)
