-- `few_clashes` asks the list's count.
use mathlib.Core.Path.{refl}
use Rattle.opening.proofs.WithinLaws.{within_tabled, few_is}
use Rattle.opening.proofs.few.few_clashes.Goals as goal

pub list_clashes-requires : goal.list_clashes-requires
list_clashes-requires c = record { tabled = within_tabled _ c.requires; codes_value = refl }

pub returns : goal.returns
returns c = few_is _ c.requires _ c.list_clashes.ensures
