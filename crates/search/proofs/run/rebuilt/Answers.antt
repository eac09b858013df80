-- `search::run::rebuilt` meets its contract.
use Rattle.search.proofs.AdvanceLaws.{rebuilt_is}
use Rattle.search.proofs.run.rebuilt.Goals as goal

pub returns : goal.returns
returns c = rebuilt_is _ _ _ _ _ c.path_of-path.ensures
