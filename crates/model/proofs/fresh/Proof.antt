-- `model::fresh` builds the definition's fresh record, place by place.
use mathlib.Core.Path.{refl}
use Rattle.model.specs.Common.{pad}
use Rattle.model.specs.Search.{fresh_search, fresh_place, search_of, empty}
use Rattle.model.proofs.fresh.Statement.{statement}
use Rattle.model.proofs.fresh.Tie as tie

returns : tie.Need-returns
unfolding fresh_search fresh_place search_of pad empty
returns c = refl

pub fresh_spec : {M : Type 1} → statement M
fresh_spec = tie.close (tie.spec returns)
