-- `put_end` stores a text of one character.
use mathlib.Core.Path.{refl}
use mathlib.Core.List.{[], ◌∷◌}
use Rattle.lines.proofs.Puts.{stores}
use Rattle.lines.proofs.write.put_end.Goals as goal

pub returns : goal.returns
returns c = (refl, stores (10 ∷ []) _ _ c.requires)
