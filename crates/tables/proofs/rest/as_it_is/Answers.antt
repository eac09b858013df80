-- `rest::as_it_is` meets its contract: the masks stand in their places.
use mathlib.Core.Path.{ap, ◌∙◌}
use Prim.Native.Nat.{ℕ}
use mathlib.Core.List.{List}
use native.Mathlib.Omega.{arith}
use lib.ListN.{get_or}
use Rattle.tables.proofs.RestLaws.{copied, as_it_is}
use Rattle.tables.proofs.rest.as_it_is.Goals as goal

pub returns : goal.returns
returns c rests l = let k = c.copy_from_slice in
    as_it_is rests _ _ l (λ a h. copied k.new.self _ a (omega (arith, k.ensures.len)) ∙ ap (λ (m : List ℕ). get_or m a 0) k.ensures.after) c.requires
