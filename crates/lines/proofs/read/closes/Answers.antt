-- `closes` tests the character at a place; past the end there is none.
use Prim.Native.Nat.{ℕ}
use mathlib.Core.Path.{refl, ap, sym, ◌∙◌}
use lib.ListN.{length, get_or-eq_default}
use lib.Dec.{eqb}
use borrow.Author.Tests.{le-ltb}
use Rattle.lines.specs.Read.{closes}
use Rattle.lines.proofs.read.closes.Goals as goal

pub returns-then-at-file : goal.returns-then-at-file
unfolding closes
returns-then-at-file c = refl

pub returns-else-at-file : goal.returns-else-at-file
unfolding closes
returns-else-at-file c = let past = c.if-at-file.false in
    le-ltb c.args.at (length c.args.file.now) past ∙ sym (ap (λ (x : ℕ). eqb x 10) (get_or-eq_default c.args.file.now 0 past))
