-- `put_byte` stores a text of two characters.
use mathlib.Core.Path.{refl}
use native.Mathlib.Omega.{arith}
use lib.ListN.{length-set}
use Rattle.lines.proofs.Puts.{stores_byte}
use Rattle.lines.proofs.write.put_byte.Goals as goal

pub bounds-buffer-at-2 : goal.bounds-buffer-at-2
bounds-buffer-at-2 c = simp length-set (omega arith)

pub returns : goal.returns
returns c = (refl, stores_byte _ _ _ c.requires c.digit_of.ensures c.digit_of-2.ensures)
