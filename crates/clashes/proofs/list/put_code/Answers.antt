-- `list::put_code` meets its contract, by whether there is room.
use mathlib.Core.Path.{refl}
use Rattle.clashes.proofs.StoreLaws.{put_in, put_out}
use Rattle.clashes.proofs.list.put_code.Goals as goal
use Rattle.clashes.proofs.list.put_code.Goals.{then-clashes-lt1024, else-clashes-lt1024}

pub returns : goal.returns
returns c = elim c.if-clashes-lt1024.branch [
  | then-clashes-lt1024 w ↦ rw w.clashes-is (put_in _ _ _ _ w.if-clashes-lt1024.true refl)
  | else-clashes-lt1024 w ↦ rw w.clashes-is (put_out _ _ _ _ w.if-clashes-lt1024.false refl)
]
