-- `line_at` judges a line by where its digits end: no digit, an odd count, no 0A behind them, or a line.
use native.Mathlib.Omega.{arith}
use mathlib.Core.Path.{sym}
use Rattle.lines.specs.Read.{digits_end}
use Rattle.lines.proofs.Judged.{judged_empty, judged_odd, judged_open, judged_frame}
use Rattle.lines.proofs.read.line_at.Goals as goal
use Rattle.lines.proofs.read.line_at.Goals.{then-count-lt1-via-then-count-lt1, then-count-lt1-via-else-count-lt1+then-count-eq1, then-count-lt1-via-else-count-lt1+else-count-eq1+then-not-closes}

pub overflow_sub-count : goal.overflow_sub-count
unfolding digits_end
overflow_sub-count c = omega arith

pub returns-then-count-lt1 : goal.returns-then-count-lt1
returns-then-count-lt1 c = elim c.then-count-lt1.branch [
  | then-count-lt1-via-then-count-lt1 w ↦ judged_empty _ _ _ c.digits_end-end.ensures (omega arith)
  | then-count-lt1-via-else-count-lt1+then-count-eq1 w ↦ judged_odd _ _ _ c.digits_end-end.ensures (omega arith)
  | then-count-lt1-via-else-count-lt1+else-count-eq1+then-not-closes w ↦ judged_open _ _ _ c.digits_end-end.ensures (sym w.if-not-closes.ensures)
]

pub returns : goal.returns
returns c = judged_frame _ _ _ c.digits_end-end.ensures (omega arith) (omega arith) (sym c.if-not-closes.ensures)
