-- `rows::begin` meets its contract: no turn, no row, or a row that is raised.
use native.Mathlib.Omega.{arith}
use Prim.Native.Nat.{◌-◌, ◌%◌}
use mathlib.Core.Path.{refl}
use Rattle.node.proofs.RowsLaws.{begun_none, begun_missed, begun_raised}
use Rattle.node.proofs.rows.begin.Goals as goal

pub returns-then-depth-eq0 : goal.returns-then-depth-eq0
returns-then-depth-eq0 c = begun_none _ _ _ _ _ c.if-depth-eq0.true

-- no row is there
pub returns-then-from-last : goal.returns-then-from-last
returns-then-from-last c = begun_missed _ _ _ _ _ _ c.from.ensures _ c.if-depth-eq0.false refl c.if-from-last.true

-- the last turn's jobs are below 24, and the row's starts are small
pub bounds-low-j : goal.bounds-low-j
bounds-low-j c = let a = c.args in omega (arith, c.from-j.ensures, c.requires.depth_bound.1.to (a.depth - 1) (omega (arith, c.if-depth-eq0.false)))

pub bounds-low-i : goal.bounds-low-i
bounds-low-i c = let a = c.args in omega (arith, c.from-i.ensures, c.requires.depth_bound.1.from (a.depth - 1) (omega (arith, c.if-depth-eq0.false)))

pub overflow_add-low : goal.overflow_add-low
overflow_add-low c = omega (arith, (c.requires.small.1.each ((c.args.depth - 1) % 32)).starts.each c.from-i.result)

pub bounds-low-j-2 : goal.bounds-low-j-2
bounds-low-j-2 c = let a = c.args in omega (arith, c.from-j.ensures, c.requires.depth_bound.1.to (a.depth - 1) (omega (arith, c.if-depth-eq0.false)))

pub bounds-kit-j : goal.bounds-kit-j
bounds-kit-j c = let a = c.args in omega (arith, c.from-j.ensures, c.requires.depth_bound.1.to (a.depth - 1) (omega (arith, c.if-depth-eq0.false)))

pub overflow_add-start : goal.overflow_add-start
overflow_add-start c = let row = (c.requires.small.1.each ((c.args.depth - 1) % 32)).starts in
    omega (
      arith,
      c.from-2.ensures,
      c.max-start.ensures,
      c.saturating_sub.ensures,
      c.requires.small.0.each c.from-j.result,
      row.each c.from-j.result,
      row.each c.from-i.result,
    )

-- the row, raised
pub returns : goal.returns
returns c = begun_raised _ _ _ _ _ _ c.from.ensures _ c.if-depth-eq0.false refl c.if-from-last.false _ _ c.saturating_sub.result c.max-start.result c.from-2.result c.max.result c.from-i.ensures c.from-j.ensures (omega (arith, c.max-start.ensures)) c.saturating_sub.ensures c.from-2.ensures (omega (arith, c.max.ensures))
