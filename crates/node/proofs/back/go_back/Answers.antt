-- `back::go_back` meets its contract. While turns of side 1 are dropped, what going back leaves of the rest is what it leaves of all.
use Prim.Native.Nat.{◌+◌, ◌-◌}
use mathlib.Core.Path.{◌≡◌, refl}
use native.Mathlib.Omega.{arith}
use Rattle.node.proofs.BackLaws.{last_small, dropped_all, drops, moves}
use Rattle.node.proofs.back.go_back.Goals as goal

pub loop-last-init : goal.loop-last-init
loop-last-init c = (refl, omega arith, refl)

pub overflow_add-turns : goal.overflow_add-turns
overflow_add-turns c = omega (arith, last_small _ _ c.requires _ _ c.loop-last.invariant (omega arith))

pub returns-then-turn-eq0 : goal.returns-then-turn-eq0
returns-then-turn-eq0 c = let z : c.loop-last.last - 1 + 1 ≡ c.loop-last.last = omega arith in
    rw z (moves _ _ c.requires _ _ c.loop-last.invariant (omega arith) (omega arith))

pub loop-last-preserved : goal.loop-last-preserved
loop-last-preserved c = drops _ _ c.requires _ _ c.loop-last.invariant (omega arith) (omega arith)

pub returns : goal.returns
returns c = dropped_all _ _ c.requires _ _ c.loop-last.invariant (omega arith)
