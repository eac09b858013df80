-- `path::read_path` meets its contract. The invariant: the first k places are read.
use mathlib.Core.Path.{refl, sym, ◌∙◌}
use native.Mathlib.Omega.{arith}
use Rattle.soundness.proofs.MarkLaws.{new_clash, new_side}
use Rattle.soundness.proofs.PathLaws.{read_none, read_more, read_bad, read_empty, read_end_lem}
use Rattle.soundness.proofs.path.read_path.Goals as goal

pub loop-k-init : goal.loop-k-init
loop-k-init c = read_none _ _ c.told-path

pub returns-then-is_empty : goal.returns-then-is_empty
returns-then-is_empty c = read_empty _ _ _ _ _ c.requires c.loop-k.invariant _ _ c.loop-k-test.true refl _ c.is_empty.ensures c.if-is_empty.true

pub returns-then-not-turn_ok : goal.returns-then-not-turn_ok
returns-then-not-turn_ok c = read_bad _ _ _ _ _ c.requires c.loop-k.invariant _ _ c.loop-k-test.true refl _ _ c.is_empty.ensures
    c.if-is_empty.false c.turn_ok.ensures c.if-not-turn_ok.true

pub bounds-marks-from : goal.bounds-marks-from
bounds-marks-from c = omega (arith, new_clash _ _ _ (sym c.turn_ok.ensures ∙ c.if-not-turn_ok.false))

pub code_of-requires : goal.code_of-requires
code_of-requires c = let new = sym c.turn_ok.ensures ∙ c.if-not-turn_ok.false in
    (omega (arith, new_clash _ _ _ new), new_side _ _ _ new)

pub loop-k-preserved : goal.loop-k-preserved
loop-k-preserved c = read_more _ _ _ _ _ c.requires c.loop-k.invariant _ _ c.loop-k-test.true refl _ _ _ _ c.is_empty.ensures
    c.if-is_empty.false c.turn_ok.ensures c.if-not-turn_ok.false c.from.ensures c.code_of.ensures

pub returns : goal.returns
returns c = read_end_lem _ _ _ _ _ c.requires c.loop-k.invariant c.loop-k.auto.k-end c.loop-k-test.false
