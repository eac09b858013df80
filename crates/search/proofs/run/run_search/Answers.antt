-- `run::run_search` meets its contract: each refusal in its turn, and otherwise the nodes and their answer.
use mathlib.Core.Path.{ap, sym, ◌∙◌}
use mathlib.Core.Bool.{not}
use native.Mathlib.Omega.{arith}
use Rattle.model.specs.Refusal as refusal
use Rattle.search.proofs.RunLaws.{ran_11, ran_12, ran_13, ran_14, ran_on, left_as, jobs_kept, sound_jobs}
use Rattle.search.proofs.run.run_search.Goals as goal

pub returns-then-budget-gt1000000 : goal.returns-then-budget-gt1000000
unfolding refusal.named
returns-then-budget-gt1000000 c = let a = c.args in
    left_as a.search a.budget 11 a.list.now _ c.refused.ensures (ran_11 a.search a.budget a.list.now c.if-budget-gt1000000.true)

pub returns-in_default : goal.returns-in_default
unfolding refusal.named
returns-in_default c = let a = c.args in
    left_as a.search a.budget 12 a.list.now _ c.refused-in_default.ensures (ran_12 a.search a.budget a.list.now c.if-budget-gt1000000.false c.in_default.ensures)

pub returns-then-list-from : goal.returns-then-list-from
unfolding refusal.named
returns-then-list-from c = let a = c.args in
    left_as a.search a.budget 13 a.list.now _ c.refused-then-list-from.ensures
    (ran_13 a.search a.budget a.list.now c.if-budget-gt1000000.false c.in-Some.ensures.0 (omega (arith, c.from.ensures, c.if-list-from.true)))

pub returns-then-overdrawn : goal.returns-then-overdrawn
unfolding refusal.named
returns-then-overdrawn c = let a = c.args in
    left_as a.search a.budget 14 a.list.now _ c.refused-then-overdrawn.ensures
    (ran_14 a.search a.budget a.list.now c.if-budget-gt1000000.false c.in-Some.ensures.0 (omega (arith, c.from.ensures, c.if-list-from.false)) _ c.overdrawn.ensures c.if-overdrawn.true)

pub after_run-after-requires : goal.after_run-after-requires
after_run-after-requires c = record { search_value = (c.in-Some.ensures.0, sym c.overdrawn.ensures ∙ ap not c.if-overdrawn.false); prepared = c.in-Some.ensures.1 }

pub answered-answer-requires : goal.answered-answer-requires
answered-answer-requires c = let n = jobs_kept _ _ _ c.after_run-after.ensures in
    (omega (arith, n, sound_jobs _ c.in-Some.ensures.0), omega (arith, n, c.from.ensures, c.if-list-from.false))

pub returns : goal.returns
returns c = let a = c.args in
    ran_on a.search a.budget a.list.now _ _ _ c.if-budget-gt1000000.false c.in-Some.ensures.0 (omega (arith, c.from.ensures, c.if-list-from.false)) _ c.overdrawn.ensures c.if-overdrawn.false
    c.after_run-after.ensures c.answered-answer.ensures
