-- `examine` meets its contract.
use Rattle.soundness.proofs.BatchLaws.{counts_jobs, counts_delays, counts_tabled, limits_soon, passed_delays}
use Rattle.soundness.proofs.ExamineLaws.{past_limits, past_delays, many_clashes, delays_unmet, turns_unsound, state_unsound, counted, examined}
use Rattle.soundness.proofs.examine.Goals as goal

pub returns-then-not-limits_pass : goal.returns-then-not-limits_pass
returns-then-not-limits_pass c = past_limits _ _ c.limits_pass.ensures c.if-not-limits_pass.true

pub read_delays-requires : goal.read_delays-requires
read_delays-requires c = counts_delays _ _ c.limits_pass.ensures c.if-not-limits_pass.false

pub returns-in_err-delays : goal.returns-in_err-delays
returns-in_err-delays c = rw c.from_residual.ensures (past_delays _ c.in_err-delays.ensures)

pub list_clashes-requires-clause-tabled : goal.list_clashes-requires-clause-tabled
list_clashes-requires-clause-tabled c = counts_tabled _ _ c.limits_pass.ensures c.if-not-limits_pass.false

pub returns-then-clashes-gt1024 : goal.returns-then-clashes-gt1024
returns-then-clashes-gt1024 c = many_clashes _ _ c.list_clashes.ensures c.if-clashes-gt1024.true

pub ends_of-ends-requires : goal.ends_of-ends-requires
ends_of-ends-requires c = counts_jobs _ _ c.limits_pass.ensures c.if-not-limits_pass.false

pub read_delays_met-requires-clause-delays_sound : goal.read_delays_met-requires-clause-delays_sound
read_delays_met-requires-clause-delays_sound c = let ok = c.if-not-limits_pass.false in
    (passed_delays _ _ c.limits_pass.ensures ok c.in_ok-delays.ensures.0, limits_soon _ _ c.limits_pass.ensures ok)

pub returns-then-not-read_delays_met : goal.returns-then-not-read_delays_met
returns-then-not-read_delays_met c = delays_unmet _ _ c.read_delays_met.ensures c.if-not-read_delays_met.true

pub returns-in_err-route : goal.returns-in_err-route
returns-in_err-route c = rw c.from_residual-in_err-route.ensures (turns_unsound _ _ c.list_clashes.ensures c.in_err-route.ensures)

pub state_ok-requires-clause-reads : goal.state_ok-requires-clause-reads
state_ok-requires-clause-reads c = counted c.args.search _ _ c.list_clashes.ensures c.in_ok-route.ensures

pub state_ok-requires-clause-n_bound : goal.state_ok-requires-clause-n_bound
state_ok-requires-clause-n_bound c = counts_jobs _ _ c.limits_pass.ensures c.if-not-limits_pass.false

pub returns-then-not-state_ok : goal.returns-then-not-state_ok
returns-then-not-state_ok c = state_unsound _ _ c.state_ok.ensures c.if-not-state_ok.true

pub stays_of-requires : goal.stays_of-requires
stays_of-requires c = counts_tabled _ _ c.limits_pass.ensures c.if-not-limits_pass.false

pub returns : goal.returns
returns c = examined _ _ _ _ _ _ _ _ _ c.limits_pass.ensures c.if-not-limits_pass.false c.in_ok-delays.ensures c.list_clashes.ensures c.if-clashes-gt1024.false
    c.read_delays_met.ensures c.if-not-read_delays_met.false c.in_ok-route.ensures c.state_ok.ensures c.if-not-state_ok.false c.stays_of.ensures c.ends_of-ends.ensures
