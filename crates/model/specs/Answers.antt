-- The number and values that 01, and 02 for judging, give each case of the enum answers: a refusal is its number, and what is accepted has its values.
use Rattle.std.specs.Prelude.{ℕ, Bool, true, false}
use Rattle.std.proofs.Math.Option.{Option, none, some}
use Rattle.model.specs.Best.{Best}
use Rattle.std.specs.Prelude.{None, Some}
use Rattle.model.specs.declared.Answer.{Answer}
use Rattle.model.specs.declared.Answer.TheVariants.{Spent, Plan, NoPlan, Refused}
use Rattle.std.specs.Prelude.{Result, Ok, Err}
use Rattle.model.specs.declared.refusal.Refusal.{Refusal}
use Rattle.model.specs.Refusal.{number, Written, Judgement}
use Rattle.model.specs.Common.{Outcome, refuse, accept}

-- a run: spent with the total, a plan with latency and total, or no plan with the total
pub data Verdict : Type 0 where
  spent : (total : ℕ) → Verdict
  plan : (latency total : ℕ) → Verdict
  no_plan : (total : ℕ) → Verdict

unfoldable pub run_told : Answer → Outcome Verdict
run_told (Spent total) = accept (spent total)
run_told (Plan latency total) = accept (plan latency total)
run_told (NoPlan total) = accept (no_plan total)
run_told (Refused r) = refuse (number r)

unfoldable pub total_told : Verdict → ℕ
total_told (spent total) = total
total_told (plan latency total) = total
total_told (no_plan total) = total

-- spent when the search has not ended, a plan when it has ended with a best, no plan when it has ended without
unfoldable pub verdict_of : Bool → Option ℕ → ℕ → Verdict
verdict_of false best total = spent total
verdict_of true none total = no_plan total
verdict_of true (some latency) total = plan latency total

-- opening: accepted, or refused
unfoldable pub open_told : Result (Unit {0}) Refusal → Outcome (Unit {0})
open_told (Ok u) = accept u
open_told (Err r) = refuse (number r)

-- writing: the number of bytes, or refused
unfoldable pub write_told : Written → Outcome ℕ
write_told (Ok count) = accept count
write_told (Err r) = refuse (number r)

-- judging: passed, or refused
unfoldable pub judge_told : Judgement → Outcome (Unit {0})
judge_told (Ok u) = accept u
judge_told (Err r) = refuse (number r)

-- best: none, or a latency
unfoldable pub best_told : Best → Option ℕ
best_told None = none
best_told (Some latency) = some latency
