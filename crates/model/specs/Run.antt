-- Run, with a budget of 0 to 1,000,000: refusals 11 to 14 in turn, then nodes until ended or the budget is used.
use Rattle.std.specs.Prelude.{ℕ, ◌+◌, ◌-◌, Bool, true, false, ◌||◌, List, ◌++◌, length, take, drop, leb}
use Rattle.model.specs.Best.{Best}
use Rattle.std.specs.Prelude.{None, Some}
use Rattle.model.specs.declared.Search.{Search}
use Rattle.model.specs.declared.Tally.{Tally}
use Rattle.model.specs.declared.Answer.{Answer}
use Rattle.model.specs.declared.Answer.TheVariants.{Spent, Plan, NoPlan, Refused}
use Rattle.model.specs.declared.Ran.{Ran}
use Rattle.model.specs.Common.{Outcome, refuse, accept, ◌>>=◌, require}
use Rattle.model.specs.Limits.{most_budget, most_total}
use Rattle.model.specs.Search.{nodes}
use Rattle.model.specs.Refusal.{named}
use Rattle.model.specs.Sound.{sound}

unfoldable pub run_refusal : Search → ℕ → ℕ → Outcome (Unit {0})
run_refusal s budget len = do
  _ ← require 11 (leb budget most_budget)
  _ ← require 12 (sound s)
  _ ← require 13 (leb s.batch.n len)
  require 14 (s.ended || leb (s.total + budget) most_total)

-- what each visited node does to the tally
unfoldable pub counted : Tally → Tally
counted t = record { total = t.total + 1; left = t.left - 1 }

-- spent when the search has not ended, a plan when it has ended with a best, no plan when it has ended without
unfoldable pub answer_of : Bool → Best → ℕ → Answer
answer_of false best total = Spent total
answer_of true None total = NoPlan total
answer_of true (Some l) total = Plan l total

-- with a plan, the first n places of the starts list are the starts and the rest is unchanged; otherwise it is unchanged
unfoldable pub starts_after : Answer → ℕ → List ℕ → List ℕ → List ℕ
starts_after (Plan l total) n starts list = take n starts ++ drop n list
starts_after (Spent total) n starts list = list
starts_after (NoPlan total) n starts list = list
starts_after (Refused r) n starts list = list

-- the answer and the record, and the starts list
unfoldable pub answered : Search → List ℕ → Ran × List ℕ
answered s list =
    let a = answer_of s.ended s.best s.total in
    (record { answer = a; search = s }, starts_after a s.batch.n s.starts list)

unfoldable pub ran_as : Outcome (Unit {0}) → Search → ℕ → List ℕ → Ran × List ℕ
ran_as (refuse k) s budget list = (record { answer = Refused (named k); search = s }, list)
ran_as (accept u) s budget list = answered (nodes budget s) list

unfoldable pub ran : Search → ℕ → List ℕ → Ran × List ℕ
ran s budget list = ran_as (run_refusal s budget (length list)) s budget list
