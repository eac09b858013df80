-- The program `plan`: from the bytes of a batch file to the text that it prints. Which bytes are the file, the first 65,536 of standard input or all if
-- fewer, no contract can say: what is read and written is tested.
use Rattle.std.specs.Prelude.{ℕ, zero, suc, List, ◌++◌, length, drop, replicate}
use Rattle.model.specs.declared.Search.{Search}
use Rattle.model.specs.Common.{Outcome, refuse, accept, ◌>>=◌}
use Rattle.model.specs.Limits.{most_jobs, most_budget}
use Rattle.model.specs.Search.{fresh_search}
use Rattle.model.specs.Open.{open_file}
use Rattle.model.specs.Run.{ran}
use Rattle.model.specs.Answers.{Verdict, spent, plan, no_plan, run_told}
use Rattle.model.specs.Text.{plan_text, refusal_line}

-- after a run: again while it is spent, and otherwise the text
unfoldable pub go_on : (Search → Outcome (List ℕ)) → Search → Verdict → Outcome (List ℕ)
go_on again s (spent total) = again s
go_on again s (plan latency total) = plan_text s
go_on again s (no_plan total) = plan_text s

-- at most k runs with budgets of 1,000,000
unfoldable pub planned : ℕ → Search → Outcome (List ℕ)
planned zero s = refuse 14
planned (suc k) s = let r = (ran s most_budget (replicate most_jobs 0)).0 in run_told r.answer >>= go_on (planned k) r.search

-- prints the text, or BF and the refusal number
unfoldable pub printed : Outcome (List ℕ) → List ℕ
printed (accept text) = text
printed (refuse k) = refusal_line k

-- the text for a batch file. 100 spent runs use up the limit on total, so that the 101st answers otherwise
unfoldable pub text_for : List ℕ → List ℕ
text_for file = printed (open_file file >>= λ b. planned 101 (fresh_search b))

-- a text at the front of a buffer: its length, and what the buffer then holds
unfoldable pub at_front : List ℕ → List ℕ → ℕ × List ℕ
at_front text buffer = (length text, text ++ drop (length text) buffer)
