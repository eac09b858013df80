-- What each call yields on C's records: the planner's own `opened`, `ran` and `written`, on the search that the record stands for; and
-- `judged`, which takes no record.
use Rattle.std.specs.Prelude.{ℕ, List, [], ◌∷◌}
use Rattle.model.specs.declared.Answer.{Answer}
use Rattle.model.specs.declared.Answer.TheVariants.{Spent, Plan, NoPlan, Refused}
use Rattle.std.specs.Prelude.{Result, Ok, Err}
use Rattle.model.specs.declared.refusal.Refusal.{Refusal}
use Rattle.model.specs.declared.Search.{Search}
use Rattle.model.specs.declared.Opened.{Opened}
use Rattle.model.specs.declared.Ran.{Ran}
use Rattle.model.specs.Refusal.{Written}
use Rattle.model.specs.Common.{Outcome}
use Rattle.model.specs.Open.{opened}
use Rattle.model.specs.Run.{ran}
use Rattle.model.specs.Text.{written}
use Rattle.model.specs.Judge.{judged}
use Rattle.model.specs.Calls.{Call}
use Rattle.planner_c.specs.declared.records.Record.{Record}
use Rattle.planner_c.specs.declared.replies.Reply.{Reply}
use Rattle.planner_c.specs.declared.replies.Text.{Text}
use Rattle.planner_c.specs.Records.{search_in, record_of}
use Rattle.planner_c.specs.Replies.{number_of, reply_of, text_of, judge_number}

-- the record after opening: the one given where the file is refused, else the record of the fresh search
unfoldable pub record_opened : Record → Result (Unit {0}) Refusal → Search → Record
record_opened s (Ok u) fresh = record_of fresh
record_opened s (Err r) fresh = s

-- opening: the number and the record
unfoldable pub opened_as : Record → Opened → ℕ × Record
opened_as s o = (number_of o.answer, record_opened s o.answer o.search)

unfoldable pub opened_record : Record → List ℕ → ℕ × Record
opened_record s file = opened_as s (opened file)

-- the record after a run: the one given where the run is refused, else the record of the search reached
unfoldable pub record_after : Record → Answer → Search → Record
record_after s (Spent total) next = record_of next
record_after s (Plan latency total) next = record_of next
record_after s (NoPlan total) next = record_of next
record_after s (Refused r) next = s

-- a run: the reply and the record, and the starts list
unfoldable pub ran_as : Record → Ran × List ℕ → (Reply × Record) × List ℕ
ran_as s (r, list) = ((reply_of r.answer, record_after s r.answer r.search), list)

unfoldable pub ran_record : Record → ℕ → List ℕ → (Reply × Record) × List ℕ
ran_record s budget list = ran_as s (ran (search_in s) budget list)

-- the record after a list of run calls, each getting the record that the one before left
unfoldable pub after_runs : Record → List Call → Record
after_runs s [] = s
after_runs s (c ∷ cs) = after_runs (ran_record s c.budget c.starts).0.1 cs

-- writing: the length or the refusal, and the buffer
unfoldable pub text_as : Written × List ℕ → Text × List ℕ
text_as (w, buffer) = (text_of w, buffer)

unfoldable pub written_text : Outcome (List ℕ) → List ℕ → Text × List ℕ
written_text text buffer = text_as (written text buffer)

-- judging: 0, or the refusal
unfoldable pub judged_number : List ℕ → List ℕ → ℕ
judged_number file text = judge_number (judged file text)
