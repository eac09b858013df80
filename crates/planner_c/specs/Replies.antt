-- The answers as C's numbers. A number that an answer has not is 0.
use Rattle.std.specs.Prelude.{ℕ}
use Rattle.model.specs.declared.Answer.{Answer}
use Rattle.model.specs.declared.Answer.TheVariants.{Spent, Plan, NoPlan, Refused}
use Rattle.std.specs.Prelude.{Result, Ok, Err}
use Rattle.model.specs.declared.refusal.Refusal.{Refusal}
use Rattle.model.specs.Refusal.{number, Written, Judgement}
use Rattle.planner_c.specs.declared.replies.Reply.{Reply}
use Rattle.planner_c.specs.declared.replies.Text.{Text}

-- opening: 0, or the refusal
unfoldable pub number_of : Result (Unit {0}) Refusal → ℕ
number_of (Ok u) = 0
number_of (Err r) = number r

-- a run: kind 0 spent, 1 a plan, 2 no plan, 3 refused
unfoldable pub reply_of : Answer → Reply
reply_of (Spent total) = record { kind = 0; refusal = 0; latency = 0; total = total }
reply_of (Plan latency total) = record { kind = 1; refusal = 0; latency = latency; total = total }
reply_of (NoPlan total) = record { kind = 2; refusal = 0; latency = 0; total = total }
reply_of (Refused r) = record { kind = 3; refusal = number r; latency = 0; total = 0 }

-- writing: the number of bytes, or the refusal
unfoldable pub text_of : Written → Text
text_of (Ok count) = record { length = count; refusal = 0 }
text_of (Err r) = record { length = 0; refusal = number r }

-- judging: 0, or the refusal, as opening
abbrev pub judge_number : Judgement → ℕ
judge_number = number_of
