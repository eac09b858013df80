-- Request Q-1 of document 02, as statements about what the calls return; proofs/Judging proves them. As in Demands, every hypothesis of the form r ≡ opened file,
-- (w, buffer') ≡ written text buffer or j ≡ judged file text is word for word what the contract of that call says of its result.
use Rattle.std.specs.Prelude.{ℕ, ◌≡◌, ◌↔◌, List, take}
use Rattle.std.proofs.Math.Option.{some}
use Rattle.model.specs.declared.Batch.{Batch}
use Rattle.model.specs.declared.Search.{Search}
use Rattle.model.specs.declared.Opened.{Opened}
use Rattle.model.specs.Refusal.{Written, Judgement}
use Rattle.model.specs.Common.{refuse, accept}
use Rattle.model.specs.Format.{BatchFile}
use Rattle.model.specs.Open.{opened}
use Rattle.model.specs.Text.{plan_text, written}
use Rattle.model.specs.Answers.{open_told, write_told, judge_told, best_told}
use Rattle.model.specs.Calls.{Call}
use Rattle.model.specs.Judge.{RightText, Claim, Claims, RightJobs, RightPlan, judged}
use Rattle.promises.specs.Demands.{Called}

-- j is the answer for a file, which opening answered with o, and a text
pub record Judging (file : List ℕ) (o : Opened) (text : List ℕ) (j : Judgement) : Type 0 where
  -- it accepts exactly the plan texts whose starts form a valid plan and whose latency is right; total and shortness are not judged
  pub passes : (judge_told j ≡ accept tt) ↔ ((b : Batch) × BatchFile file b × RightText b text)
  -- it refuses, after the batch's own refusals and in this order:
  pub first : (k : ℕ) → open_told o.answer ≡ refuse k → judge_told j ≡ refuse k
  -- a text other than one B0 line with 01 and then only B1 lines of their lengths with 17,
  pub form : (b : Batch) → BatchFile file b → ((c : Claim) → ¬ Claims text c) → judge_told j ≡ refuse 17
  -- an n not the batch's or job lines not exactly 0 to n − 1 in order with 18,
  pub jobs : (b : Batch) → BatchFile file b → (c : Claim) → Claims text c → ¬ RightJobs b c → judge_told j ≡ refuse 18
  -- an invalid plan or wrong latency with 19
  pub plan : (b : Batch) → BatchFile file b → (c : Claim) → Claims text c → RightJobs b c → ¬ RightPlan b c → judge_told j ≡ refuse 19

pub record Q1 : Type 0 where
  pub judging : (file text : List ℕ) (o : Opened) (j : Judgement) → o ≡ opened file → j ≡ judged file text → Judging file o text j
  -- the finished plan of a search opened here always passes: after every list of runs on what an accepted opening yields, where there is a best, the k bytes
  -- that the plan text's writing leaves in a buffer pass with that opening's file
  pub finished :
      (file : List ℕ) (o : Opened) → o ≡ opened file → open_told o.answer ≡ accept tt
      → (cs : List Call) (s : Search) → Called o.search cs s → (l : ℕ) → best_told s.best ≡ some l
      → (buffer : List ℕ) (w : Written) (buffer' : List ℕ) → (w, buffer') ≡ written (plan_text s) buffer → (k : ℕ) → write_told w ≡ accept k
      → (j : Judgement) → j ≡ judged file (take k buffer') → judge_told j ≡ accept tt
