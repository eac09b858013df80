-- Request Q-3 of document 02, as statements about what the calls return; proofs/Finish proves them. As in Demands, every hypothesis of the form o ≡ opened file,
-- (r, list') ≡ ran s budget list, (w, buffer') ≡ written text buffer or j ≡ judged file text is word for word what the contract of that call says of its result.
use Rattle.std.specs.Prelude.{ℕ, ◌≡◌, List, take}
use Rattle.std.proofs.Math.Option.{some}
use Rattle.model.specs.declared.Batch.{Batch}
use Rattle.model.specs.declared.Search.{Search}
use Rattle.model.specs.declared.Opened.{Opened}
use Rattle.model.specs.declared.Ran.{Ran}
use Rattle.model.specs.Refusal.{Written, Judgement}
use Rattle.model.specs.Common.{accept}
use Rattle.model.specs.Finish.{FirstOver}
use Rattle.model.specs.Padded.{Padded, in_batch}
use Rattle.model.specs.Format.{Within, batch_file, blanked, BatchFile}
use Rattle.model.specs.Open.{opened}
use Rattle.model.specs.Run.{ran}
use Rattle.model.specs.Text.{plan_text, written}
use Rattle.model.specs.Answers.{plan, run_told, open_told, best_told}
use Rattle.model.specs.Calls.{Call}
use Rattle.model.specs.Judge.{judged}
use Rattle.promises.specs.Demands.{Called}

-- a file in form, of a batch within the limits: nothing but 9 and 10 can refuse it
pub record FileOf (file : List ℕ) (b : Batch) : Type 0 where
  pub within : Within b
  pub text : file ≡ batch_file b
  pub blank : b ≡ blanked b

-- o and o' are what opening gives for two files, of which the second has empty ticks added at the ends of tables
pub record PaddedFiles (file file' : List ℕ) (b' : Batch) (o o' : Opened) : Type 0 where
  -- both open, or both are refused with the same number
  pub opens : open_told o'.answer ≡ open_told o.answer
  -- after every list of runs the two records differ in the batch alone, and a further run gives the same answer and leaves the same list
  pub runs :
      open_told o.answer ≡ accept tt → (cs : List Call) (s s' : Search) → Called o.search cs s → Called o'.search cs s'
      → (s' ≡ in_batch b' s) × ((c : Call) (r r' : Ran) (list list' : List ℕ) → (r, list) ≡ ran s c.budget c.starts → (r', list') ≡ ran s' c.budget c.starts → (r'.answer ≡ r.answer) × (list' ≡ list))
  -- the plan text is written alike
  pub texts :
      open_told o.answer ≡ accept tt → (cs : List Call) (s s' : Search) → Called o.search cs s → Called o'.search cs s'
      → (buffer : List ℕ) (w w' : Written) (after after' : List ℕ) → (w, after) ≡ written (plan_text s) buffer → (w', after') ≡ written (plan_text s') buffer → (w' ≡ w) × (after' ≡ after)
  -- and every text is judged alike
  pub judges : (text : List ℕ) (j j' : Judgement) → j ≡ judged file text → j' ≡ judged file' text → j' ≡ j

pub record Q3 : Type 0 where
  -- the latency of every plan of a search opened here is the first tick in which all is over: as best in the record, and in an answer with its starts list
  pub best :
      (file : List ℕ) (o : Opened) → o ≡ opened file → (b : Batch) → BatchFile file b → (cs : List Call) (s : Search) → Called o.search cs s
      → (l : ℕ) → best_told s.best ≡ some l → FirstOver b (take b.n s.starts) l
  pub answer :
      (file : List ℕ) (o : Opened) → o ≡ opened file → (b : Batch) → BatchFile file b → (cs : List Call) (s : Search) → Called o.search cs s
      → (c : Call) (r : Ran) (list' : List ℕ) → (r, list') ≡ ran s c.budget c.starts → (l t : ℕ) → run_told r.answer ≡ accept (plan l t) → FirstOver b (take b.n list') l
  -- padding a table changes nothing else
  pub padded :
      (file file' : List ℕ) (b b' : Batch) → FileOf file b → FileOf file' b' → Padded b b'
      → (o o' : Opened) → o ≡ opened file → o' ≡ opened file' → PaddedFiles file file' b' o o'
