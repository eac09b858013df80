-- Request Q-3 of the public calls: what the contracts say of the results makes them the definitions' results, of which model's laws show it. Then it is pinned:
-- the latency that is told is that of the starts, every padding of every file in form is there, and what the two files give is read out for every call.
use Prim.Native.Nat.{ℕ, ◌+◌, ◌≤◌, ◌<◌}
use mathlib.Core.Path.{◌≡◌, refl, ap, ap₂, sym, ◌∙◌, subst}
use mathlib.Core.Logic.{◌↔◌}
use mathlib.Core.Option.{some}
use mathlib.Core.List.{List}
use lib.ListN.{take}
use Rattle.model.specs.declared.Batch.{Batch}
use Rattle.model.specs.declared.Search.{Search}
use Rattle.model.specs.declared.Opened.{Opened}
use Rattle.model.specs.declared.Ran.{Ran}
use Rattle.model.specs.Refusal.{Written}
use Rattle.model.specs.Common.{Outcome, accept}
use Rattle.model.specs.Limits.{most_ticks}
use Rattle.model.specs.Batch.{ticks}
use Rattle.model.specs.Plan.{latency}
use Rattle.model.specs.Finish.{FirstOver}
use Rattle.model.specs.Padded.{Padded, in_batch}
use Rattle.model.specs.Search.{search_of, fresh_search}
use Rattle.model.specs.Format.{batch_file, BatchFile}
use Rattle.model.specs.Open.{read_file, opened}
use Rattle.model.specs.Sound.{sound_batch}
use Rattle.model.specs.Run.{ran}
use Rattle.model.specs.Text.{plan_text, written}
use Rattle.model.specs.Answers.{plan, run_told, open_told, best_told}
use Rattle.model.specs.Calls.{Call, call, after}
use Rattle.model.specs.Demands.{PlanWith}
use Rattle.model.specs.Judge.{judged}
use Rattle.model.proofs.OutcomeLaws.{accept_eq}
use Rattle.model.proofs.FinishLaws.{latency_over}
use Rattle.model.proofs.FileLaws.{read_format}
use Rattle.model.proofs.SoundLaws.{passes_sound}
use Rattle.model.proofs.OpenLaws.{file_passes, opens, yields}
use Rattle.model.proofs.PaddedLaws.{padded_opened, padded_judged, padded_text, padded_call, padded_after}
use Rattle.model.proofs.PaddingLaws.{every_padding}
use Rattle.promises.specs.Demands.{Called}
use Rattle.promises.specs.Finish.{FileOf, PaddedFiles, Q3}
use Rattle.promises.proofs.Demands.{called_after, demands}
use Rattle.promises.proofs.Pins.{called_there}

-- a plan with its latency is over in it, and not before
plan_over : (file : List ℕ) (b : Batch) → BatchFile file b → (list : List ℕ) (l : ℕ) → PlanWith b list l → FirstOver b (take b.n list) l
unfolding PlanWith
plan_over file b f list l p = (latency_over b f.within (take b.n list) l).0 p.1

-- ---- padding

-- a file is in form exactly when it is read
pub form_iff : (file : List ℕ) (b : Batch) → FileOf file b ↔ (read_file file ≡ accept b)
form_iff file b = (
  λ f. (read_format file b).1 (f.within, f.text, f.blank),
  λ e. let (within, text, blank) = (read_format file b).0 e in record { within = within; text = text; blank = blank },
)

-- a file that is read and opens is the batch's file
file_at : (file : List ℕ) (b : Batch) → read_file file ≡ accept b → open_told (opened file).answer ≡ accept tt → BatchFile file b
file_at file b r accepted =
    let (c, g) = (opens file).0 accepted in
    subst (BatchFile file) (accept_eq (sym ((read_format file c).1 (g.within, g.text, g.blank)) ∙ r)) g

module _ (file file' : List ℕ) (b b' : Batch) (f : FileOf file b) (f' : FileOf file' b') (p : Padded b b') where
  read : read_file file ≡ accept b
  read = (form_iff file b).0 f

  read' : read_file file' ≡ accept b'
  read' = (form_iff file' b').0 f'

  module _ (accepted : open_told (opened file).answer ≡ accept tt) (cs : List Call) (s s' : Search) (h : Called (opened file).search cs s) (h' : Called (opened file').search cs s') where
    here : BatchFile file b
    here = file_at file b read accepted

    there : BatchFile file' b'
    there = file_at file' b' read' (padded_opened b b' p file file' read read' ∙ accepted)

    both : sound_batch b' ≡ sound_batch b
    both = passes_sound b' (file_passes file' b' there) ∙ sym (passes_sound b (file_passes file b here))

    at : s ≡ after (fresh_search b) cs
    at = called_after h ∙ ap (λ (x : Search). after x cs) (yields file b here)

    moved : (after (fresh_search b') cs ≡ in_batch b' (after (fresh_search b) cs)) × ((after (fresh_search b) cs).batch ≡ b)
    unfolding fresh_search search_of in_batch
    moved = padded_after b b' p both cs (fresh_search b) refl

    batch_at : s.batch ≡ b
    batch_at = ap (λ (x : Search). x.batch) at ∙ moved.1

    record_at : s' ≡ in_batch b' s
    record_at = called_after h' ∙ ap (λ (x : Search). after x cs) (yields file' b' there) ∙ moved.0 ∙ ap (in_batch b') (sym at)

    run_at : (c : Call) (r r' : Ran) (list list' : List ℕ) → (r, list) ≡ ran s c.budget c.starts → (r', list') ≡ ran s' c.budget c.starts → (r'.answer ≡ r.answer) × (list' ≡ list)
    unfolding call
    run_at c r r' list list' m m' =
        let q = m' ∙ ap (λ (x : Search). ran x c.budget c.starts) record_at ∙ padded_call b b' p both s batch_at c in (
          ap (λ (x : Ran × List ℕ). x.0.answer) q ∙ sym (ap (λ (x : Ran × List ℕ). x.0.answer) m),
          ap (λ (x : Ran × List ℕ). x.1) q ∙ sym (ap (λ (x : Ran × List ℕ). x.1) m),
        )

    text_at : plan_text s' ≡ plan_text s
    text_at = ap plan_text record_at ∙ padded_text b b' p both s batch_at

  padded_files : PaddedFiles file file' b' (opened file) (opened file')
  padded_files =
      record {
        opens = padded_opened b b' p file file' read read';
        runs = λ accepted cs s s' h h'. (record_at accepted cs s s' h h', run_at accepted cs s s' h h');
        texts = λ accepted cs s s' h h' buffer w w' after after' m m'.
            let q = m' ∙ ap (λ (t : Outcome (List ℕ)). written t buffer) (text_at accepted cs s s' h h') ∙ sym m in
            (ap (λ (x : Written × List ℕ). x.0) q, ap (λ (x : Written × List ℕ). x.1) q);
        judges = λ text j j' e e'. e' ∙ padded_judged b b' p file file' read read' text ∙ sym e;
      }

pub q3 : Q3
q3 =
    record {
      best = λ file o e b f cs s h l z. plan_over file b f s.starts l ((demands.demand_2 file o e).best_plans b f cs s h l z);
      answer = λ file o e b f cs s h c r list' m l t z. plan_over file b f list' l ((demands.demand_2 file o e).answer_plans b f cs s h c r list' m l t z);
      padded = λ file file' b b' f f' p o o' e e'.
          subst (λ (x : Opened). PaddedFiles file file' b' x o') (sym e) (subst (λ (x : Opened). PaddedFiles file file' b' (opened file) x) (sym e') (padded_files file file' b b' f f' p));
    }

-- ---- pinned

module _ (q : Q3) where
  -- after every list of runs on a file that opens, best and the answer tell the latency of their starts
  module _ (file : List ℕ) (b : Batch) (f : BatchFile file b) (cs : List Call) where
    abbrev s : Search
    s = after (opened file).search cs

    abbrev reached : Called (opened file).search cs s
    reached = called_there (opened file).search cs

    pub every_best_latency : (l : ℕ) → best_told s.best ≡ some l → latency b (take b.n s.starts) ≡ l
    every_best_latency l e = (latency_over b f.within (take b.n s.starts) l).1 (q.best file (opened file) refl b f cs s reached l e)

    pub every_answer_latency : (c : Call) (l t : ℕ) → run_told (call s c).0.answer ≡ accept (plan l t) → latency b (take b.n (call s c).1) ≡ l
    unfolding call
    every_answer_latency c l t e =
        let x = ran s c.budget c.starts in
        (latency_over b f.within (take b.n x.1) l).1 (q.answer file (opened file) refl b f cs s reached c x.0 x.1 refl l t e)

  -- of every file that is read, each table may be padded by as many empty ticks as it has room for
  pub every_padded :
      (file : List ℕ) (b : Batch) → read_file file ≡ accept b → (more : ℕ → ℕ) → ((i : ℕ) → i < b.n → ticks b i + more i ≤ most_ticks)
      → (file' : List ℕ) × (b' : Batch) × (read_file file' ≡ accept b') × ((i : ℕ) → i < b.n → ticks b' i ≡ ticks b i + more i) × PaddedFiles file file' b' (opened file) (opened file')
  every_padded file b r more room =
      let f = (form_iff file b).1 r in
      let (b', r', p, longer) = every_padding b f.within more room in
      let f' = (form_iff (batch_file b') b').1 r' in
      (batch_file b', b', r', longer, q.padded file (batch_file b') b b' f f' p (opened file) (opened (batch_file b')) refl refl)

-- what the calls give for two such files
module _ (file file' : List ℕ) (b' : Batch) (p : PaddedFiles file file' b' (opened file) (opened file')) where
  pub alike_opened : open_told (opened file').answer ≡ open_told (opened file).answer
  alike_opened = p.opens

  pub alike_judged : (text : List ℕ) → judged file' text ≡ judged file text
  alike_judged text = p.judges text (judged file text) (judged file' text) refl refl

  module _ (accepted : open_told (opened file).answer ≡ accept tt) (cs : List Call) where
    abbrev one : Search
    one = after (opened file).search cs

    abbrev other : Search
    other = after (opened file').search cs

    abbrev at_one : Called (opened file).search cs one
    at_one = called_there (opened file).search cs

    abbrev at_other : Called (opened file').search cs other
    at_other = called_there (opened file').search cs

    pub alike_records : other ≡ in_batch b' one
    alike_records = (p.runs accepted cs one other at_one at_other).0

    pub alike_runs : (c : Call) → ((call other c).0.answer ≡ (call one c).0.answer) × ((call other c).1 ≡ (call one c).1)
    unfolding call
    alike_runs c =
        let x = ran one c.budget c.starts in
        let y = ran other c.budget c.starts in
        (p.runs accepted cs one other at_one at_other).1 c x.0 y.0 x.1 y.1 refl refl

    pub alike_texts : (buffer : List ℕ) → written (plan_text other) buffer ≡ written (plan_text one) buffer
    alike_texts buffer =
        let x = written (plan_text one) buffer in
        let y = written (plan_text other) buffer in
        let e = p.texts accepted cs one other at_one at_other buffer x.0 y.0 x.1 y.1 refl refl in
        ap₂ (λ (w : Written) (l : List ℕ). (w, l)) e.0 e.1
