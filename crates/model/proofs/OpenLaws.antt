-- Opening accepts exactly the files of the format of 01 and 02 whose delays and ends can be met together, and yields a sound fresh search, which ends. Its batch text is the file,
-- and its plans are valid, after every list of calls.
use Prim.Native.Nat.{ℕ, ◌≤◌, ◌<◌, min}
use mathlib.Core.Path.{◌≡◌, refl, ap, sym, ◌∙◌, subst}
use mathlib.Core.Logic.{◌↔◌}
use mathlib.Core.Bool.{Bool, true, false}
use mathlib.Core.Option.{Option, none, some}
use mathlib.Core.List.{List, [], ◌∷◌, ◌++◌}
use native.Mathlib.Omega.{arith}
use native.Mathlib.Decide.{dec_lt}
use lib.ListN.{length, take, drop}
use lib.Seq.{take_at}
use lib.Dec.{leb}
use borrow.Author.Tests.{leb-true, le-leb}
use Rattle.model.specs.declared.Batch.{Batch}
use Rattle.model.specs.Best.{Best}
use Rattle.std.specs.Prelude.{None, Some}
use Rattle.model.specs.declared.Search.{Search}
use Rattle.model.specs.Common.{all, count, is_some, Outcome, refuse, accept, ◌>>=◌, require}
use Rattle.model.specs.Limits.{stations, most_clashes, most_start, most_latency}
use Rattle.model.specs.Batch.{ticks, delays_of, earliest_starts, latest_starts}
use Rattle.model.specs.Plan.{start, KeepsDelays, KeepsEnds, Valid, Shortest, latency}
use Rattle.model.specs.Clash.{clashes}
use Rattle.model.specs.Starts.{least_starts}
use Rattle.model.specs.Search.{place_of, fresh_place, fresh_search, nodes, Ends, node_limit}
use Rattle.model.specs.Format.{Within, batch_file, BatchFile}
use Rattle.model.specs.Open.{counts_ok, ticks_ok, jobs_ok, weight_ok, few_clashes, delays_met, read_file, open_file, opened_as, opened}
use Rattle.model.specs.Window.{window_ok}
use Rattle.model.specs.Rest.{rest_ok}
use Rattle.model.specs.Sound.{sound_edition, sound_further, sound_batch, sound_best, sound}
use Rattle.model.specs.Run.{run_refusal, ran}
use Rattle.model.specs.Text.{plan_lines, plan_text, batch_text}
use Rattle.model.specs.Answers.{Verdict, spent, plan, no_plan, run_told, verdict_of, open_told, best_told}
use Rattle.model.specs.Calls.{Call, call, after, refuses, granted}
use Rattle.model.specs.Demands.{RunLeaves, PlanWith, Reached, AnswerFor}
use Rattle.model.proofs.BoolLaws.{apart, both, and, decide}
use Rattle.model.proofs.ListLaws.{all_each, each_all, count_some, some_count}
use Rattle.model.proofs.OutcomeLaws.{refused, accept_eq, accepts_bind, accepts_require, refuses_require}
use Rattle.model.proofs.StartsLaws.{Inside, least_length, least_solution, least_found, ends_length, solved, solved_ends, inside_ends}
use Rattle.model.proofs.GoodLaws.{good_none, ValidBest}
use Rattle.model.proofs.EndLaws.{End, search_ends, best_valid, nodes_fresh}
use Rattle.model.proofs.SoundLaws.{Passes, sound_passes, passes_sound, edition_sound, fits, sound_at, place_sound}
use Rattle.model.proofs.CallLaws.{at_batch, after_fresh, list_reached, list_refused, list_answered}
use Rattle.model.proofs.LimitLaws.{jobs_iff, within_limits}
use Rattle.model.proofs.WindowLaws.{window_ok_lem}
use Rattle.model.proofs.RestLaws.{rest_ok_lem}
use Rattle.model.proofs.FileLaws.{read_format, open_read}
use Rattle.model.proofs.LeaveLaws.{running_leaves}

-- ---- refusal 10: delays of jobs below n and the ends can be met together exactly when some starts keep them

-- starts that do
abbrev pub Meets : Batch → Type 0
Meets b = (ts : List ℕ) × (length ts ≡ b.n) × (KeepsDelays b ts × KeepsEnds b ts)

pub met_starts : (b : Batch) → Inside b.n (delays_of b) → (delays_met b ≡ true) ↔ Meets b
unfolding delays_met KeepsDelays is_some
met_starts b in_b = (there (least_starts first last (delays_of b)) refl, back)
  where
    first : List ℕ
    first = earliest_starts b

    last : List ℕ
    last = latest_starts b

    there : (o : Option (List ℕ)) → least_starts first last (delays_of b) ≡ o → is_some o ≡ true → Meets b
    there none e h = apart h
    there (some ts) e h =
        let s = least_solution first last (delays_of b) (inside_ends b (delays_of b) in_b) ts e in
        (ts, least_length first last (delays_of b) ts e ∙ ends_length b, (s.keeps, solved_ends b (delays_of b) ts s))

    back : Meets b → is_some (least_starts first last (delays_of b)) ≡ true
    back (ts, n, k) = ap is_some (least_found first last (delays_of b) (inside_ends b (delays_of b) in_b) ts (solved b (delays_of b) ts k.0 k.1))

within_inside : (b : Batch) → Within b → Inside b.n (delays_of b)
unfolding Inside
within_inside b w q m = let e = w.jobs_each q m in (e.0, e.1)

-- so it is in every record: a batch that passes 4, 5, 6 and 9, and whose edition and further lines are sound, is sound exactly when some starts keep its
-- delays and ends
module _ (b : Batch) (counts : counts_ok b.n b.m ≡ true) (ticks_each : all (λ i. ticks_ok (ticks b i)) (count 0 b.n) ≡ true) (jobs_each : all (jobs_ok b.n) (delays_of b) ≡ true) (weight_each : all weight_ok (delays_of b) ≡ true) (edition : sound_edition b ≡ true) (further : sound_further b ≡ true) (few : few_clashes b ≡ true) where
  passed_inside : Inside b.n (delays_of b)
  unfolding Inside
  passed_inside q m = let e = (jobs_iff b.n q).0 (all_each (jobs_ok b.n) (delays_of b) jobs_each m) in (e.0, e.1)

  pub sound_starts : (sound_batch b ≡ true) ↔ Meets b
  sound_starts =
      let met = met_starts b passed_inside in (
        λ e. met.0 (sound_passes b e).met,
        λ t. passes_sound b (record { counts = counts; ticks_each = ticks_each; jobs_each = jobs_each; weight_each = weight_each; edition = edition; further = further; few = few; met = met.1 t }),
      )

-- a file that is read, of a batch with few enough clashes, is refused with 10 exactly when no starts keep its delays and its ends together
pub refused_10 : (file : List ℕ) (b : Batch) → read_file file ≡ accept b → length (clashes b) ≤ most_clashes → (open_file file ≡ refuse 10) ↔ ¬ Meets b
unfolding open_file few_clashes
refused_10 file b e few = (
  λ z m. refused (sym z ∙ (open_read file b).1 (e, le-leb (length (clashes b)) most_clashes few, met.1 m)),
  λ none. accepts_bind _ e ∙ accepts_require 9 _ (le-leb (length (clashes b)) most_clashes few) ∙ refuses_require 10 _ (decide (delays_met b) (λ h. none (met.0 h))),
)
  where
    met : (delays_met b ≡ true) ↔ Meets b
    met = met_starts b (within_inside b ((read_format file b).0 e).0)

-- ---- opening accepts exactly the batch files

pub open_format : (file : List ℕ) (b : Batch) → (open_file file ≡ accept b) ↔ BatchFile file b
unfolding few_clashes
open_format file b = (there, back)
  where
    there : open_file file ≡ accept b → BatchFile file b
    there e =
        let r = (open_read file b).0 e in
        let f = (read_format file b).0 r.0 in
        let s = (met_starts b (within_inside b f.0)).0 r.2 in
        record {
          within = f.0;
          text = f.1;
          blank = f.2;
          few = leb-true (length (clashes b)) most_clashes r.1;
          starts = s.0;
          starts_each = s.1;
          starts_keep = s.2;
        }

    back : BatchFile file b → open_file file ≡ accept b
    back f =
        (open_read file b).1 (
          (read_format file b).1 (f.within, f.text, f.blank),
          le-leb (length (clashes b)) most_clashes f.few,
          (met_starts b (within_inside b f.within)).1 (f.starts, f.starts_each, f.starts_keep),
        )

-- ---- its batch passes what soundness tests, and its fresh search is sound

pub file_passes : (file : List ℕ) (b : Batch) → BatchFile file b → Passes b
unfolding few_clashes sound_further
file_passes file b f =
    let l = within_limits b f.within in
    record {
      counts = l.counts;
      ticks_each = each_all (λ i. ticks_ok (ticks b i)) (count 0 b.n) (λ i m. l.ticks_each i (omega (arith, (count_some 0 b.n i m).1)));
      jobs_each = each_all (jobs_ok b.n) (delays_of b) l.jobs_each;
      weight_each = each_all weight_ok (delays_of b) l.weights_each;
      edition = edition_sound b l.edition_known;
      further =
          and (each_all (window_ok b) (count 0 b.n) (λ i m. window_ok_lem b l.windows i (omega (arith, (count_some 0 b.n i m).1))))
          (each_all (rest_ok b) (count 0 stations) (λ s m. rest_ok_lem b l.rests s (omega (arith, (count_some 0 stations s m).1))));
      few = le-leb (length (clashes b)) most_clashes f.few;
      met = (met_starts b (within_inside b f.within)).1 (f.starts, f.starts_each, f.starts_keep);
    }

pub fresh_sound : (b : Batch) → Passes b → sound (fresh_search b) ≡ true
unfolding fresh_search fresh_place sound_best
fresh_sound b p = place_sound b p 0 fresh_place (omega arith) (record { turns = good_none b; best = refl; over = λ e. refl })

-- ---- its search ends

pub file_ends : (file : List ℕ) (b : Batch) (f : BatchFile file b) → (n : ℕ) × End b (fits b (file_passes file b f)) n
file_ends file b f = search_ends b (fits b (file_passes file b f))

-- ---- every list of calls on its fresh search

pub after_append : (s : Search) (cs : List Call) (c : Call) → after s (cs ++ (c ∷ [])) ≡ (call (after s cs) c).0.search
unfolding after
after_append s [] c = refl
after_append s (d ∷ cs) c = after_append (call s d).0.search cs c

module _ (file : List ℕ) (b : Batch) (f : BatchFile file b) where
  abbrev passes : Passes b
  passes = file_passes file b f

  -- its N
  abbrev pub N : ℕ
  N = (file_ends file b f).0

  abbrev end : End b (fits b passes) N
  end = (file_ends file b f).1

  pub file_end : Ends b N × (N ≤ node_limit b)
  file_end = (end.ends, end.bound)

  -- every list of calls: the record, and whether the table refuses one more and how that is answered
  pub after_reached : (cs : List Call) → Reached b N (granted b N 0 cs) (after (fresh_search b) cs)
  after_reached = list_reached b passes N end (fresh_sound b passes)

  pub after_refused : (cs : List Call) (c : Call) → (refuses b N (granted b N 0 cs) c ≡ true) ↔ ((k : ℕ) × (run_told (call (after (fresh_search b) cs) c).0.answer ≡ refuse k))
  after_refused = list_refused b passes N end (fresh_sound b passes)

  pub after_answered : (cs : List Call) (c : Call) → let x = call (after (fresh_search b) cs) c in refuses b N (granted b N 0 cs) c ≡ false → AnswerFor b N (granted b N 0 (cs ++ (c ∷ []))) (run_told x.0.answer) x.1
  after_answered = list_answered b passes N end (fresh_sound b passes)

  -- the record after a list of calls: it is sound, of this batch, and some number of nodes on
  record AfterCalls (s : Search) : Type 0 where
    is_sound : sound s ≡ true
    k : ℕ
    is : s ≡ nodes k (fresh_search b)
    batch : s.batch ≡ b

  after_calls : (cs : List Call) → AfterCalls (after (fresh_search b) cs)
  after_calls cs =
      let r = after_fresh b passes N end (fresh_sound b passes) cs in
      record {
        is_sound = ap sound r.0 ∙ r.1;
        k = min (granted b N 0 cs) N;
        is = r.0;
        batch = ap (λ (s : Search). s.batch) r.0 ∙ at_batch b passes N end (min (granted b N 0 cs) N);
      }

  -- the batch text is the file
  pub written_back : (cs : List Call) → batch_text (after (fresh_search b) cs) ≡ accept file
  unfolding batch_text require ◌>>=◌
  written_back cs =
      let a = after_calls cs in
      rw a.is_sound (ap (λ (c : Batch). accept (batch_file c)) a.batch ∙ ap accept (sym f.text))

  -- the plan text is that of the record's best
  pub text_plans : (cs : List Call) → let s = after (fresh_search b) cs in s.ended ≡ true → plan_text s ≡ accept (plan_lines s.best b.n s.starts s.total)
  unfolding plan_text require ◌>>=◌
  text_plans cs e =
      let s = after (fresh_search b) cs in
      let a = after_calls cs in
      rw (a.is_sound, e) (ap (λ (c : Batch). accept (plan_lines s.best c.n s.starts s.total)) a.batch)

  -- best is a valid plan with its latency
  valid_best : (best : Best) (starts : List ℕ) → ValidBest b (record { best = best; starts = starts }) → (l : ℕ) → best_told best ≡ some l → PlanWith b starts l
  unfolding best_told PlanWith
  valid_best None starts v l e = let z : ◌≡◌ {A = ℕ} 0 1 = cc in absurd (omega arith)
  valid_best (Some k) starts v l e = let z : k ≡ l = cc in (v.0, v.1 ∙ z)

  pub best_plans : (cs : List Call) → let s = after (fresh_search b) cs in (l : ℕ) → best_told s.best ≡ some l → PlanWith b s.starts l
  unfolding place_of
  best_plans cs =
      let a = after_calls cs in
      subst (λ (s : Search). (l : ℕ) → best_told s.best ≡ some l → PlanWith b s.starts l) (sym (a.is ∙ nodes_fresh b a.k))
      (valid_best _ _ (best_valid b (fits b passes) a.k).good.best)

  -- and keeps 02's limits: no start above 43,000, no latency above 43,016
  limited : (best : Best) (starts : List ℕ) → sound_best b.n best starts ≡ true → (l : ℕ) → best_told best ≡ some l → ((i : ℕ) → i < b.n → start starts i ≤ most_start) × (l ≤ most_latency)
  unfolding best_told sound_best
  limited None starts h l e = let z : ◌≡◌ {A = ℕ} 0 1 = cc in absurd (omega arith)
  limited (Some k) starts h l e =
      let z : k ≡ l = cc in
      let r = both (leb k most_latency) _ h in (
        λ i g. leb-true (start starts i) most_start (all_each (λ i. leb (start starts i) most_start) (count 0 b.n) r.1 (some_count 0 b.n i (omega arith) (omega arith))),
        omega (arith, leb-true k most_latency r.0),
      )

  pub best_limits : (cs : List Call) → let s = after (fresh_search b) cs in (l : ℕ) → best_told s.best ≡ some l → ((i : ℕ) → i < b.n → start s.starts i ≤ most_start) × (l ≤ most_latency)
  unfolding place_of
  best_limits cs =
      let s = after (fresh_search b) cs in
      let a = after_calls cs in
      limited s.best s.starts (sound_at b passes s a.batch a.is_sound).0.good.best

  -- the record is still of this batch
  pub after_batch : (cs : List Call) → (after (fresh_search b) cs).batch ≡ b
  after_batch cs = (after_calls cs).batch

  -- an answer that is told is the one for S and N
  answer_told : (cs : List Call) (c : Call) (v : Verdict) → let x = call (after (fresh_search b) cs) c in run_told x.0.answer ≡ accept v → AnswerFor b N (granted b N 0 (cs ++ (c ∷ []))) (run_told x.0.answer) x.1
  answer_told cs c v e =
      after_answered cs c (decide (refuses b N (granted b N 0 cs) c) (λ h. let (k, z) = (after_refused cs c).0 h in refused (sym z ∙ e)))

  -- so a plan that is told is shortest, with its latency, and where no plan is told there is no valid one
  pub answer_shortest : (cs : List Call) (c : Call) (l t : ℕ) → let x = call (after (fresh_search b) cs) c in run_told x.0.answer ≡ accept (plan l t) → Shortest b (take b.n x.1) × (latency b (take b.n x.1) ≡ l)
  answer_shortest cs c l t e = let a = answer_told cs c (plan l t) e in a.shortest l t (accept_eq (sym a.answered ∙ e))

  pub answer_none : (cs : List Call) (c : Call) (t : ℕ) → run_told (call (after (fresh_search b) cs) c).0.answer ≡ accept (no_plan t) → (ts : List ℕ) → ¬ Valid b ts
  answer_none cs c t e ts v =
      let a = answer_told cs c (no_plan t) e in
      let is : a.verdict ≡ no_plan t = accept_eq (sym a.answered ∙ e) in
      by a.verdict is a.is_spent.1 (λ h. a.is_plan h ts v) (dec_lt S N)
    where
      S : ℕ
      S = granted b N 0 (cs ++ (c ∷ []))

      by : (w : Verdict) → w ≡ no_plan t → (S < N → (t : ℕ) × (w ≡ spent t)) → (N ≤ S → (l : ℕ) × (w ≡ plan l N)) → Dec (S < N) → ⊥
      by w is more ended (yes h) = let (k, z) = more h in let y : ◌≡◌ {A = ℕ} 0 1 = cc in omega arith
      by w is more ended (no h) = let (l, z) = ended (omega arith) in let y : ◌≡◌ {A = ℕ} 0 1 = cc in omega arith

  -- an answer with a plan is best's, and its starts are the list's first n places
  told_best : (e : Bool) (best : Option ℕ) (total l t : ℕ) → verdict_of e best total ≡ plan l t → best ≡ some l
  unfolding verdict_of
  told_best false best total l t e = let z : ◌≡◌ {A = ℕ} 0 1 = cc in absurd (omega arith)
  told_best true none total l t e = let z : ◌≡◌ {A = ℕ} 0 1 = cc in absurd (omega arith)
  told_best true (some k) total l t e = let z : k ≡ l = cc in ap some z

  pub answer_plans : (cs : List Call) (c : Call) → let x = call (after (fresh_search b) cs) c in (l t : ℕ) → run_told x.0.answer ≡ accept (plan l t) → PlanWith b x.1 l
  unfolding call PlanWith
  answer_plans cs c l t e = by (run_refusal s c.budget (length c.starts)) refl
    where
      s : Search
      s = after (fresh_search b) cs

      leaves : RunLeaves s c.budget c.starts (ran s c.budget c.starts).0 (ran s c.budget c.starts).1
      leaves = running_leaves s c.budget c.starts

      by : (o : Outcome (Unit {0})) → run_refusal s c.budget (length c.starts) ≡ o → PlanWith b (ran s c.budget c.starts).1 l
      by (refuse k) g = refused (sym (leaves.refused k g).0 ∙ e)
      by (accept u) g =
          let starts = (ran s c.budget c.starts).0.search.starts in
          let p : PlanWith b starts l =
          subst (λ (x : Search). (l : ℕ) → best_told x.best ≡ some l → PlanWith b x.starts l) (after_append (fresh_search b) cs c) (best_plans (cs ++ (c ∷ []))) l
          (told_best _ _ _ l t (accept_eq (sym (leaves.reached g).1 ∙ e))) in
          let z = leaves.plan_list l t e ∙ ap (λ (x : Batch). take x.n starts ++ drop x.n c.starts) (after_calls cs).batch in
          let placed = take_at (take b.n starts) (drop b.n c.starts) b.n p.0.starts in
          subst (λ (list : List ℕ). Valid b list × (latency b list ≡ l)) (sym (ap (take b.n) z ∙ placed)) p

-- ---- the answer of opening

accepted_file : (file : List ℕ) (o : Outcome Batch) → open_file file ≡ o → open_told (opened_as o).answer ≡ accept tt → (b : Batch) × BatchFile file b
unfolding opened_as open_told
accepted_file file (refuse k) e h = refused h
accepted_file file (accept b) e h = (b, (open_format file b).0 e)

pub opens : (file : List ℕ) → (open_told (opened file).answer ≡ accept tt) ↔ ((b : Batch) × BatchFile file b)
unfolding opened opened_as open_told
opens file = (λ e. accepted_file file (open_file file) refl e, λ (b, f). ap (λ (o : Outcome Batch). open_told (opened_as o).answer) ((open_format file b).1 f))

pub yields : (file : List ℕ) (b : Batch) → BatchFile file b → (opened file).search ≡ fresh_search b
unfolding opened opened_as
yields file b f = ap (λ (o : Outcome Batch). (opened_as o).search) ((open_format file b).1 f)
