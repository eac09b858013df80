-- Request Q-4 of the public calls: what the contracts say of the results makes them the definitions' results, of which model's laws show it. Then it is pinned: each
-- statement is read out for every file and every list of runs, with the numbers of 02.
use Prim.Native.Nat.{ℕ, ◌≤◌, ◌<◌}
use mathlib.Core.Path.{◌≡◌, refl, ap, sym, ◌∙◌, subst}
use mathlib.Core.Logic.{◌↔◌, ◌≢◌}
use mathlib.Core.Bool.{true, false}
use mathlib.Core.Option.{some}
use mathlib.Core.List.{List}
use native.Mathlib.Omega.{arith}
use lib.ListN.{length, replicate, take}
use Rattle.model.specs.declared.Batch.{Batch}
use Rattle.model.specs.declared.Search.{Search}
use Rattle.model.specs.declared.Opened.{Opened}
use Rattle.model.specs.Common.{Outcome, refuse, accept}
use Rattle.model.specs.Limits.{most_jobs}
use Rattle.model.specs.Batch.{blank_window, lined, earliest, latest}
use Rattle.model.specs.Plan.{start, KeepsDelays, KeepsEnds, latency}
use Rattle.model.specs.Clash.{clashes}
use Rattle.model.specs.Format.{BatchFile}
use Rattle.model.specs.Open.{read_file, open_file, opened_as, opened}
use Rattle.model.specs.First.{Valid01, Shortest01, nodes01, open_file01, Begins}
use Rattle.model.specs.Sound.{sound}
use Rattle.model.specs.Run.{run_refusal, ran}
use Rattle.model.specs.Answers.{plan, no_plan, run_told, open_told, best_told}
use Rattle.model.specs.Calls.{Call, call, after}
use Rattle.model.proofs.OutcomeLaws.{refuse_as, refused}
use Rattle.model.proofs.RefusalLaws.{given_number, open_given, open_refusals}
use Rattle.model.proofs.OpenLaws.{refused_10}
use Rattle.model.proofs.FirstLaws.{open_first, open_second, open_3, refused_8, refused_20, search01}
use Rattle.promises.specs.Demands.{Called}
use Rattle.promises.specs.Windows.{First, Numbers, Q4}
use Rattle.promises.proofs.Demands.{demands}
use Rattle.promises.proofs.Pins.{called_there}
use Rattle.promises.proofs.Finish.{form_iff}
use Rattle.promises.proofs.WindowRuns.{first_at, starts_at_lem}

-- what opening refuses with is what it tells
told_refused : (file : List ℕ) (o : Outcome Batch) → open_file file ≡ o → (k : ℕ) → (open_told (opened_as o).answer ≡ refuse k) ↔ (o ≡ refuse k)
unfolding opened_as open_told
told_refused file (refuse j) is k =
    let z = given_number j (open_given (open_refusals file j is)) in
    (λ e. refuse_as (ap refuse (sym z) ∙ e), λ e. ap refuse z ∙ refuse_as e)
told_refused file (accept b) is k = (λ e. refused (sym e), λ e. refused (sym e))

module _ (file : List ℕ) where
  pub told : (k : ℕ) → (open_told (opened file).answer ≡ refuse k) ↔ (open_file file ≡ refuse k)
  unfolding opened
  told = told_refused file (open_file file) refl

  numbers_of : Numbers file (opened file)
  numbers_of =
      record {
        three = λ edition byte h. let r = open_3 file edition byte h in (λ e. r.0 ((told 3).0 e), λ n. (told 3).1 (r.1 n));
        eight = λ e. refused_8 file ((told 8).0 e);
        twenty = λ e. refused_20 file ((told 20).0 e);
      }

pub q4 : Q4
unfolding opened
q4 =
    record {
      first = λ file o e other. e ∙ ap opened_as (open_first file other);
      runs_first = λ file o e b f one cs s h. first_at file b f cs s (subst (λ (x : Opened). Called x.search cs s) e h) one;
      nodes_first = λ s e one budget list granted r list' m.
          ((demands.demand_1.running s budget list r list' m).reached granted).0 ∙ search01 s e one budget;
      starts = λ file o e b f cs s h. starts_at_lem file b f cs s (subst (λ (x : Opened). Called x.search cs s) e h);
      ten = λ file b f few o e.
          let r = refused_10 file b ((form_iff file b).0 f) few in
          let t : (open_told o.answer ≡ refuse 10) ↔ (open_file file ≡ refuse 10) = subst (λ (x : Opened). (open_told x.answer ≡ refuse 10) ↔ (open_file file ≡ refuse 10)) (sym e) (told file 10) in
          (λ z ts n d k. r.0 (t.0 z) (ts, n, (d, k)), λ none. t.1 (r.1 (λ (ts, n, (d, k)). none ts n d k)));
      numbers = λ file o e. subst (Numbers file) (sym e) (numbers_of file);
    }

-- ---- pinned

module _ (q : Q4) where
  -- every file without a header of edition 02 gives what 01 says, and one with it what 01 does not
  pub every_first : (file : List ℕ) → ¬ Begins 2 file → opened file ≡ opened_as (open_file01 file)
  every_first file = q.first file (opened file) refl

  pub every_second : (file : List ℕ) → Begins 2 file → opened file ≡ opened_as (open_file01 file) → ⊥
  unfolding opened_as open_told
  every_second file h e =
      let z = (open_second file h).0 in
      let told = ap (λ (o : Opened). open_told o.answer) e ∙ ap (λ (o : Outcome Batch). open_told (opened_as o).answer) z ∙ ap refuse (given_number 3 (omega arith, omega arith)) in
      (((q.numbers file (opened file) refl).three 2 (omega arith) h).0 told).1 refl

  -- and every run that is not refused, from every sound record of edition 01, is 01's
  pub every_run01 : (s : Search) → sound s ≡ true → s.batch.edition ≡ 1 → (budget : ℕ) (list : List ℕ) → run_refusal s budget (length list) ≡ accept tt → (ran s budget list).0.search ≡ nodes01 budget s
  every_run01 s e one budget list granted = let x = ran s budget list in q.nodes_first s e one budget list granted x.0 x.1 refl

  -- edition 01, after every list of runs: every place's ends, every plan, and that there is none
  module _ (file : List ℕ) (b : Batch) (f : BatchFile file b) (cs : List Call) where
    abbrev s : Search
    s = after (opened file).search cs

    abbrev reached : Called (opened file).search cs s
    reached = called_there (opened file).search cs

    module _ (one : b.edition ≡ 1) where
      abbrev here : First b s
      here = q.runs_first file (opened file) refl b f one cs s reached

      pub every_place : s.batch.windows ≡ replicate most_jobs blank_window
      every_place = here.windows

      pub every_end : (i : ℕ) → (lined s.batch i ≡ false) × (earliest s.batch i ≡ 0) × (latest s.batch i ≡ 65535)
      every_end i = here.ends i

      pub every_plan01 : (c : Call) (l t : ℕ) → run_told (call s c).0.answer ≡ accept (plan l t) → let ts = take b.n (call s c).1 in Shortest01 b ts × (latency b ts ≡ l)
      unfolding call
      every_plan01 c l t e = let x = ran s c.budget c.starts in here.plans c x.0 x.1 refl l t e

      pub every_plan01_least : (c : Call) (l t : ℕ) → run_told (call s c).0.answer ≡ accept (plan l t) → (us : List ℕ) → Valid01 b us → l ≤ latency b us
      every_plan01_least c l t e us v = let r = every_plan01 c l t e in omega (arith, r.0.least us v, r.1)

      pub every_none01 : (c : Call) (t : ℕ) → run_told (call s c).0.answer ≡ accept (no_plan t) → (ts : List ℕ) → ¬ Valid01 b ts
      unfolding call
      every_none01 c t = let x = ran s c.budget c.starts in here.none c x.0 x.1 refl t

    -- either edition: best's starts and latency
    pub every_start : (l : ℕ) → best_told s.best ≡ some l → (i : ℕ) → i < b.n → (earliest b i ≤ start s.starts i) × (start s.starts i ≤ latest b i) × (start s.starts i ≤ 43000)
    every_start l e i h = let r = q.starts file (opened file) refl b f cs s reached l e in ((r.ends i h).0, (r.ends i h).1, r.most i h)

    pub every_latency : (l : ℕ) → best_told s.best ≡ some l → l ≤ 43016
    every_latency l e = (q.starts file (opened file) refl b f cs s reached l e).latency_most

  -- 10, for every file that is read: starts that keep delays and ends mean that it is not refused with it, and where there are none it is
  pub every_ten :
      (file : List ℕ) (b : Batch) → read_file file ≡ accept b → length (clashes b) ≤ 1024
      → (open_told (opened file).answer ≡ refuse 10) ↔ ((ts : List ℕ) → length ts ≡ b.n → KeepsDelays b ts → KeepsEnds b ts → ⊥)
  every_ten file b r few = q.ten file b ((form_iff file b).1 r) few (opened file) refl

  -- the numbers of every file
  pub every_3 : (file : List ℕ) → open_told (opened file).answer ≡ refuse 3 → (¬ Begins 1 file) × (¬ Begins 2 file)
  every_3 file e = let n = q.numbers file (opened file) refl in (λ h. ((n.three 1 (omega arith) h).0 e).0 refl, λ h. ((n.three 2 (omega arith) h).0 e).1 refl)

  pub every_edition : (file : List ℕ) (edition : ℕ) → edition < 256 → Begins edition file → edition ≢ 1 → edition ≢ 2 → open_told (opened file).answer ≡ refuse 3
  every_edition file edition byte h one two = ((q.numbers file (opened file) refl).three edition byte h).1 (one, two)

  pub every_8 : (file : List ℕ) → open_told (opened file).answer ≡ refuse 8 → Begins 1 file
  every_8 file = (q.numbers file (opened file) refl).eight

  pub every_20 : (file : List ℕ) → open_told (opened file).answer ≡ refuse 20 → Begins 2 file
  every_20 file = (q.numbers file (opened file) refl).twenty
