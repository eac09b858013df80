-- Judging a plan text: what is passed is exactly a right plan text of a file that opens, each refusal says what 02 says of it, and the plan text of a search
-- opened here is right.
use Prim.Native.Nat.{ℕ, ◌-◌, ◌<◌}
use mathlib.Core.Path.{◌≡◌, refl, ap, ap₂, sym, ◌∙◌, subst}
use mathlib.Core.Logic.{◌↔◌}
use mathlib.Core.Bool.{Bool, true, false, not, ◌&&◌}
use mathlib.Core.Option.{Option, none, some}
use mathlib.Core.List.{List, [], ◌∷◌, ◌++◌, map, map-id, append-nil, Memᴰ}
use native.Mathlib.Omega.{arith}
use lib.ListN.{length, take, get_or, length-map, get_or-map}
use lib.Seq.{ext_get_or, get_or-take}
use lib.Dec.{leb, eqb}
use borrow.Author.Tests.{leb-true, eqb-true, eq-eqb}
use Rattle.model.specs.declared.Batch.{Batch}
use Rattle.model.specs.Best.{Best}
use Rattle.std.specs.Prelude.{None, Some}
use Rattle.model.specs.declared.Search.{Search}
use Rattle.model.specs.Common.{between, count, all, joined, is_some, Outcome, refuse, accept, ◌>>=◌, require}
use Rattle.model.specs.Limits.{most_latency, most_total}
use Rattle.model.specs.Batch.{delays_of, earliest, latest}
use Rattle.model.specs.Plan.{start, Keeps, KeepsDelays, KeepsEnds, Valid, latency}
use Rattle.model.specs.Clash.{Clash, clashes}
use Rattle.model.specs.Starts.{same}
use Rattle.model.specs.Search.{no_clash, met, first_met, fresh_search}
use Rattle.model.specs.Line.{line, two, four}
use Rattle.model.specs.Format.{BatchFile}
use Rattle.model.specs.Rest.{WithinRests}
use Rattle.model.specs.Open.{open_file}
use Rattle.model.specs.Sound.{sound_batch, sound_path, sound_best, sound}
use Rattle.model.specs.Text.{plan_lines, plan_text}
use Rattle.model.specs.Answers.{best_told}
use Rattle.model.specs.Calls.{Call, after}
use Rattle.model.specs.Demands.{PlanWith}
use Rattle.model.specs.Judge.{RightText, Claim, jobs_in, starts_in, claim_text, Claims, RightJobs, RightPlan, read_claim, as17, jobs_right, keeps, keeps_ends, valid, plan_right, judge_text, judge}
use Rattle.model.proofs.BoolLaws.{apart, both, and, decide}
use Rattle.model.proofs.ListLaws.{all_each, each_all, count_some, some_count, count_length, each_item, by_index}
use Rattle.model.proofs.SeqLaws.{get_d_in, map_map, listed_at, listed_length, listed_cong}
use Rattle.model.proofs.OutcomeLaws.{refused, accept_eq, bind_accepts, accepts_bind, require_accepts}
use Rattle.model.proofs.StartsLaws.{same_eq, same_refl}
use Rattle.model.proofs.FinishLaws.{finish_latency}
use Rattle.model.proofs.ClashLaws.{Unmet, apart_unmet, unmet_apart}
use Rattle.model.proofs.NodeLaws.{unmet_all, met_first}
use Rattle.model.proofs.LimitLaws.{between_iff, le_z_iff}
use Rattle.model.proofs.OpenLaws.{open_format, text_plans, best_plans}
use Rattle.model.proofs.RightLaws.{right_valid}
use Rattle.model.proofs.ClaimLaws.{claim_iff}

-- ---- 18

pub jobs_iff : (b : Batch) (c : Claim) → (jobs_right b c ≡ true) ↔ RightJobs b c
unfolding jobs_right RightJobs
jobs_iff b c = (
  λ e. let r = both (eqb c.n b.n) _ e in (omega (arith, eqb-true c.n b.n r.0), same_eq (jobs_in c) (count 0 b.n) r.1),
  λ h. and (eq-eqb c.n b.n h.0) (ap (λ (l : List ℕ). same l (count 0 b.n)) h.1 ∙ same_refl (count 0 b.n)),
)

-- as many starts as jobs
pub starts_length : (b : Batch) (c : Claim) → RightJobs b c → length (starts_in c) ≡ b.n
unfolding RightJobs jobs_in starts_in
starts_length b c h = length-map c.lines _ ∙ sym (length-map c.lines _) ∙ ap length h.1 ∙ count_length 0 b.n

-- ---- 19

-- no clash is met exactly when the first that is met is none
none_met : (cs : List Clash) (ts : List ℕ) → ((c : Clash) → Memᴰ c cs → met ts c ≡ false) → not (is_some (first_met cs ts 0)) ≡ true
unfolding is_some
none_met cs ts un = go (first_met cs ts 0) refl
  where
    go : (o : Option ℕ) → first_met cs ts 0 ≡ o → not (is_some o) ≡ true
    go none e = refl
    go (some k) e = let m = met_first cs ts 0 k e in apart (sym (un _ (get_d_in cs (k - 0) no_clash (omega (arith, m.1)))) ∙ m.2)

met_none : (cs : List Clash) (ts : List ℕ) → not (is_some (first_met cs ts 0)) ≡ true → (c : Clash) → Memᴰ c cs → met ts c ≡ false
unfolding is_some
met_none cs ts h = go (first_met cs ts 0) refl h
  where
    go : (o : Option ℕ) → first_met cs ts 0 ≡ o → not (is_some o) ≡ true → (c : Clash) → Memᴰ c cs → met ts c ≡ false
    go none e h = unmet_all cs ts 0 e
    go (some k) e h = apart h

module _ (file : List ℕ) (b : Batch) (f : BatchFile file b) (c : Claim) (jobs : RightJobs b c) where
  -- the tests of delays, ends, clashes and latency are those of ticks and stations
  pub plan_iff : (plan_right b c ≡ true) ↔ RightPlan b c
  unfolding plan_right valid RightPlan KeepsDelays Keeps keeps KeepsEnds keeps_ends Unmet WithinRests
  plan_iff = (there, back)
    where
      ts : List ℕ
      ts = starts_in c

      there : plan_right b c ≡ true → RightPlan b c
      there e =
          let r = both (all (keeps ts) (delays_of b) && keeps_ends b ts && not (is_some (first_met (clashes b) ts 0))) (eqb (latency b ts) c.latency) e in
          let s = both (all (keeps ts) (delays_of b) && keeps_ends b ts) (not (is_some (first_met (clashes b) ts 0))) r.0 in
          let t = both (all (keeps ts) (delays_of b)) (keeps_ends b ts) s.0 in (
            record {
              starts = starts_length b c jobs;
              delays = λ q m. (le_z_iff _ _).0 (all_each (keeps ts) (delays_of b) t.0 m);
              ends = λ i h. (between_iff _ _ _).0 (all_each (λ i. between (earliest b i) (start ts i) (latest b i)) (count 0 b.n) t.1 (some_count 0 b.n i (omega arith) (omega arith)));
              stations = unmet_apart b ts (λ i h. (f.within.ticks_each i h).1) f.within.rests (met_none (clashes b) ts s.1);
            },
            eqb-true _ _ r.1,
          )

      back : RightPlan b c → plan_right b c ≡ true
      back h =
          and (and (and (each_all (keeps ts) (delays_of b) (λ q m. (le_z_iff _ _).1 (h.0.delays q m)))
          (each_all (λ i. between (earliest b i) (start ts i) (latest b i)) (count 0 b.n) (λ i m. (between_iff _ _ _).1 (h.0.ends i (omega (arith, (count_some 0 b.n i m).1))))))
          (none_met (clashes b) ts (apart_unmet b ts h.0.stations)))
          (eq-eqb _ _ h.1)

-- ---- each answer, and when it is given

-- where nothing is read, 17 is given
as17_refused : {A : Type 0} (o : Outcome A) → ((a : A) → ¬ (o ≡ accept a)) → as17 o ≡ refuse 17
unfolding as17
as17_refused (refuse k) h = refl
as17_refused (accept a) h = absurd (h a refl)

-- and what is read is read without it
as17_accepts : {A : Type 0} (o : Outcome A) (a : A) → as17 o ≡ accept a → o ≡ accept a
unfolding as17
as17_accepts (refuse k) a e = refused e
as17_accepts (accept x) a e = e

require_true : (k : ℕ) (t : Bool) → require k t ≡ accept tt → t ≡ true
unfolding require
require_true k true e = refl
require_true k false e = refused e

module _ (file text : List ℕ) where
  -- the batch's own refusals come first
  pub judge_refused : (k : ℕ) → open_file file ≡ refuse k → judge file text ≡ refuse k
  unfolding judge ◌>>=◌
  judge_refused k e = rw e

  module _ (b : Batch) (f : BatchFile file b) where
    -- what follows the opening
    opens : judge file text ≡ judge_text b text
    unfolding judge
    opens = accepts_bind _ ((open_format file b).1 f)

    -- then a text that claims nothing
    pub judge_form : ((c : Claim) → ¬ Claims text c) → judge file text ≡ refuse 17
    unfolding judge_text ◌>>=◌
    judge_form h = opens ∙ rw (as17_refused (read_claim text) (λ c e. h c ((claim_iff text c).0 e)))

    module _ (c : Claim) (said : Claims text c) where
      reads : judge file text ≡ (require 18 (jobs_right b c) >>= λ u. require 19 (plan_right b c))
      unfolding judge_text as17
      reads = opens ∙ accepts_bind _ (ap as17 ((claim_iff text c).1 said))

      -- then other jobs than the batch's
      pub judge_jobs : ¬ RightJobs b c → judge file text ≡ refuse 18
      unfolding require ◌>>=◌
      judge_jobs h = reads ∙ rw (decide (jobs_right b c) (λ e. h ((jobs_iff b c).0 e)))

      -- then a plan that is not valid, or another latency
      pub judge_plan : RightJobs b c → ¬ RightPlan b c → judge file text ≡ refuse 19
      unfolding require ◌>>=◌
      judge_plan j h = reads ∙ rw ((jobs_iff b c).1 j, decide (plan_right b c) (λ e. h ((plan_iff file b f c j).0 e)))

      -- and no refusal is left
      pub judge_passes : RightJobs b c → RightPlan b c → judge file text ≡ accept tt
      unfolding require ◌>>=◌
      judge_passes j h = reads ∙ rw ((jobs_iff b c).1 j, (plan_iff file b f c j).1 h)

-- ---- a right plan text is the text of a claim with right jobs and a right plan

-- the lines of a plan: each job with its start
abbrev lines_of : ℕ → List ℕ → List (ℕ × ℕ)
lines_of n ts = map (λ i. (i, start ts i)) (count 0 n)

joined_map : {A B : Type 0} (f : B → List ℕ) (g : A → B) (xs : List A) → joined f (map g xs) ≡ joined (λ x. f (g x)) xs
unfolding joined
joined_map f g [] = refl
joined_map f g (x ∷ xs) = rw (joined_map f g xs)

-- the plan text is that claim's
plan_claim : (n l : ℕ) (ts : List ℕ) (total : ℕ) → plan_lines (Some l) n ts total ≡ claim_text (record { n = n; latency = l; total = total; lines = lines_of n ts })
unfolding plan_lines claim_text
plan_claim n l ts total = ap (λ (rest : List ℕ). line (0xB0 ∷ 0x01 ∷ n ∷ (two l ++ four total)) ++ rest) (sym (joined_map _ (λ i. (i, start ts i)) (count 0 n)))

-- lines that name the jobs in order are those of a plan
lines_plan : (b : Batch) (c : Claim) → RightJobs b c → c.lines ≡ lines_of b.n (starts_in c)
unfolding RightJobs jobs_in starts_in start
lines_plan b c h =
    let size : length c.lines ≡ b.n = sym (length-map c.lines _) ∙ ap length h.1 ∙ count_length 0 b.n in
    ext_get_or (0, 0) c.lines _ (size ∙ sym (listed_length _ b.n)) (λ i l.
    let job : (get_or c.lines i (0, 0)).0 ≡ i = sym (get_or-map (λ (q : ℕ × ℕ). q.0) c.lines i (0, 0)) ∙ ap (λ (js : List ℕ). get_or js i 0) (h.1 ∙ sym (map-id (count 0 b.n))) ∙ listed_at (λ j. j) 0 b.n i (omega arith) in
    let start = get_or-map (λ (q : ℕ × ℕ). q.1) c.lines i (0, 0) in
    ap₂ (λ (x y : ℕ). (x, y)) job (sym start) ∙ sym (listed_at _ (0, 0) b.n i (omega arith)))

-- a plan's lines give its starts back
starts_back : (b : Batch) (ts : List ℕ) → length ts ≡ b.n → map (λ q. q.1) (lines_of b.n ts) ≡ ts
unfolding start
starts_back b ts e =
    map_map (λ q. q.1) (λ i. (i, start ts i)) (start ts) (λ i. refl) (count 0 b.n)
    ∙ ap₂ (λ (l : List ℕ) (n : ℕ). map (λ i. get_or l i 0) (count 0 n)) (sym (append-nil ts)) (sym e) ∙ by_index ts [] 0

module _ (file : List ℕ) (b : Batch) (f : BatchFile file b) (text : List ℕ) where
  right_claim : RightText b text → (c : Claim) × Claims text c × RightJobs b c × RightPlan b c
  unfolding RightJobs RightPlan jobs_in starts_in
  right_claim r =
      let ts = r.starts in
      let back = starts_back b ts (right_valid b text r).starts in (
        record { n = b.n; latency = latency b ts; total = r.total; lines = lines_of b.n ts },
        record {
          is = r.is ∙ plan_claim b.n (latency b ts) ts r.total;
          n_fits = omega (arith, f.within.jobs.1);
          latency_fits = r.latency_fits;
          total_fits = omega (arith, r.total_fits);
          lines_fit = each_item _ _ b.n (λ i h. (omega (arith, f.within.jobs.1), omega (arith, finish_latency b ts i h, r.latency_fits)));
        },
        (refl, map_map (λ q. q.0) (λ i. (i, start ts i)) (λ i. i) (λ i. refl) (count 0 b.n) ∙ map-id (count 0 b.n)),
        (subst (Valid b) (sym back) (right_valid b text r), ap (latency b) back),
      )

  claim_right : (c : Claim) → Claims text c → RightJobs b c → RightPlan b c → RightText b text
  unfolding RightJobs RightPlan claim_text
  claim_right c said jobs plan =
      let ts = starts_in c in
      let lines = lines_plan b c jobs in
      record {
        starts = ts;
        total = c.total;
        valid = plan.0;
        latency_fits = omega (arith, plan.1, said.latency_fits);
        total_fits = said.total_fits;
        is = said.is ∙ (λ i. claim_text (record { n = jobs.0 i; latency = sym plan.1 i; total = c.total; lines = lines i })) ∙ sym (plan_claim b.n (latency b ts) ts c.total);
      }

-- ---- what is passed

pub judge_right : (file text : List ℕ) → (judge file text ≡ accept tt) ↔ ((b : Batch) × BatchFile file b × RightText b text)
unfolding judge judge_text
judge_right file text = (there, back)
  where
    there : judge file text ≡ accept tt → (b : Batch) × BatchFile file b × RightText b text
    there e =
        let r = bind_accepts (open_file file) _ tt e in
        let s = bind_accepts (as17 (read_claim text)) _ tt r.2 in
        let t = require_accepts 18 (jobs_right r.0 s.0) _ tt s.2 in
        let f = (open_format file r.0).0 r.1 in
        let said = (claim_iff text s.0).0 (as17_accepts (read_claim text) s.0 s.1) in
        let jobs = (jobs_iff r.0 s.0).0 t.0 in
        (r.0, f, claim_right file r.0 f text s.0 said jobs ((plan_iff file r.0 f s.0 jobs).0 (require_true 19 _ t.1)))

    back : (b : Batch) × BatchFile file b × RightText b text → judge file text ≡ accept tt
    back (b, f, r) =
        let (c, said, jobs, plan) = right_claim file b f text r in
        judge_passes file text b f c said jobs plan

-- ---- the plan text of a search opened here

-- only the first n places of a list of starts stand in its plan text
plan_take : (n l : ℕ) (ts : List ℕ) (total : ℕ) → plan_lines (Some l) n ts total ≡ plan_lines (Some l) n (take n ts) total
unfolding start
plan_take n l ts total =
    plan_claim n l ts total
    ∙ ap (λ (lines : List (ℕ × ℕ)). claim_text (record { n = n; latency = l; total = total; lines = lines })) (listed_cong _ _ n (λ i h. ap (λ (t : ℕ). (i, t)) (sym (get_or-take n ts i 0 h))))
    ∙ sym (plan_claim n l (take n ts) total)

told_best : (best : Best) (l : ℕ) → best_told best ≡ some l → best ≡ Some l
unfolding best_told
told_best None l e = let z : ◌≡◌ {A = ℕ} 0 1 = cc in absurd (omega arith)
told_best (Some k) l e = let z : k ≡ l = cc in ap Some z

-- a sound record's best and total fit their bytes
sound_fits : (s : Search) (l : ℕ) → sound s ≡ true → s.best ≡ Some l → (l < 65536) × (s.total < 4294967296)
unfolding sound sound_best
sound_fits s l e is =
    let r = both _ (sound_best s.batch.n s.best s.starts) e in
    let t = both (sound_batch s.batch && sound_path s) (leb s.total most_total) r.0 in
    let k = both (leb l most_latency) _ (rw is at r.1) in
    (omega (arith, leb-true l most_latency k.0), omega (arith, leb-true s.total most_total t.1))

-- after every list of runs, of a search with a best
pub plan_right_lem : (file : List ℕ) (b : Batch) → BatchFile file b → (cs : List Call) → let s = after (fresh_search b) cs in (l : ℕ) → best_told s.best ≡ some l → (text : List ℕ) → plan_text s ≡ accept text → RightText b text
unfolding plan_text PlanWith
plan_right_lem file b f cs l e text w =
    let s = after (fresh_search b) cs in
    let r = require_accepts 12 (sound s) _ text w in
    let t = require_accepts 15 s.ended _ text r.1 in
    let best = told_best s.best l e in
    let fits = sound_fits s l r.0 best in
    let p = best_plans file b f cs l e in
    record {
      starts = take b.n s.starts;
      total = s.total;
      valid = p.0;
      latency_fits = omega (arith, p.1, fits.0);
      total_fits = fits.1;
      is =
          accept_eq (sym w ∙ text_plans file b f cs t.0) ∙ ap (λ (x : Best). plan_lines x b.n s.starts s.total) best
          ∙ plan_take b.n l s.starts s.total ∙ ap (λ (x : ℕ). plan_lines (Some x) b.n (take b.n s.starts) s.total) (sym p.1);
    }
