-- The answer of judging, by the first of 17, 18 and 19 that holds.
use Rattle.std.specs.Prelude.{Some, None, Ok, Err}
use Prim.Native.Nat.{ℕ, ◌≤◌}
use mathlib.Core.Path.{◌≡◌, refl, ap, ap₂, sym, ◌∙◌}
use mathlib.Core.Bool.{Bool, true, false, ◌&&◌, not}
use mathlib.Core.List.{List, map}
use native.Mathlib.Omega.{arith}
use lib.ListN.{length, take, drop, length-map}
use lib.Seq.{take_all}
use lib.Dec.{eqb}
use borrow.Author.Tests.{eqb-true, eq-eqb}
use Rattle.model.specs.declared.Batch.{Batch}
use Rattle.model.specs.Common.{count, pad, Outcome, refuse, accept, ◌>>=◌, require}
use Rattle.model.specs.Limits.{most_jobs}
use Rattle.model.specs.Plan.{start, latency}
use Rattle.model.specs.Starts.{same}
use Rattle.model.specs.Format.{Within}
use Rattle.model.specs.Open.{few_clashes, read_one, open_file}
use Rattle.model.specs.Judge.{Claim, jobs_in, starts_in, claim_head, read_lines, read_claim, as17, jobs_right, valid, plan_right, judge_text, judge, judged_as, judged}
use Rattle.model.specs.Refusal.{Judgement, told}
use Rattle.model.proofs.NamedLaws.{named_number}
use Rattle.model.proofs.BoolLaws.{both, and, same_test, passes, fails}
use Rattle.model.proofs.ListLaws.{count_length}
use Rattle.model.proofs.SeqLaws.{pad_at}
use Rattle.model.proofs.OutcomeLaws.{accepts_bind}
use Rattle.model.proofs.StartsLaws.{same_eq}
use Rattle.model.proofs.FileLaws.{open_read}
use Rattle.model.proofs.OpenLaws.{open_format}
use Rattle.model.proofs.JudgeLaws.{jobs_iff, starts_length}
use Rattle.claims.specs.declared.job_lines.Lines.{Lines}
use Rattle.claims.specs.declared.claim.Head.{Head}
use Rattle.claims.specs.Claim.{ReadsHead}
use Rattle.claims.specs.JobLines.{lines_told}
use Rattle.judging.proofs.PlanLaws.{valid_agree, latency_agree}

-- ---- the lines

-- lines that are read
lines_read : (o : Outcome (List (ℕ × ℕ))) (l : Lines) → Some l ≡ lines_told o → (qs : List (ℕ × ℕ)) × (o ≡ accept qs)
unfolding lines_told
lines_read (refuse k) l e = cc
lines_read (accept qs) l e = (qs, refl)

-- lines that are not
lines_broken : (o : Outcome (List (ℕ × ℕ))) → None ≡ lines_told o → (k : ℕ) × (o ≡ refuse k)
unfolding lines_told
lines_broken (refuse k) e = (k, refl)
lines_broken (accept qs) e = cc

-- the jobs are 0 to n − 1 when they are in order and n
in_order : (js : List ℕ) (n : ℕ) → (same js (count 0 (length js)) && eqb (length js) n) ≡ same js (count 0 n)
in_order js n =
    same_test _ _
    (λ e. let r = both (same js (count 0 (length js))) (eqb (length js) n) e in rw (eqb-true (length js) n r.1) at r.0)
    (λ e. let size : length js ≡ n = ap length (same_eq js (count 0 n) e) ∙ count_length 0 n in and (ap (λ (k : ℕ). same js (count 0 k)) size ∙ e) (eq-eqb (length js) n size))

-- starts that fit are found in their places
starts_at_lem : (ts : List ℕ) → length ts ≤ most_jobs → (i : ℕ) → start (pad most_jobs 0 (take most_jobs ts)) i ≡ start ts i
unfolding start
starts_at_lem ts h i = rw (take_all most_jobs ts h) (pad_at most_jobs 0 ts i)

-- ---- the answers

module _ (b : Batch) (within : Within b) (text : List ℕ) where
  -- no B0 line with 01
  pub no_head : ReadsHead text None → refuse 17 ≡ judge_text b text
  unfolding judge_text read_claim as17 ◌>>=◌ ReadsHead
  no_head h = let (k, z) = h in rw z

  module _ (h : Head) (read : ReadsHead text (Some h)) where
    -- the place behind it
    pub head_place : h.next ≤ length text
    unfolding ReadsHead
    head_place = read.0

    found : (total : ℕ) × (read_one claim_head text ≡ accept ((h.n, h.latency, total), drop h.next text))
    unfolding ReadsHead
    found = let (inside, total, e) = read in (total, e)

    -- not only B1 lines after it
    pub no_lines : None ≡ lines_told (read_lines (drop h.next text)) → refuse 17 ≡ judge_text b text
    unfolding judge_text read_claim as17 ◌>>=◌
    no_lines e = let (k, z) = lines_broken _ e in rw (found.1, z)

    module _ (lines : Lines) (told : Some lines ≡ lines_told (read_lines (drop h.next text))) where
      abbrev qs : (qs : List (ℕ × ℕ)) × (read_lines (drop h.next text) ≡ accept qs)
      qs = lines_read _ lines told

      abbrev claim : Claim
      claim = record { n = h.n; latency = h.latency; total = found.0; lines = qs.0 }

      so : Some lines ≡ lines_told (accept qs.0)
      so = told ∙ ap lines_told qs.1

      reads : judge_text b text ≡ (require 18 (jobs_right b claim) >>= λ u. require 19 (plan_right b claim))
      unfolding judge_text read_claim as17
      reads = accepts_bind _ (ap as17 (accepts_bind _ found.1 ∙ accepts_bind _ qs.1))

      -- the test of the jobs
      jobs : (eqb h.n b.n && (lines.ordered && eqb lines.count b.n)) ≡ jobs_right b claim
      unfolding jobs_right jobs_in lines_told
      jobs =
          let js = map (λ q. q.0) qs.0 in
          let ordered : lines.ordered ≡ same js (count 0 (length qs.0)) = cc so in
          let size : lines.count ≡ length qs.0 = cc so in
          ap₂ (λ (t : Bool) (k : ℕ). eqb h.n b.n && (t && eqb k b.n)) ordered size
          ∙ ap (λ (t : Bool). eqb h.n b.n && t) (ap (λ (k : ℕ). same js (count 0 k) && eqb k b.n) (sym (length-map qs.0 _)) ∙ in_order js b.n)

      module _ (t : Bool) (asked : t ≡ (eqb h.n b.n && (lines.ordered && eqb lines.count b.n))) where
        -- other jobs
        pub no_jobs : not t ≡ true → refuse 18 ≡ judge_text b text
        unfolding require ◌>>=◌
        no_jobs e = rw (reads, fails (asked ∙ jobs) e)

        module _ (named : not t ≡ false) where
          -- the test of the plan
          plan : (valid b lines.starts && eqb (latency b lines.starts) h.latency) ≡ plan_right b claim
          unfolding plan_right starts_in lines_told
          plan =
              let ts = starts_in claim in
              let starts : lines.starts ≡ pad most_jobs 0 (take most_jobs ts) = cc so in
              let agree : (i : ℕ) → start (pad most_jobs 0 (take most_jobs ts)) i ≡ start ts i = λ i. starts_at_lem ts (omega (arith, starts_length b claim ((jobs_iff b claim).0 (passes (asked ∙ jobs) named)), within.jobs.1)) i in
              ap (λ (x : List ℕ). valid b x && eqb (latency b x) h.latency) starts
              ∙ ap₂ (λ (p : Bool) (x : ℕ). p && eqb x h.latency) (valid_agree b _ ts agree) (latency_agree b _ ts agree)

          module _ (t' : Bool) (asked' : t' ≡ (valid b lines.starts && eqb (latency b lines.starts) h.latency)) where
            pub no_plan_lem : not t' ≡ true → refuse 19 ≡ judge_text b text
            unfolding require ◌>>=◌
            no_plan_lem e = rw (reads, passes (asked ∙ jobs) named, fails (asked' ∙ plan) e)

            pub right_plan : not t' ≡ false → accept tt ≡ judge_text b text
            unfolding require ◌>>=◌
            right_plan e = rw (reads, passes (asked ∙ jobs) named, passes (asked' ∙ plan) e)

-- ---- the file

-- it is refused
pub file_refused : (file text : List ℕ) (k : ℕ) → open_file file ≡ refuse k → refuse k ≡ judge file text
unfolding judge ◌>>=◌
file_refused file text k e = rw e

module _ (file : List ℕ) (b : Batch) (is : open_file file ≡ accept b) where
  pub file_fits : Within b × (few_clashes b ≡ true)
  file_fits = (((open_format file b).0 is).within, ((open_read file b).0 is).1)

  pub file_judged : (text : List ℕ) → judge_text b text ≡ judge file text
  unfolding judge ◌>>=◌
  file_judged text = rw is

-- ---- the answer

-- an answer that tells what the definition gives is the definition's
pub judged_told : (file text : List ℕ) (r : Judgement) → told r ≡ judge file text → r ≡ judged file text
unfolding judged judged_as told
judged_told file text (Ok u) e = ap judged_as e
judged_told file text (Err r) e = ap Err (sym (named_number r)) ∙ ap judged_as e
