-- Request Q-4 after a list of runs on what an opening gave: what the record is in edition 01, and best in either.
use Prim.Native.Nat.{ℕ, ◌<◌}
use mathlib.Core.Path.{◌≡◌, ap, sym, ◌∙◌, subst}
use mathlib.Core.Option.{some}
use mathlib.Core.List.{List}
use native.Mathlib.Omega.{arith}
use lib.ListN.{get_or, take}
use lib.Seq.{get_or-take}
use Rattle.model.specs.declared.Batch.{Batch}
use Rattle.model.specs.declared.Search.{Search}
use Rattle.model.specs.declared.Ran.{Ran}
use Rattle.model.specs.Common.{accept}
use Rattle.model.specs.Plan.{start, KeepsEnds, latency}
use Rattle.model.specs.Search.{fresh_search}
use Rattle.model.specs.Format.{BatchFile}
use Rattle.model.specs.Open.{opened}
use Rattle.model.specs.First.{Shortest01}
use Rattle.model.specs.Run.{ran}
use Rattle.model.specs.Answers.{plan, run_told, best_told}
use Rattle.model.specs.Calls.{Call, call, after}
use Rattle.model.specs.Demands.{PlanWith}
use Rattle.model.proofs.OpenLaws.{open_format, best_plans, best_limits, after_batch, yields}
use Rattle.model.proofs.FirstLaws.{ends01, plan01, no_plan01}
use Rattle.promises.specs.Demands.{Called}
use Rattle.promises.specs.Windows.{First, InEnds}
use Rattle.promises.proofs.Demands.{called_after}

module _ (file : List ℕ) (b : Batch) (f : BatchFile file b) (cs : List Call) (s : Search) (h : Called (opened file).search cs s) where
  at : s ≡ after (fresh_search b) cs
  at = called_after h ∙ ap (λ (x : Search). after x cs) (yields file b f)

  batch_at : s.batch ≡ b
  batch_at = ap (λ (x : Search). x.batch) at ∙ after_batch file b f cs

  pub first_at : b.edition ≡ 1 → First b s
  unfolding call
  first_at one =
      let (windows, ends) = ends01 file b ((open_format file b).1 f) one in
      record {
        windows = ap (λ (c : Batch). c.windows) batch_at ∙ windows;
        ends = λ i. rw batch_at (ends i);
        plans = λ c r list' m l t e.
            let z = m ∙ ap (λ (x : Search). ran x c.budget c.starts) at in
            subst (λ (x : Ran × List ℕ). run_told x.0.answer ≡ accept (plan l t) → Shortest01 b (take b.n x.1) × (latency b (take b.n x.1) ≡ l)) (sym z) (plan01 file b f one cs c l t) e;
        none = λ c r list' m t e.
            let z = m ∙ ap (λ (x : Search). ran x c.budget c.starts) at in
            no_plan01 file b f one cs c t (ap (λ (x : Ran × List ℕ). run_told x.0.answer) (sym z) ∙ e);
      }

  pub starts_at_lem : (l : ℕ) → best_told s.best ≡ some l → InEnds b s.starts l
  unfolding PlanWith KeepsEnds start
  starts_at_lem l e =
      let told = ap (λ (x : Search). best_told x.best) (sym at) ∙ e in
      let starts = (after (fresh_search b) cs).starts in
      let plan = best_plans file b f cs l told in
      let limits = best_limits file b f cs l told in
      let same : (i : ℕ) → i < b.n → get_or (take b.n starts) i 0 ≡ get_or starts i 0 = λ i g. rw get_or-take in
      subst (λ (x : Search). InEnds b x.starts l) (sym at)
      (record {
        ends = λ i g. let r = plan.0.ends i g in (omega (arith, r.0, same i g), omega (arith, r.1, same i g));
        most = limits.0;
        latency_most = limits.1;
      })
