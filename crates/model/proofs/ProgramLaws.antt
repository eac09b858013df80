-- The program: it never takes more than 101 runs with budgets of 1,000,000. So the 101 runs of the definition are "until an answer other than spent".
use Prim.Native.Nat.{ℕ, zero, suc, ◌+◌, ◌*◌, ◌≤◌, ◌<◌}
use mathlib.Core.Path.{◌≡◌, refl, ap, sym, ◌∙◌}
use mathlib.Core.Bool.{Bool, true, false}
use mathlib.Core.Logic.{◌⊎◌, inl, inr}
use mathlib.Core.List.{List}
use native.Mathlib.Omega.{arith}
use lib.ListN.{length, replicate}
use Rattle.model.specs.declared.Batch.{Batch}
use Rattle.model.specs.Best.{Best}
use Rattle.std.specs.Prelude.{None, Some}
use Rattle.model.specs.declared.Search.{Search}
use Rattle.model.specs.declared.Ran.{Ran}
use Rattle.model.specs.Common.{Outcome, refuse, accept, ◌>>=◌}
use Rattle.model.specs.Limits.{most_jobs, most_budget, most_total}
use Rattle.model.specs.Search.{nodes, fresh_search}
use Rattle.model.specs.Run.{run_refusal, answer_of, answered, ran_as, ran}
use Rattle.model.specs.Answers.{Verdict, spent, plan, no_plan, run_told}
use Rattle.model.specs.Program.{go_on, planned}
use Rattle.model.proofs.BoolLaws.{apart}
use Rattle.model.proofs.OutcomeLaws.{refused}
use Rattle.model.proofs.EndLaws.{nodes_ended, nodes_total, fresh_total}
use Rattle.model.proofs.LeaveLaws.{run_sound}

-- ---- a spent run uses up its budget

-- only a search that has not ended is spent
spent_open : (e : Bool) (best : Best) (total t : ℕ) → run_told (answer_of e best total) ≡ accept (spent t) → e ≡ false
unfolding run_told answer_of
spent_open false best total t h = refl
spent_open true None total t h = let z : ◌≡◌ {A = ℕ} 0 1 = cc in absurd (omega arith)
spent_open true (Some l) total t h = let z : ◌≡◌ {A = ℕ} 0 1 = cc in absurd (omega arith)

-- nodes on an ended search leave it ended
open_before : (k : ℕ) (s : Search) → (nodes k s).ended ≡ false → s.ended ≡ false
unfolding nodes
open_before k s e = go s.ended refl
  where
    go : (p : Bool) → s.ended ≡ p → s.ended ≡ false
    go false q = q
    go true q = ap (λ (x : Search). x.ended) (sym (nodes_ended s.batch k s q)) ∙ e

-- so total rises by the budget, and stays within its limit
spent_total : (s : Search) (budget : ℕ) (list : List ℕ) (t : ℕ) → run_told (ran s budget list).0.answer ≡ accept (spent t)
    → ((ran s budget list).0.search.total ≡ s.total + budget) × (s.total + budget ≤ 100000000)
unfolding ran ran_as answered run_told nodes
spent_total s budget list t h = by (run_refusal s budget (length list)) refl h
  where
    room : s.ended ≡ false → (s.ended ≡ true) ⊎ (s.total + budget ≤ most_total) → s.total + budget ≤ 100000000
    room g (inl h) = apart (sym g ∙ h)
    room g (inr h) = h

    by : (o : Outcome (Unit {0})) → run_refusal s budget (length list) ≡ o → run_told (ran_as o s budget list).0.answer ≡ accept (spent t)
        → ((ran_as o s budget list).0.search.total ≡ s.total + budget) × (s.total + budget ≤ 100000000)
    by (refuse k) e h = refused h
    by (accept u) e h =
        let going = spent_open (nodes budget s).ended (nodes budget s).best (nodes budget s).total t h in
        ((nodes_total s.batch budget s).1 going, room (open_before budget s going) (run_sound s budget (length list) e).1)

-- ---- so 101 runs are enough

-- one run more: only where it is spent does it matter how many are left
planned_same : (k i : ℕ) (s : Search) → let r = (ran s most_budget (replicate most_jobs 0)).0 in ((t : ℕ) → run_told r.answer ≡ accept (spent t) → planned i r.search ≡ planned k r.search) → planned (suc i) s ≡ planned (suc k) s
unfolding planned go_on ◌>>=◌
planned_same k i s same = by (run_told r.answer) same
  where
    r : Ran
    r = (ran s most_budget (replicate most_jobs 0)).0

    by : (a : Outcome Verdict) → ((t : ℕ) → a ≡ accept (spent t) → planned i r.search ≡ planned k r.search) → (a >>= go_on (planned i) r.search) ≡ (a >>= go_on (planned k) r.search)
    by (refuse n) h = refl
    by (accept (spent t)) h = h t refl
    by (accept (plan latency t)) h = refl
    by (accept (no_plan t)) h = refl

pub planned_enough : (k j : ℕ) (s : Search) → s.total ≤ 100000000 → 100000000 < s.total + k * 1000000 → planned (k + j) s ≡ planned k s
planned_enough zero j s h l = absurd (omega (arith, h, l))
planned_enough (suc k) j s h l =
    let z : suc k + j ≡ suc (k + j) = omega arith in
    ap (λ (i : ℕ). planned i s) z
    ∙ planned_same k (k + j) s (λ t e.
    let more = spent_total s most_budget (replicate most_jobs 0) t e in
    planned_enough k j (ran s most_budget (replicate most_jobs 0)).0.search (omega (arith, more.0, more.1)) (omega (arith, more.0, l)))

-- from a fresh search
pub runs_enough : (b : Batch) (j : ℕ) → planned (101 + j) (fresh_search b) ≡ planned 101 (fresh_search b)
runs_enough b j = planned_enough 101 j (fresh_search b) (omega (arith, fresh_total b)) (omega (arith, fresh_total b))
