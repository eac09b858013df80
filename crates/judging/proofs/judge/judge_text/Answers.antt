-- `judge::judge_text` asks 17 of the first line and of the others, then 18, then 19.
use mathlib.Core.Path.{◌≡◌, ap, sym, ◌∙◌, subst}
use mathlib.Core.Bool.{not}
use native.Mathlib.Omega.{arith}
use Rattle.std.specs.Prelude.{Some, None}
use Rattle.std.proofs.lemmas.Result.{err_from_is_err_and}
use Rattle.model.specs.declared.refusal.Refusal.TheVariants as refusal
use Rattle.model.specs.Refusal.{told, number}
use Rattle.claims.specs.Claim.{ReadsHead}
use Rattle.judging.proofs.AnswerLaws.{no_head, head_place, no_lines, no_jobs, no_plan_lem, right_plan}
use Rattle.judging.proofs.judge.judge_text.Goals as goal

-- no B0 line with 01
pub returns-in_err-head : goal.returns-in_err-head
unfolding told number
returns-in_err-head c = let p = err_from_is_err_and c.from_residual.result c.from_residual.ensures.1 in
    let n : c.read_head.result ≡ None = grind arith in
    let e : c.in_err-head.field-0.0 ≡ refusal.PlanText = cc (rw n at c.in_err-head.ensures.value) in
    rw (p.1, p.2, e) (no_head _ c.requires.0 _ (subst (ReadsHead _) n c.read_head.ensures))

pub read_lines-requires : goal.read_lines-requires
read_lines-requires c = let n : c.read_head.result ≡ Some c.in_ok-head.head = grind arith in
    head_place _ c.requires.0 _ _ (subst (ReadsHead _) n c.read_head.ensures)

-- not only B1 lines
pub returns-in_err-lines : goal.returns-in_err-lines
unfolding told number
returns-in_err-lines c = let p = err_from_is_err_and c.from_residual-in_err-lines.result c.from_residual-in_err-lines.ensures.1 in
    let h : c.read_head.result ≡ Some c.in_ok-head.head = grind arith in
    let n : c.read_lines.result ≡ None = grind arith in
    let e : c.in_err-lines.field-0.0 ≡ refusal.PlanText = cc (rw n at c.in_err-lines.ensures.value) in
    rw (p.1, p.2, e) (no_lines _ c.requires.0 _ _ (subst (ReadsHead _) h c.read_head.ensures) (sym n ∙ c.read_lines.ensures))

-- other jobs
pub returns-then-not-names_jobs : goal.returns-then-not-names_jobs
unfolding told number
returns-then-not-names_jobs c = let h : c.read_head.result ≡ Some c.in_ok-head.head = grind arith in
    let l : c.read_lines.result ≡ Some c.in_ok-lines.lines = grind arith in
    no_jobs _ c.requires.0 _ _ (subst (ReadsHead _) h c.read_head.ensures) _ (sym l ∙ c.read_lines.ensures) _ c.names_jobs.ensures (ap not c.if-not-names_jobs.true)

-- no valid plan, or another latency
pub returns-then-not-is_right : goal.returns-then-not-is_right
unfolding told number
returns-then-not-is_right c = let h : c.read_head.result ≡ Some c.in_ok-head.head = grind arith in
    let l : c.read_lines.result ≡ Some c.in_ok-lines.lines = grind arith in
    no_plan_lem _ c.requires.0 _ _ (subst (ReadsHead _) h c.read_head.ensures) _ (sym l ∙ c.read_lines.ensures) _ c.names_jobs.ensures (ap not c.if-not-names_jobs.false)
    _ c.is_right.ensures (ap not c.if-not-is_right.true)

pub returns : goal.returns
unfolding told number
returns c = let h : c.read_head.result ≡ Some c.in_ok-head.head = grind arith in
    let l : c.read_lines.result ≡ Some c.in_ok-lines.lines = grind arith in
    right_plan _ c.requires.0 _ _ (subst (ReadsHead _) h c.read_head.ensures) _ (sym l ∙ c.read_lines.ensures) _ c.names_jobs.ensures (ap not c.if-not-names_jobs.false)
    _ c.is_right.ensures (ap not c.if-not-is_right.false)
