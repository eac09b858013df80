-- Request Q-1 is pinned, as to its answers: no two meet `Judging` for the same file and text.
use Prim.Native.Nat.{ℕ}
use mathlib.Core.Path.{◌≡◌, refl, ap, sym, ◌∙◌}
use mathlib.Core.List.{List}
use Rattle.model.specs.Refusal.{Judgement}
use Rattle.std.specs.Prelude.{Ok, Err}
use Rattle.model.specs.Refusal.{number}
use Rattle.model.proofs.NamedLaws.{number_one}
use Rattle.model.specs.Open.{opened}
use Rattle.model.specs.Answers.{judge_told}
use Rattle.model.proofs.OutcomeLaws.{refused}
use Rattle.promises.specs.Judging.{Judging}
use Rattle.promises.proofs.Judging.{judging_one}

judge_one : (j j' : Judgement) → judge_told j ≡ judge_told j' → j ≡ j'
unfolding judge_told
judge_one (Ok u) (Ok u') e = refl
judge_one (Ok u) (Err r) e = refused (sym e)
judge_one (Err r) (Ok u) e = refused e
judge_one (Err r) (Err r') e = let z : number r ≡ number r' = cc in ap Err (number_one r r' z)

-- one answer
pub judging_pinned : (file text : List ℕ) (j j' : Judgement) → Judging file (opened file) text j → Judging file (opened file) text j' → j ≡ j'
judging_pinned file text j j' h h' = judge_one j j' (judging_one file text j h ∙ sym (judging_one file text j' h'))
