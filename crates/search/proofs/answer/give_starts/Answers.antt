-- `search::answer::give_starts` meets its contract: after k copies the list is k starts and then its old rest.
use mathlib.Core.Path.{◌≡◌}
use native.Mathlib.Omega.{arith}
use borrow.Author.Rules.{rules}
use lib.ListN.{length, length-set}
use Rattle.search.proofs.AnswerLaws.{give_more}
use Rattle.search.proofs.answer.give_starts.Goals as goal

pub loop-k-preserved : goal.loop-k-preserved
loop-k-preserved c = let i = c.loop-k.invariant in
    let l : length c.args.starts.now ≡ 24 = search rules in
    (simp length-set i.0, give_more _ _ _ _ (omega arith) (omega arith) i.1)
