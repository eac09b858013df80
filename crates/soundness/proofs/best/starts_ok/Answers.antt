-- `best::starts_ok` meets its contract.
use Rattle.std.proofs.Common.{rules, arith, take, leb, ◌∙◌}
use borrow.Author.Tests.{tests}
use Rattle.std.proofs.lemmas.Iterator.{YieldsList-from_slice}
use Rattle.std.proofs.lemmas.Iterator.Search.{all_from_yields_List}
use Rattle.soundness.proofs.BestLaws.{starts_listed}
use Rattle.soundness.proofs.best.starts_ok.Goals as goal

pub returns : goal.returns
returns c = all_from_yields_List (λ x. leb x 43000) _ _ _ c.all.ensures.ran (YieldsList-from_slice (take c.args.n c.args.starts.now) cc) (λ x b q k. search (rules, tests))
    ∙ starts_listed c.args.starts.now c.args.n (omega arith)
