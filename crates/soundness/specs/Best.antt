-- The part of the definition of a sound record that one loop over best's starts tests.
use Rattle.std.specs.Prelude.{ℕ, Bool, List, leb}
use Rattle.model.specs.Common.{all, count}
use Rattle.model.specs.Limits.{most_start}
use Rattle.model.specs.Plan.{start}

-- the first n starts are at most 43,000
unfoldable pub starts_pass : ℕ → List ℕ → Bool
starts_pass n starts = all (λ i. leb (start starts i) most_start) (count 0 n)
