-- What a list of inequalities as the core takes them must hold to stand for one of the definitions.
use Rattle.std.specs.Prelude.{ℕ, ◌<◌, ◌≡◌, List, get_or, length}
use Rattle.model.specs.declared.Delay.{Delay}
use Rattle.model.specs.Batch.{blank_delay}
use Rattle.weights.specs.declared.Inequality.{Inequality}
use Rattle.weights.specs.Inequality.{nth}
use Rattle.weights.specs.Code.{coded, Fits}

-- the first of them are these inequalities, which are between n jobs and within their limits
pub record Holds (n : ℕ) (qs : List Delay) (w : List Inequality) : Type 0 where
  pub from : (k : ℕ) → k < length qs → (nth w k).from ≡ (get_or qs k blank_delay).from
  pub to : (k : ℕ) → k < length qs → (nth w k).to ≡ (get_or qs k blank_delay).to
  pub code : (k : ℕ) → k < length qs → (nth w k).code ≡ coded (get_or qs k blank_delay).weight
  pub fits : (k : ℕ) → k < length qs → Fits n (get_or qs k blank_delay)
