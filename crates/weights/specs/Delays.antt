-- A batch's delays as a list of inequalities, in an array of 128 places.
use Rattle.std.specs.Prelude.{◌≤◌, ◌≡◌, Bool, true, false, ◌&&◌, List, Option, Some, None}
use Rattle.model.specs.declared.Batch.{Batch}
use Rattle.model.specs.declared.Delay.{Delay}
use Rattle.model.specs.Common.{all}
use Rattle.model.specs.Batch.{delay_of, delays_of}
use Rattle.model.specs.Open.{jobs_ok, weight_ok}
use Rattle.weights.specs.declared.Inequality.{Inequality}
use Rattle.weights.specs.Inequality.{listed}
use Rattle.weights.specs.Code.{coded}

-- 1 to 24 jobs, at most 128 delays, and each delay passes 5 and 6
pub record DelaysSound (b : Batch) : Type 0 where
  pub some : 1 ≤ b.n
  pub most : b.n ≤ 24
  pub few : b.m ≤ 128
  pub jobs : all (jobs_ok b.n) (delays_of b) ≡ true
  pub weights : all weight_ok (delays_of b) ≡ true

-- a delay as the core takes it
abbrev pub inequality_of : Delay → Inequality
inequality_of q = record { from = q.from; to = q.to; code = coded q.weight }

-- the first m delays, and blank places past them
unfoldable pub delays_read : Batch → List Inequality
delays_read b = listed (λ k. inequality_of (delay_of b k)) 128 b.m

-- each delay's jobs and weight are within their limits
unfoldable pub delays_pass : Batch → Bool
delays_pass b = all (jobs_ok b.n) (delays_of b) && all weight_ok (delays_of b)

-- what reading the delays gives: what they say where each passes, and nothing where one does not
abbrev pub ReadsDelays : Batch → Option (List Inequality) → Type 0
ReadsDelays b (Some w) = (delays_pass b ≡ true) × (w ≡ delays_read b)
ReadsDelays b None = delays_pass b ≡ false
