-- Weights as unsigned numbers: a weight w is held as 1,000 − w, 0 to 2,000, and an empty place as 65,535. And what fits them.
use Rattle.std.specs.Prelude.{ℕ, suc, ◌+◌, ◌-◌, ◌<◌, ℤ, pos, negsuc, ◌≤ℤ◌}
use Rattle.std.proofs.Math.Option.{Option, none, some}
use Rattle.model.specs.declared.Delay.{Delay}
use Rattle.model.specs.Clash.{Clash}

-- w is −1,000 to 1,000
pub record Limited (w : ℤ) : Type 0 where
  pub low : negsuc 999 ≤ℤ w
  pub high : w ≤ℤ pos 1000

-- 1,000 − w
unfoldable pub coded : ℤ → ℕ
coded (pos k) = 1000 - k
coded (negsuc k) = 1000 + suc k

-- a place of the table: 65,535 if it is empty, else its weight's code
unfoldable pub place_code : Option ℤ → ℕ
place_code none = 65535
place_code (some w) = coded w

-- an inequality between jobs below n, with a weight within its limits
pub record Fits (n : ℕ) (q : Delay) : Type 0 where
  pub from : q.from < n
  pub to : q.to < n
  pub weight : Limited q.weight

-- a clash of jobs below n, with a distance of −22 to 22
pub record ClashFits (n : ℕ) (c : Clash) : Type 0 where
  pub i : c.i < n
  pub j : c.j < n
  pub low : negsuc 21 ≤ℤ c.d
  pub high : c.d ≤ℤ pos 22
