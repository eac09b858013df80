-- A job's table widened by the rests. Its tick a stands at place a + 7, and station s stands at every place that is too close, for the rest of s, to a tick in which
-- the job holds it.
use Rattle.std.specs.Prelude.{ℕ, ◌+◌, ◌≤◌, ◌<◌, ◌≡◌, true, false, List, get_or, leb}
use Rattle.std.proofs.Math.IntN.{sub_ℕ}
use Rattle.model.specs.declared.Job.{Job}
use Rattle.model.specs.Limits.{stations, most_rest}
use Rattle.model.specs.Batch.{bit}
use Rattle.model.specs.Plan.{too_close}
use Rattle.tables.specs.declared.Rests.{Rests}

-- each rest is at most 7
pub record Resting (rests : List ℕ) : Type 0 where
  pub each : (s : ℕ) → s < stations → get_or rests s 0 ≤ most_rest

-- none of the first n rests is above w, which is at most 7
pub record Longest (rests : List ℕ) (w n : ℕ) : Type 0 where
  pub most : w ≤ most_rest
  pub each : (s : ℕ) → s < n → get_or rests s 0 ≤ w

-- of the first n stations a mask holds those for which ticks `gap` apart are too close, and no other station
pub record CloseAt (rests : List ℕ) (gap mask n : ℕ) : Type 0 where
  pub each : (s : ℕ) → s < n → bit mask s ≡ leb gap (get_or rests s 0)
  pub others : (s : ℕ) → n ≤ s → bit mask s ≡ false

-- the stations for which two ticks are too close, by the difference of the ticks + 22, which is below 45
pub record Closes (rests close : List ℕ) : Type 0 where
  pub each : (e s : ℕ) → e < 45 → s < stations → bit (get_or close e 0) s ≡ too_close (get_or rests s 0) (sub_ℕ e 22)

-- what widening needs of the rests; where no station rests, nobody asks for the stations
pub record Rested (rests : List ℕ) (r : Rests) : Type 0 where
  pub longest : Longest rests r.longest 16
  pub close : 0 < r.longest → Closes rests r.close

-- a mask holds the stations of place x: those that are held, in one of the first p ticks, too close to it
pub record Near (rests masks : List ℕ) (p x mask : ℕ) : Type 0 where
  pub found :
      (s : ℕ) → s < stations → bit mask s ≡ true
      → (a : ℕ) × (a < p) × (bit (get_or masks a 0) s ≡ true) × (too_close (get_or rests s 0) (sub_ℕ (a + 7) x) ≡ true)
  pub has : (s a : ℕ) → s < stations → a < p → bit (get_or masks a 0) s ≡ true → too_close (get_or rests s 0) (sub_ℕ (a + 7) x) ≡ true → bit mask s ≡ true

-- the widened table, from place low on and before end
pub record Widens (rests : List ℕ) (job : Job) (low end : ℕ) (places : List ℕ) : Type 0 where
  pub each : (x : ℕ) → low ≤ x → x < end → Near rests job.masks job.ticks x (get_or places x 0)
