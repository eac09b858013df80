-- A batch that passes the tests of its limits: what they give, and so what the functions that read the batch require.
use Prim.Native.Nat.{◌≤◌}
use mathlib.Core.Path.{◌≡◌, sym, ◌∙◌}
use mathlib.Core.Bool.{Bool, true, ◌&&◌}
use native.Mathlib.Omega.{arith}
use Rattle.model.specs.declared.Batch.{Batch}
use Rattle.model.specs.Common.{all, count}
use Rattle.model.specs.Batch.{delays_of}
use Rattle.model.specs.Window.{window_ok}
use Rattle.model.specs.Sound.{sound_edition, sound_further}
use Rattle.model.specs.Open.{counts_ok, jobs_ok, weight_ok}
use Rattle.model.proofs.BoolLaws.{both}
use Rattle.model.proofs.ListLaws.{all_each, some_count}
use Rattle.model.proofs.WindowLaws.{window_soon}
use Rattle.times.specs.Fill.{Small}
use Rattle.times.specs.Ends.{earliest_read}
use Rattle.times.proofs.EndsLaws.{earliest_small}
use Rattle.clashes.specs.List.{Tabled}
use Rattle.clashes.proofs.LimitLaws.{tabled}
use Rattle.weights.specs.Delays.{DelaysSound, delays_pass}
use Rattle.batch_limits.specs.Limits.{ticks_pass, counts_pass, limits_pass}
use Rattle.batch_limits.proofs.LimitLaws.{few_jobs, some_jobs, few_delays}

module _ (b : Batch) (x : Bool) (p : x ≡ limits_pass b) (e : x ≡ true) where
  limits : ((counts_pass b && sound_edition b) ≡ true) × (sound_further b ≡ true)
  unfolding limits_pass
  limits = both (counts_pass b && sound_edition b) (sound_further b) (sym p ∙ e)

  counts : (counts_ok b.n b.m ≡ true) × (ticks_pass b ≡ true)
  unfolding counts_pass
  counts = both (counts_ok b.n b.m) (ticks_pass b) (both (counts_pass b) (sound_edition b) limits.0).0

  pub counts_jobs : b.n ≤ 24
  counts_jobs = few_jobs b.n b.m counts.0

  pub counts_delays : b.m ≤ 128
  counts_delays = few_delays b.n b.m counts.0

  pub counts_tabled : Tabled b
  unfolding ticks_pass
  counts_tabled = tabled b counts.0 counts.1 limits.1

  -- no earliest start is above 20,000
  pub limits_soon : Small (earliest_read b) 20000
  unfolding sound_further
  limits_soon =
      earliest_small b counts_jobs 20000 (λ i h.
      window_soon b i (all_each (window_ok b) (count 0 b.n) (both (all (window_ok b) (count 0 b.n)) _ limits.1).0 (some_count 0 b.n i (omega arith) (omega arith))))

  -- the delays pass too
  pub passed_delays : delays_pass b ≡ true → DelaysSound b
  unfolding delays_pass
  passed_delays h =
      let each = both (all (jobs_ok b.n) (delays_of b)) (all weight_ok (delays_of b)) h in
      record { some = some_jobs b.n b.m counts.0; most = counts_jobs; few = counts_delays; jobs = each.0; weights = each.1 }
