-- The loops over a job's ticks and over the jobs: each place of the array has its job's stay.
use mathlib.Core.Path.{◌≡◌, refl, ap, sym, ◌∙◌}
use mathlib.Core.List.{List, []}
use Prim.Native.Nat.{ℕ, zero, suc, ◌+◌, ◌-◌, ◌≤◌, ◌<◌}
use native.Mathlib.Omega.{arith}
use native.Mathlib.Decide.{dec_lt}
use lib.ListN.{length, get_or, get_or-eq_default}
use Rattle.std.proofs.lemmas.List.{get_or-take, length-take}
use Rattle.std.proofs.Common.{take}
use Rattle.model.specs.declared.Job.{Job}
use Rattle.model.specs.declared.Batch.{Batch}
use Rattle.model.specs.Batch.{ticks, job_of, blank_job}
use Rattle.model.specs.Plan.{stay_in, stay}
use Rattle.model.proofs.SeqLaws.{get_d_default}
use Rattle.model.proofs.FinishLaws.{stay_less, stay_here}
use Rattle.times.specs.Fill.{filled}
use Rattle.times.specs.Stays.{stays_read}

-- ---- one job, by its last tick that is not empty

module _ (job : Job) (t : ℕ) (e : t ≡ job.ticks) where
  -- empty ticks from q on add nothing
  stay_over : (q d : ℕ) → ((k : ℕ) → q ≤ k → get_or (take t job.masks) k 0 ≡ 0) → d + q ≤ t → stay_in job (d + q) ≡ stay_in job q
  stay_over q zero h m = let z : 0 + q ≡ q = omega arith in ap (stay_in job) z
  stay_over q (suc d) h m =
      let z : suc d + q ≡ suc (d + q) = omega arith in
      ap (stay_in job) z
      ∙ stay_less job (d + q) (sym (get_or-take t job.masks (d + q) 0 (omega arith)) ∙ h (d + q) (omega arith))
      ∙ stay_over q d h (omega arith)

  -- so that the first q decide
  stay_from : (q : ℕ) → q ≤ t → ((k : ℕ) → q ≤ k → k < length (take t job.masks) → get_or (take t job.masks) k 0 ≡ 0) → stay_in job q ≡ stay job
  unfolding stay
  stay_from q m h =
      let z : job.ticks ≡ (t - q) + q = omega arith in
      sym (ap (stay_in job) z ∙ stay_over q (t - q) (λ k g. go k g (dec_lt k (length (take t job.masks)))) (omega arith))
    where
      go : (k : ℕ) → q ≤ k → Dec (k < length (take t job.masks)) → get_or (take t job.masks) k 0 ≡ 0
      go k g (yes l) = h k g l
      go k g (no l) = get_or-eq_default (take t job.masks) 0 {n = k} (omega arith)

  pub stay_last : (i : ℕ) → i < length (take t job.masks) → (get_or (take t job.masks) i 0 ≡ 0 → ⊥)
      → ((k : ℕ) → i < k → k < length (take t job.masks) → get_or (take t job.masks) k 0 ≡ 0) → i + 1 ≡ stay job
  stay_last i l h past =
      let m : i < t = omega (arith, length-take t job.masks) in
      let z : i + 1 ≡ suc i = omega arith in
      z ∙ sym (stay_here job i (λ w. h (get_or-take t job.masks i 0 m ∙ w))) ∙ stay_from (suc i) (omega arith) (λ k g. past k (omega arith))

  pub stay_none : ((k : ℕ) → k < length (take t job.masks) → get_or (take t job.masks) k 0 ≡ 0) → 0 ≡ stay job
  unfolding stay_in
  stay_none h = stay_from 0 (omega arith) (λ k g. h k)

-- ---- a job that is read out of the array

pub ticks_told : (b : Batch) (i : ℕ) → (get_or b.jobs i (record { ticks = 0; masks = [] })).ticks ≡ ticks b i
unfolding ticks job_of blank_job
ticks_told b i = get_d_default (λ (j : Job). j.ticks) b.jobs i (record { ticks = 0; masks = [] }) blank_job refl

pub stay_told : (b : Batch) (i : ℕ) → stay (get_or b.jobs i (record { ticks = 0; masks = [] })) ≡ stay (job_of b i)
unfolding stay stay_in job_of blank_job
stay_told b i = get_d_default stay b.jobs i (record { ticks = 0; masks = [] }) blank_job refl

pub stays_read_lem : (b : Batch) (l : List ℕ) (i : ℕ) → i ≡ b.n → l ≡ filled (λ i. stay (job_of b i)) 24 i → l ≡ stays_read b
unfolding stays_read
stays_read_lem b l i e p = rw (p, e)
