-- The limits of 01 and 02 as tests and as facts: a batch is within them exactly when it passes the tests of opening and each mask is two bytes.
use Prim.Native.Nat.{ℕ, ◌-◌, ◌≤◌, ◌<◌}
use mathlib.Core.Path.{◌≡◌, refl, ap}
use mathlib.Core.Logic.{◌⊎◌, inl, inr, ◌↔◌, ◌≢◌}
use mathlib.Core.Bool.{Bool, true, false, not, ◌&&◌, ◌||◌}
use mathlib.Core.List.{Memᴰ}
use lib.IntN.{ℤ, pos, negsuc}
use lib.Signed.{◌≤ℤ◌, le_z}
use lib.Dec.{leb, ltb, eqb}
use native.Mathlib.Omega.{arith}
use borrow.Author.Tests.{leb-true, le-leb, ltb-true, lt-ltb, eqb-true, eq-eqb, eqb-false, ne_eqb, not-true}
use Rattle.model.specs.declared.Batch.{Batch}
use Rattle.model.specs.declared.Delay.{Delay}
use Rattle.model.specs.Common.{between}
use Rattle.model.specs.Limits.{most_jobs, most_delays, most_ticks, most_weight}
use Rattle.model.specs.Batch.{ticks, mask, delays_of}
use Rattle.model.specs.Window.{WithinWindows}
use Rattle.model.specs.Rest.{WithinRests}
use Rattle.model.specs.Format.{Edition, Within}
use Rattle.model.specs.Open.{edition_ok, counts_ok, ticks_ok, jobs_ok, weight_ok}
use Rattle.model.proofs.BoolLaws.{both, and, T_true, true_T}

-- ---- each test is its limit

-- lo ≤ x ≤ hi
pub between_iff : (lo x hi : ℕ) → between lo x hi ≡ true ↔ ((lo ≤ x) × (x ≤ hi))
unfolding between
between_iff lo x hi =
    (λ e. let r = both (leb lo x) (leb x hi) e in (leb-true lo x r.0, leb-true x hi r.1), λ h. and (le-leb lo x h.0) (le-leb x hi h.1))

-- the edition (3)
pub edition_iff : (e : ℕ) → edition_ok e ≡ true ↔ ((e ≡ 1) ⊎ (e ≡ 2))
unfolding edition_ok
edition_iff e = (there (eqb e 1) refl, back)
  where
    there : (t : Bool) → eqb e 1 ≡ t → (t || eqb e 2) ≡ true → (e ≡ 1) ⊎ (e ≡ 2)
    there true h g = inl (eqb-true e 1 h)
    there false h g = inr (eqb-true e 2 g)

    back : (e ≡ 1) ⊎ (e ≡ 2) → (eqb e 1 || eqb e 2) ≡ true
    back (inl h) = rw (eq-eqb e 1 h)
    back (inr h) = ap (λ (x : ℕ). eqb x 1 || eqb x 2) h

pub edition_small : (e : ℕ) → edition_ok e ≡ true → e < 256
edition_small e h = go ((edition_iff e).0 h)
  where
    go : (e ≡ 1) ⊎ (e ≡ 2) → e < 256
    go (inl z) = omega arith
    go (inr z) = omega arith

-- p (4)
pub ticks_iff : (p : ℕ) → ticks_ok p ≡ true ↔ ((1 ≤ p) × (p ≤ most_ticks))
unfolding ticks_ok
ticks_iff p = between_iff 1 p most_ticks

-- n and m (4)
pub counts_iff : (n m : ℕ) → counts_ok n m ≡ true ↔ (((1 ≤ n) × (n ≤ most_jobs)) × (m ≤ most_delays))
unfolding counts_ok
counts_iff n m =
    let jobs = between_iff 1 n most_jobs in (
      λ e. let r = both (between 1 n most_jobs) (leb m most_delays) e in (jobs.0 r.0, leb-true m most_delays r.1),
      λ h. and (jobs.1 h.0) (le-leb m most_delays h.1),
    )

-- a delay's jobs (5)
pub jobs_iff : (n : ℕ) (q : Delay) → jobs_ok n q ≡ true ↔ ((q.from < n) × (q.to < n) × (q.from ≢ q.to))
unfolding jobs_ok
jobs_iff n q = (
  λ e.
      let r = both (ltb q.from n && ltb q.to n) (not (eqb q.from q.to)) e in
      let s = both (ltb q.from n) (ltb q.to n) r.0 in
      (ltb-true q.from n s.0, ltb-true q.to n s.1, eqb-false q.from q.to (not-true (eqb q.from q.to) r.1)),
  λ h. and (and (lt-ltb q.from n h.0) (lt-ltb q.to n h.1)) (ap not (ne_eqb q.from q.to h.2)),
)

-- the order of the integers and its test
pub le_z_iff : (v w : ℤ) → le_z v w ≡ true ↔ (v ≤ℤ w)
le_z_iff v w = (λ e. record { le = true_T e }, λ h. T_true (le_z v w) h.le)

-- a delay's weight (6)
pub weight_iff : (q : Delay) → weight_ok q ≡ true ↔ ((negsuc (most_weight - 1) ≤ℤ q.weight) × (q.weight ≤ℤ pos most_weight))
unfolding weight_ok
weight_iff q =
    let low = le_z_iff (negsuc (most_weight - 1)) q.weight in
    let high = le_z_iff q.weight (pos most_weight) in
    (λ e. let r = both (le_z (negsuc (most_weight - 1)) q.weight) (le_z q.weight (pos most_weight)) e in (low.0 r.0, high.0 r.1), λ h. and (low.1 h.0) (high.1 h.1))

-- ---- a whole batch

-- it passes 3 to 6 and what is asked of its further lines, and a mask is two bytes
pub record LimitsOk (b : Batch) : Type 0 where
  pub edition_known : Edition b
  pub windows : WithinWindows b
  pub rests : WithinRests b
  pub counts : counts_ok b.n b.m ≡ true
  pub ticks_each : (i : ℕ) → i < b.n → ticks_ok (ticks b i) ≡ true
  pub masks_each : (i a : ℕ) → i < b.n → a < ticks b i → mask b i a < 65536
  pub jobs_each : (q : Delay) → Memᴰ q (delays_of b) → jobs_ok b.n q ≡ true
  pub weights_each : (q : Delay) → Memᴰ q (delays_of b) → weight_ok q ≡ true

-- a batch within the limits passes the tests
pub within_limits : (b : Batch) → Within b → LimitsOk b
within_limits b w =
    record {
      edition_known = w.edition_known;
      windows = w.windows;
      rests = w.rests;
      counts = (counts_iff b.n b.m).1 (w.jobs, w.delays);
      ticks_each = λ i h. (ticks_iff (ticks b i)).1 (w.ticks_each i h);
      masks_each = w.masks_each;
      jobs_each = λ q k. (jobs_iff b.n q).1 (w.jobs_each q k);
      weights_each = λ q k. (weight_iff q).1 (w.weight_each q k);
    }

-- a batch that passes the tests is within the limits
pub limits_within : (b : Batch) → LimitsOk b → Within b
limits_within b l =
    let c = (counts_iff b.n b.m).0 l.counts in
    record {
      edition_known = l.edition_known;
      windows = l.windows;
      rests = l.rests;
      jobs = c.0;
      delays = c.1;
      ticks_each = λ i h. (ticks_iff (ticks b i)).0 (l.ticks_each i h);
      masks_each = l.masks_each;
      jobs_each = λ q k. (jobs_iff b.n q).0 (l.jobs_each q k);
      weight_each = λ q k. (weight_iff q).0 (l.weights_each q k);
    }
