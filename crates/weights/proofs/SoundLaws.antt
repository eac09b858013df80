-- What the tests of a sound batch give a caller: the list that is read holds its delays.
use mathlib.Core.Path.{◌≡◌, sym, ap, subst, ◌∙◌}
use mathlib.Core.Bool.{Bool, true}
use Rattle.std.specs.Prelude.{Option, Some, None}
use mathlib.Core.List.{List, map}
use Prim.Native.Nat.{ℕ, ◌≤◌, ◌<◌}
use native.Mathlib.Omega.{arith}
use lib.ListN.{length, get_or}
use Rattle.model.specs.declared.Batch.{Batch}
use Rattle.model.specs.declared.Delay.{Delay}
use Rattle.model.specs.Common.{all, count}
use Rattle.model.specs.Batch.{blank_delay, delay_of, delays_of}
use Rattle.model.specs.Open.{jobs_ok, weight_ok}
use Rattle.model.proofs.ListLaws.{all_each, index_in}
use Rattle.model.proofs.BoolLaws.{and}
use Rattle.model.proofs.SeqLaws.{listed_at, listed_length}
use Rattle.model.proofs.LimitLaws.{jobs_iff}
use Rattle.weights.specs.declared.Inequality.{Inequality}
use Rattle.weights.specs.Inequality.{nth, listed}
use Rattle.weights.specs.Code.{coded, Fits}
use Rattle.weights.specs.Delays.{inequality_of, DelaysSound, delays_pass, delays_read, ReadsDelays}
use Rattle.weights.specs.Holds.{Holds}
use Rattle.weights.proofs.ListedLaws.{nth_listed}
use Rattle.weights.proofs.DelaysLaws.{weight_limited}

-- ---- tests of every item

-- each of the first m items
pub all_listed : {A : Type 0} (f : A → Bool) (g : ℕ → A) (m : ℕ) → all f (map g (count 0 m)) ≡ true → (k : ℕ) → k < m → f (g k) ≡ true
all_listed f g m e k h = all_each f (map g (count 0 m)) e (index_in g m k h)

-- ---- weights and jobs of delays

pub delays_length : (b : Batch) → length (delays_of b) ≡ b.m
unfolding delays_of
delays_length b = listed_length (delay_of b) b.m

pub delays_at : (b : Batch) (k : ℕ) → k < b.m → get_or (delays_of b) k blank_delay ≡ delay_of b k
unfolding delays_of
delays_at b k p = listed_at (delay_of b) blank_delay b.m k p

-- the list that is read from a sound batch holds its delays
pub holds_read : (b : Batch) → b.m ≤ 128 → all (jobs_ok b.n) (delays_of b) ≡ true → all weight_ok (delays_of b) ≡ true → Holds b.n (delays_of b) (delays_read b)
unfolding delays_of delays_read
holds_read b few e g =
    record {
      from = λ k p. ap (λ (x : Inequality). x.from) (read k (in_m k p)) ∙ sym (ap (λ (q : Delay). q.from) (at k (in_m k p)));
      to = λ k p. ap (λ (x : Inequality). x.to) (read k (in_m k p)) ∙ sym (ap (λ (q : Delay). q.to) (at k (in_m k p)));
      code = λ k p. ap (λ (x : Inequality). x.code) (read k (in_m k p)) ∙ sym (ap (λ (q : Delay). coded q.weight) (at k (in_m k p)));
      fits = λ k p. subst (Fits b.n) (sym (at k (in_m k p))) (fit k (in_m k p));
    }
  where
    in_m : (k : ℕ) → k < length (map (delay_of b) (count 0 b.m)) → k < b.m
    in_m k p = omega (arith, listed_length (delay_of b) b.m)

    read : (k : ℕ) → k < b.m → nth (listed (λ i. inequality_of (delay_of b i)) 128 b.m) k ≡ inequality_of (delay_of b k)
    read k p = nth_listed (λ i. inequality_of (delay_of b i)) 128 b.m k few p

    at : (k : ℕ) → k < b.m → get_or (map (delay_of b) (count 0 b.m)) k blank_delay ≡ delay_of b k
    at k p = listed_at (delay_of b) blank_delay b.m k p

    fit : (k : ℕ) → k < b.m → Fits b.n (delay_of b k)
    fit k p =
        let j = (jobs_iff b.n (delay_of b k)).0 (all_listed (jobs_ok b.n) (delay_of b) b.m e k p) in
        record { from = j.0; to = j.1; weight = weight_limited (delay_of b k) (all_listed weight_ok (delay_of b) b.m g k p) }

-- each of them passes
pub sound_pass : (b : Batch) → DelaysSound b → delays_pass b ≡ true
unfolding delays_pass
sound_pass b ok = and ok.jobs ok.weights

-- and they are what reading it gives
pub sound_read : (b : Batch) → DelaysSound b → (r : Option (List Inequality)) → ReadsDelays b r → r ≡ Some (delays_read b)
sound_read b ok (Some w) h = ap Some h.1
sound_read b ok None h = cc (sound_pass b ok)
