-- The limits of a batch's counts, and those of its jobs one by one.
use Prim.Native.Nat.{ℕ, suc, ◌+◌, ◌≤◌, ◌<◌}
use mathlib.Core.Path.{◌≡◌, refl, ap, ◌∙◌}
use mathlib.Core.Bool.{Bool, true, false, ◌&&◌}
use mathlib.Core.List.{List, [], ◌∷◌}
use native.Mathlib.Omega.{arith}
use lib.ListN.{length, get_or, take}
use Rattle.std.specs.List.{list_all}
use Rattle.std.proofs.lemmas.List.{get_or-take, length-take-le}
use Rattle.model.specs.declared.Batch.{Batch}
use Rattle.model.specs.declared.Job.{Job}
use Rattle.model.specs.Common.{all, count}
use Rattle.model.specs.Batch.{ticks, job_of, blank_job}
use Rattle.model.specs.Open.{counts_ok, ticks_ok}
use Rattle.model.proofs.LimitLaws.{counts_iff}
use Rattle.model.proofs.BoolLaws.{both}
use Rattle.batch_limits.specs.Limits.{ticks_pass, counts_pass}

-- ---- a test of each item, and of each number

-- of a list, and of the numbers from k on
all_numbered : {A : Type 0} (f : A → Bool) (d : A) (g : ℕ → Bool) (xs : List A) (k : ℕ) → ((i : ℕ) → i < length xs → f (get_or xs i d) ≡ g (i + k)) → list_all f xs ≡ all g (count k (length xs))
unfolding all count
all_numbered f d g [] k h = refl
all_numbered f d g (x ∷ xs) k h =
    go (f x) (g k) (h 0 (omega arith) ∙ ap g (omega arith)) (all_numbered f d g xs (suc k) (λ i l. h (suc i) (omega arith) ∙ ap g (omega arith)))
  where
    go : (p q : Bool) → p ≡ q → list_all f xs ≡ all g (count (suc k) (length xs)) → (p && list_all f xs) ≡ (elim q [ true ↦ all g (count (suc k) (length xs)) | false ↦ false ])
    go p true e r = rw e r
    go p false e r = rw e

-- of a list of n items
pub all_whole : {A : Type 0} (f : A → Bool) (d : A) (g : ℕ → Bool) (xs : List A) (n : ℕ) → length xs ≡ n → ((i : ℕ) → i < n → f (get_or xs i d) ≡ g i) → list_all f xs ≡ all g (count 0 n)
all_whole f d g xs n e h =
    all_numbered f d g xs 0 (λ i l. h i (omega arith) ∙ ap g (omega arith)) ∙ ap (λ (k : ℕ). all g (count 0 k)) e

-- of the first n items of one
pub all_front : {A : Type 0} (f : A → Bool) (d : A) (g : ℕ → Bool) (xs : List A) (n : ℕ) → n ≤ length xs → ((i : ℕ) → i < n → f (get_or xs i d) ≡ g i) → list_all f (take n xs) ≡ all g (count 0 n)
all_front f d g xs n m h =
    all_whole f d g (take n xs) n (length-take-le n xs m) (λ i l. ap f (get_or-take n xs i d l) ∙ h i l)

-- ---- ticks

pub all_ticks : (b : Batch) (n : ℕ) → n ≡ b.n → n ≤ length b.jobs → list_all (λ (j : Job). ticks_ok j.ticks) (take n b.jobs) ≡ ticks_pass b
unfolding ticks_pass ticks job_of
all_ticks b n e m =
    all_front (λ (j : Job). ticks_ok j.ticks) blank_job (λ i. ticks_ok (ticks b i)) b.jobs n m (λ i l. refl)
    ∙ ap (λ (k : ℕ). all (λ i. ticks_ok (ticks b i)) (count 0 k)) e

-- ---- n and m

pub few_jobs : (n m : ℕ) → counts_ok n m ≡ true → n ≤ 24
few_jobs n m e = ((counts_iff n m).0 e).0.1

pub some_jobs : (n m : ℕ) → counts_ok n m ≡ true → 1 ≤ n
some_jobs n m e = ((counts_iff n m).0 e).0.0

pub few_delays : (n m : ℕ) → counts_ok n m ≡ true → m ≤ 128
few_delays n m e = ((counts_iff n m).0 e).1

pub jobs_counted : (b : Batch) → counts_pass b ≡ true → b.n ≤ 24
unfolding counts_pass
jobs_counted b e = few_jobs b.n b.m (both (counts_ok b.n b.m) (ticks_pass b) e).0
