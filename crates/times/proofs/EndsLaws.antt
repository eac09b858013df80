-- The loops over the jobs' ends, and the test of starts that are in time.
use mathlib.Core.Path.{◌≡◌, refl, sym, ◌∙◌}
use mathlib.Core.Bool.{Bool, true, false}
use mathlib.Core.List.{List}
use Prim.Native.Nat.{ℕ, zero, suc, ◌+◌, ◌≤◌, ◌<◌}
use native.Mathlib.Omega.{arith}
use native.Mathlib.Numerals.{add-one}
use native.Mathlib.Decide.{dec_lt, ℕ_discrete}
use lib.ListN.{length, get_or, get_or-eq_default}
use lib.Dec.{leb}
use borrow.Author.Tests.{leb-true, le-leb, lt-leb}
use Rattle.model.specs.declared.Window.{Window}
use Rattle.model.specs.declared.Batch.{Batch}
use Rattle.model.specs.Common.{all, count, pad}
use Rattle.model.specs.Batch.{window_of, blank_window, earliest, latest, earliest_starts, latest_starts}
use Rattle.model.specs.Starts.{in_time}
use Rattle.model.proofs.BoolLaws.{both, and, same_test}
use Rattle.model.proofs.ListLaws.{all_each, each_all, count_some, some_count}
use Rattle.model.proofs.SeqLaws.{get_d_same, pad_at}
use Rattle.model.proofs.StartsLaws.{latest_at}
use Rattle.times.specs.Fill.{Small, filled}
use Rattle.times.specs.Ends.{earliest_read, latest_read, none_late}
use Rattle.times.proofs.FillLaws.{filled_at, filled_past, filled_is}

-- ---- a job's ends, as they are read out of the array

-- by the code, and by the definition
abbrev pub window_at : List Window → ℕ → Window
window_at ws i = get_or ws i (record { lined = 0; earliest = 0; latest = 0 })

abbrev pub window_in : List Window → ℕ → Window
window_in ws i = get_or ws i blank_window

pub window_told_lem : (ws : List Window) (i : ℕ) → i < length ws → window_at ws i ≡ window_in ws i
window_told_lem ws i h = get_d_same ws i (record { lined = 0; earliest = 0; latest = 0 }) blank_window h

-- what the loop has made when it ends
module _ (b : Batch) (i : ℕ) (e : i ≡ b.n) (l : List ℕ) where
  pub earliest_read_lem : l ≡ filled (λ k. (window_in b.windows k).earliest) 24 i → l ≡ earliest_read b
  unfolding earliest_read earliest window_of
  earliest_read_lem p = rw (p, e)

  pub latest_read_lem : l ≡ filled (λ k. (window_in b.windows k).latest) 24 i → l ≡ latest_read b
  unfolding latest_read latest window_of
  latest_read_lem p = rw (p, e)

-- the earliest starts are those of the definition
pub earliest_is : (b : Batch) → b.n ≤ 24 → earliest_read b ≡ pad 24 0 (earliest_starts b)
unfolding earliest_read earliest_starts
earliest_is b few = filled_is (earliest b) 24 b.n few

-- and as small as they are
pub earliest_small : (b : Batch) → b.n ≤ 24 → (top : ℕ) → ((i : ℕ) → i < b.n → earliest b i ≤ top) → Small (earliest_read b) top
unfolding earliest_read
earliest_small b few top h = record { each = λ i. go i (dec_lt i b.n) }
  where
    go : (i : ℕ) → Dec (i < b.n) → get_or (filled (earliest b) 24 b.n) i 0 ≤ top
    go i (yes l) = omega (arith, filled_at (earliest b) 24 b.n i few l, h i l)
    go i (no l) = omega (arith, filled_past (earliest b) 24 b.n i (omega arith))

-- ---- in time

module _ (latest starts : List ℕ) where
  pub late_none : true ≡ none_late latest starts 0
  unfolding none_late
  late_none = refl

  -- one that passes its latest
  pub late_found : (k : ℕ) → get_or latest k 0 < get_or starts k 0 → false ≡ none_late latest starts (k + 1)
  unfolding none_late
  late_found k h = rw (add-one k, lt-leb (get_or starts k 0) (get_or latest k 0) h)

  -- and one that does not
  pub late_more : (k : ℕ) (seen : Bool) → seen ≡ none_late latest starts k → get_or starts k 0 ≤ get_or latest k 0 → seen ≡ none_late latest starts (k + 1)
  unfolding none_late
  late_more k seen e h = e ∙ rw (add-one k, le-leb (get_or starts k 0) (get_or latest k 0) h)

  late_each : (k : ℕ) → none_late latest starts k ≡ true → (i : ℕ) → i < k → get_or starts i 0 ≤ get_or latest i 0
  unfolding none_late
  late_each zero e i h = absurd (omega arith)
  late_each (suc k) e i h = let p = both _ (none_late latest starts k) e in go (ℕ_discrete i k) (late_each k p.1 i) (leb-true _ _ p.0)
    where
      go : Dec (i ≡ k) → (i < k → get_or starts i 0 ≤ get_or latest i 0) → get_or starts k 0 ≤ get_or latest k 0 → get_or starts i 0 ≤ get_or latest i 0
      go (yes z) rec last = rw z last
      go (no z) rec last = rec (omega arith)

  each_late : (k : ℕ) → ((i : ℕ) → i < k → get_or starts i 0 ≤ get_or latest i 0) → none_late latest starts k ≡ true
  unfolding none_late
  each_late zero h = refl
  each_late (suc k) h = and (le-leb _ _ (h k (omega arith))) (each_late k (λ i p. h i (omega arith)))

-- with a batch's latest starts it is the definition's test
pub time_is : (b : Batch) → b.n ≤ 24 → (ts : List ℕ) → length ts ≡ b.n → none_late (latest_read b) (pad 24 0 ts) 24 ≡ in_time (latest_starts b) ts
unfolding in_time latest_read
time_is b few ts len = same_test _ _ there back
  where
    test : ℕ → Bool
    test j = leb (get_or ts j 0) (get_or (latest_starts b) j 0)

    at : (j : ℕ) → j < b.n → get_or (filled (latest b) 24 b.n) j 0 ≡ get_or (latest_starts b) j 0
    at j h = filled_at (latest b) 24 b.n j few h ∙ sym (latest_at b j h)

    there : none_late (filled (latest b) 24 b.n) (pad 24 0 ts) 24 ≡ true → all test (count 0 (length ts)) ≡ true
    there e =
        each_all test (count 0 (length ts)) (λ j m.
        let h : j < b.n = omega (arith, (count_some 0 (length ts) j m).1) in
        le-leb (get_or ts j 0) (get_or (latest_starts b) j 0) (omega (arith, late_each _ (pad 24 0 ts) 24 e j (omega arith), pad_at 24 0 ts j, at j h)))

    back : all test (count 0 (length ts)) ≡ true → none_late (filled (latest b) 24 b.n) (pad 24 0 ts) 24 ≡ true
    back e = each_late _ (pad 24 0 ts) 24 (λ j h. go j (dec_lt j b.n))
      where
        go : (j : ℕ) → Dec (j < b.n) → get_or (pad 24 0 ts) j 0 ≤ get_or (filled (latest b) 24 b.n) j 0
        go j (yes h) = omega (arith, leb-true (get_or ts j 0) (get_or (latest_starts b) j 0) (all_each test (count 0 (length ts)) e (some_count 0 (length ts) j (omega arith) (omega arith))), pad_at 24 0 ts j, at j h)
        go j (no h) = omega (arith, pad_at 24 0 ts j, get_or-eq_default ts 0 {n = j} (omega arith))
