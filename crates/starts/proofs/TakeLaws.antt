-- The first inequalities of a list, lent as a list of their own: they name the same jobs, and fill the same table.
use mathlib.Core.Path.{◌≡◌, refl, ap, ◌∙◌}
use mathlib.Core.List.{List}
use Prim.Native.Nat.{ℕ, zero, suc, ◌+◌, ◌/◌, ◌≤◌, ◌<◌}
use native.Mathlib.Omega.{arith}
use lib.ListN.{length, take}
use lib.Seq.{get_or-take, length-take-le}
use Rattle.weights.specs.declared.Inequality.{Inequality}
use Rattle.weights.specs.Inequality.{blank_inequality, nth, listed}
use Rattle.weights.proofs.ListedLaws.{listed_size, nth_listed}
use Rattle.rounds.specs.Rounds.{rounds_of, timely}
use Rattle.starts.specs.Least.{least_of}
use Rattle.starts.specs.Table.{with_put, with_stored, empty_table, lowered, heaviest_of, Placed}

nth_take : (ws : List Inequality) (m k : ℕ) → k < m → nth (take m ws) k ≡ nth ws k
nth_take ws m k p = get_or-take m ws k blank_inequality p

pub placed_take : (ws : List Inequality) (m : ℕ) → m ≤ length ws → Placed ws m → Placed (take m ws) (length (take m ws))
placed_take ws m h p =
    rw (length-take-le m ws h) (record { from = λ k l. rw (nth_take ws m k l) (p.from k l); to = λ k l. rw (nth_take ws m k l) (p.to k l) })

put_same : (ws : List Inequality) (t : List (List ℕ)) (m k : ℕ) → k ≤ m → with_put (take m ws) t k ≡ with_put ws t k
unfolding with_put
put_same ws t m zero p = refl
put_same ws t m (suc k) p = rw (put_same ws t m k (omega arith), nth_take ws m k (omega arith))

pub put_take : (ws : List Inequality) (t : List (List ℕ)) (m : ℕ) → m ≤ length ws → with_put (take m ws) t (length (take m ws)) ≡ with_put ws t m
put_take ws t m h = ap (with_put (take m ws) t) (length-take-le m ws h) ∙ put_same ws t m m (omega arith)

stored_same : (ws : List Inequality) (t : List (List ℕ)) (m k : ℕ) → k ≤ m → with_stored (take m ws) t k ≡ with_stored ws t k
unfolding with_stored
stored_same ws t m zero p = refl
stored_same ws t m (suc k) p = rw (stored_same ws t m k (omega arith), nth_take ws m k (omega arith))

pub stored_take : (ws : List Inequality) (t : List (List ℕ)) (m : ℕ) → m ≤ length ws → with_stored (take m ws) t (length (take m ws)) ≡ with_stored ws t m
stored_take ws t m h = ap (with_stored (take m ws) t) (length-take-le m ws h) ∙ stored_same ws t m m (omega arith)

-- the first m, each with its pair's code in the table that holds them
pub heaviest_is : (ws : List Inequality) (m : ℕ) → m ≤ length ws → (t : List (List ℕ)) → t ≡ with_put (take m ws) empty_table (length (take m ws)) → (l : List Inequality) (k : ℕ)
    → l ≡ listed (λ i. lowered t (nth ws i)) 128 k → k ≡ m → l ≡ heaviest_of m ws
unfolding heaviest_of
heaviest_is ws m h t e l k g s = g ∙ ap (listed (λ i. lowered t (nth ws i)) 128) s ∙ ap (λ (x : List (List ℕ)). listed (λ i. lowered x (nth ws i)) 128 m) (e ∙ put_take ws empty_table m h)

-- the heaviest of a list's first inequalities: as many places, and the same jobs
pub heavy_length : (ws : List Inequality) (m : ℕ) → length (heaviest_of m ws) ≡ 128
unfolding heaviest_of
heavy_length ws m = listed_size _ 128 m

pub heavy_placed : (ws : List Inequality) (m : ℕ) → m ≤ 128 → Placed ws m → Placed (heaviest_of m ws) m
unfolding heaviest_of lowered
heavy_placed ws m h p = record { from = λ k l. rw (at k l) (p.from k l); to = λ k l. rw (at k l) (p.to k l) }
  where
    at : (k : ℕ) → k < m → nth (listed (λ i. lowered (with_put ws empty_table m) (nth ws i)) 128 m) k ≡ lowered (with_put ws empty_table m) (nth ws k)
    at k l = nth_listed (λ i. lowered (with_put ws empty_table m) (nth ws i)) 128 m k h l

-- what `least_starts` finds from lent lists
pub least_taken : (n m depth : ℕ) (w steps : List Inequality) (stays latest starts : List ℕ) (bound latency : ℕ) → m ≤ length w → depth ≤ length steps
    → least_of n (take m w) (take depth steps) stays latest bound starts latency
    ≡ timely latest (rounds_of (with_put steps (with_stored w empty_table m) depth) stays ((n + 3) / 4) bound starts latency n)
unfolding least_of
least_taken n m depth w steps stays latest starts bound latency h g = rw (put_take steps _ depth g, stored_take w empty_table m h) refl
