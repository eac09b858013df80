-- No least start passes 43,000, and no latency 43,016: they begin at 20,000 at most, a round raises a start by at most 1,000, and after round n − 1 nothing changes.
use Prim.Native.Nat.{ℕ, zero, suc, ◌+◌, ◌*◌, ◌≤◌, ◌<◌, pred}
use mathlib.Core.Path.{◌≡◌, ap}
use mathlib.Core.Bool.{true}
use mathlib.Core.Logic.{◌⊎◌, inl, inr}
use mathlib.Core.Option.{some}
use mathlib.Core.List.{List, Memᴰ}
use native.Mathlib.Omega.{arith}
use native.Mathlib.Decide.{dec_lt}
use lib.IntN.{ℤ, pos, negsuc, sub_ℕ, ◌+ℤ◌, ◌-ℤ◌}
use lib.Signed.{le_z}
use borrow.Author.Tests.{leb-true}
use lib.ListN.{length, get_or, get_or-eq_default}
use Rattle.model.specs.declared.Batch.{Batch}
use Rattle.model.specs.declared.Delay.{Delay}
use Rattle.model.specs.declared.Turn.{Turn}
use Rattle.model.specs.Limits.{most_earliest, most_start, most_latency}
use Rattle.model.specs.Batch.{earliest_starts, latest_starts}
use Rattle.model.specs.Plan.{start, latency}
use Rattle.model.specs.Clash.{Clash, clashes}
use Rattle.model.specs.Starts.{plus, raised, rounds}
use Rattle.model.specs.Search.{side_of, turned, inequalities, starts_at, no_clash}
use Rattle.model.proofs.FinishLaws.{stay_short, latency_most}
use Rattle.model.proofs.ClashLaws.{Listed}
use Rattle.model.proofs.DistanceLaws.{le_sub, sub_pos, sub_neg}
use Rattle.model.proofs.StartsLaws.{after, after_suc, after_out, raised_why, Why, reach, least_round, ends_length, earliest_at}
use Rattle.model.proofs.NodeLaws.{Fits, Named, each, turn_listed}

-- an inequality that raises a start by at most 1,000
unfoldable pub Slow : Delay → Type 0
Slow q = (t : ℕ) → plus t q.weight ≤ t + 1000

pub after_bound : (qs : List Delay) (first : List ℕ) (top : ℕ) → ((j : ℕ) → get_or first j 0 ≤ top) → ((q : Delay) → Memᴰ q qs → Slow q) → (k j : ℕ) → after qs first k j ≤ top + k * 1000
unfolding after rounds reach Slow
after_bound qs first top z slow zero j = omega (arith, z j)
after_bound qs first top z slow (suc k) j = go (dec_lt j (length first)) (after_bound qs first top z slow k)
  where
    by : ((i : ℕ) → after qs first k i ≤ top + k * 1000) → (raised qs (rounds qs first k) j ≡ get_or (rounds qs first k) j 0) ⊎ Why qs (rounds qs first k) j (raised qs (rounds qs first k) j) → raised qs (rounds qs first k) j ≤ top + suc k * 1000
    by rec (inl e) = omega (arith, rec j)
    by rec (inr w) = omega (arith, w.value, slow w.why w.listed (get_or (rounds qs first k) w.why.from 0), rec w.why.from)

    go : Dec (j < length first) → ((i : ℕ) → after qs first k i ≤ top + k * 1000) → after qs first (suc k) j ≤ top + suc k * 1000
    go (yes h) rec = omega (arith, after_suc qs first k j h, by rec (raised_why qs (rounds qs first k) j))
    go (no h) rec = omega (arith, after_out qs first (suc k) j (omega arith))

-- delays do, by their limits
delay_slow : (w : ℤ) → le_z w (pos 1000) ≡ true → (t : ℕ) → plus t w ≤ t + 1000
unfolding plus
delay_slow (pos k) e t = omega (arith, leb-true k 1000 e)
delay_slow (negsuc k) e t = omega arith

-- turns do: a clash's distance is −22 to 22
near : (a b : ℕ) (d : ℤ) → a < 45 → b < 45 → sub_ℕ a b ≡ d → (t : ℕ) → (plus t (d +ℤ pos 1) ≤ t + 1000) × (plus t (pos 1 -ℤ d) ≤ t + 1000)
unfolding plus
near a b (pos zero) ha hb e t = (omega arith, omega arith)
near a b (pos (suc k)) ha hb e t = (omega (arith, sub_pos a b (suc k) e), le_sub t (t + 1000) 1 (suc k) (omega arith))
near a b (negsuc k) ha hb e t = (le_sub t (t + 1000) 1 (suc k) (omega arith), omega (arith, sub_neg a b k e))

module _ (b : Batch) (fits : Fits b) where
  side_slow : (c : Clash) → Listed b c → (s : ℕ) → Slow (side_of c s)
  unfolding Slow side_of
  side_slow c l s t = pick s
    where
      both_near : (plus t (c.d +ℤ pos 1) ≤ t + 1000) × (plus t (pos 1 -ℤ c.d) ≤ t + 1000)
      both_near =
          near l.lifted 22 c.d l.lifted_in (omega arith) l.distance t

      pick : (s : ℕ) → plus t (side_of c s).weight ≤ t + 1000
      pick zero = both_near.0
      pick (suc s) = both_near.1

  pub all_slow : (ts : List Turn) → Named b ts → (q : Delay) → Memᴰ q (inequalities (clashes b) b ts) → Slow q
  unfolding Named Slow turned
  all_slow ts named =
      each b fits Slow ts (λ q m. delay_slow q.weight (fits.slow q m))
      (λ t m. side_slow (get_or (clashes b) t.clash no_clash) (turn_listed b fits t (named t m)) t.side)

  -- earliest starts, past the jobs too
  earliest_bound : (j : ℕ) → get_or (earliest_starts b) j 0 ≤ most_earliest
  earliest_bound j = go (dec_lt j b.n)
    where
      go : Dec (j < b.n) → get_or (earliest_starts b) j 0 ≤ most_earliest
      go (yes h) = omega (arith, earliest_at b j h, fits.soon j h)
      go (no h) = omega (arith, get_or-eq_default (earliest_starts b) 0 {n = j} (omega (arith, ends_length b)))

  pub starts_bound : (ts : List Turn) → Named b ts → (ss : List ℕ) → starts_at (clashes b) b ts ≡ some ss → (j : ℕ) → start ss j ≤ most_start
  unfolding starts_at after start
  starts_bound ts named ss e j =
      let qs = inequalities (clashes b) b ts in
      let n = length (earliest_starts b) in
      omega (
        arith,
        after_bound qs (earliest_starts b) most_earliest earliest_bound (all_slow ts named) (pred n) j,
        ap (λ (l : List ℕ). get_or l j 0) (least_round (earliest_starts b) (latest_starts b) qs ss e).1,
        ends_length b,
        fits.jobs,
      )

  pub latency_bound : (ts : List Turn) → Named b ts → (ss : List ℕ) → starts_at (clashes b) b ts ≡ some ss → latency b ss ≤ most_latency
  latency_bound ts named ss e = latency_most b ss most_latency (λ i h. omega (arith, starts_bound ts named ss e i, stay_short b i, fits.short i h))
