-- Where a node's rounds begin is at or below every solution: a child begins with its parent's starts, raised by the inequality that it has more.
use Rattle.std.specs.Prelude.{if◌then◌else◌}
use Prim.Native.Nat.{ℕ, zero, suc, ◌%◌, ◌≤◌, ◌<◌}
use mathlib.Core.Path.{◌≡◌, refl, ap, sym, ◌∙◌}
use mathlib.Core.Bool.{Bool, true, false}
use mathlib.Core.List.Memᴰ
use mathlib.Core.List.{List, [], ◌∷◌, ◌++◌, map, Memᴰ}
use native.Mathlib.Omega.{arith}
use native.Mathlib.Decide.{ℕ_discrete}
use lib.Dec.{eqb}
use lib.ListN.{length, get_or, set, length-set}
use lib.Seq.{get_or-set_same, get_or-set_other, ext_get_or}
use borrow.Author.Tests.{eqb-true}
use Rattle.model.specs.declared.Batch.{Batch}
use Rattle.model.specs.declared.Delay.{Delay}
use Rattle.model.specs.declared.Turn.{Turn}
use Rattle.model.specs.Common.{pad}
use Rattle.model.specs.Batch.{delays_of, earliest_starts, latest_starts}
use Rattle.model.specs.Clash.{clashes}
use Rattle.model.specs.Search.{turned, inequalities}
use Rattle.model.proofs.SeqLaws.{pad_at, pad_length, map_snoc}
use Rattle.model.proofs.StartsLaws.{ends_length}
use Rattle.model.proofs.UnderLaws.{Below, under_first, under_path, under_raised}
use Rattle.times.specs.Ends.{earliest_read}
use Rattle.times.specs.Latency.{latency_of}
use Rattle.times.proofs.LatencyLaws.{latency_set}
use Rattle.times.proofs.EndsLaws.{earliest_is}
use Rattle.weights.specs.declared.Inequality.{Inequality}
use Rattle.weights.specs.Inequality.{nth}
use Rattle.weights.specs.Code.{coded, Fits}
use Rattle.weights.proofs.CodeLaws.{coded_most, plus_coded}
use Rattle.node.specs.declared.kit.Reach.{Reach}
use Rattle.node.specs.declared.kit.Row.{Row}
use Rattle.node.specs.Walk.{turn_of, turns_in}
use Rattle.node.specs.Rows.{no_row, raised_start, raised_row, begun, Base, Kept}
use Rattle.node.proofs.BackLaws.{turns_more}

-- one start of a padded row
pad_set : (ss : List ℕ) (j v : ℕ) → length ss ≤ 24 → j < length ss → set (pad 24 0 ss) j v ≡ pad 24 0 (set ss j v)
pad_set ss j v few h =
    ext_get_or 0 (set (pad 24 0 ss) j v) (pad 24 0 (set ss j v))
    (length-set (pad 24 0 ss) j v ∙ pad_length 24 0 ss few ∙ sym (pad_length 24 0 (set ss j v) (omega (arith, length-set ss j v))))
    (λ i p. go i (ℕ_discrete i j))
  where
    go : (i : ℕ) → Dec (i ≡ j) → get_or (set (pad 24 0 ss) j v) i 0 ≡ get_or (pad 24 0 (set ss j v)) i 0
    go i (yes e) =
        rw (e, pad_at 24 0 (set ss j v) j, get_or-set_same ss j v 0 h)
        (get_or-set_same (pad 24 0 ss) j v 0 (omega (arith, pad_length 24 0 ss few)))
    go i (no e) =
        get_or-set_other (pad 24 0 ss) j i v 0 e ∙ pad_at 24 0 ss i ∙ sym (pad_at 24 0 (set ss j v) i ∙ get_or-set_other ss j i v 0 e)

module _ (b : Batch) (few : b.n ≤ 24) where
  -- the earliest starts
  base_none : (qs : List Delay) → Base b qs (earliest_read b)
  base_none qs = record { jobs = earliest_starts b; long = ends_length b; padded = earliest_is b few; under = under_first (earliest_starts b) (latest_starts b) qs }

  -- a child begins with its parent's starts, raised by the inequality that it has more
  module _ (ts : List Turn) (t : Turn) (f : Fits b.n (turned (clashes b) t)) where
    abbrev q : Delay
    q = turned (clashes b) t

    abbrev more : List Delay
    more = inequalities (clashes b) b (ts ++ (t ∷ []))

    listed : Memᴰ q more
    unfolding inequalities
    listed = Memᴰ.append_right (delays_of b) (rw (map_snoc (turned (clashes b)) ts t) (Memᴰ.append_right (map (turned (clashes b)) ts) (Memᴰ.head refl)))

    -- the row with the start raised
    abbrev raised : List ℕ → List ℕ
    raised row = set row q.to (raised_start row q.from q.to (coded q.weight))

    padded_raised : (ss : List ℕ) → length ss ≡ b.n → raised (pad 24 0 ss) ≡ pad 24 0 (raised ss)
    unfolding raised_start
    padded_raised ss long = rw (pad_at 24 0 ss q.to, pad_at 24 0 ss q.from) (pad_set ss q.to _ (omega arith) (omega (arith, f.to)))

    under_more : (ss : List ℕ) → length ss ≡ b.n → Below b (inequalities (clashes b) b ts) ss → Below b more (raised ss)
    unfolding raised_start
    under_more ss long u =
        under_raised (earliest_starts b) (latest_starts b) more ss q listed (under_path (clashes b) b ts (t ∷ []) ss u) (raised ss) (λ j e. get_or-set_other ss q.to j _ 0 e)
        (omega (arith, get_or-set_same ss q.to (raised_start ss q.from q.to (coded q.weight)) 0 (omega (arith, f.to)), plus_coded (get_or ss q.from 0) q.weight f.weight, coded_most q.weight f.weight))

    base_raised : (row : List ℕ) → Base b (inequalities (clashes b) b ts) row → Base b more (raised row)
    base_raised row base =
        record {
          jobs = raised base.jobs;
          long = length-set base.jobs q.to _ ∙ base.long;
          padded = ap raised base.padded ∙ padded_raised base.jobs base.long;
          under = under_more base.jobs base.long base.under;
        }

  module _ (stays turns : List ℕ) (rows : List Row) (steps : List Inequality) (latency₀ : ℕ) (l : latency₀ ≡ latency_of stays (earliest_read b) 24) where
    -- the earliest starts, as a node begins with them
    abbrev first : Reach
    first = record { starts = earliest_read b; latency = latency₀ }

    -- what a node begins with
    pub record Begins (depth : ℕ) (made : Reach) : Type 0 where
      pub base : Base b (inequalities (clashes b) b (turns_in turns depth)) made.starts
      pub latency : made.latency ≡ latency_of stays made.starts 24

    begins_none : (depth : ℕ) → Begins depth first
    begins_none depth = record { base = base_none _; latency = l }

    -- the inequality of the last turn
    abbrev pub last_of : ℕ → Delay
    last_of last = turned (clashes b) (turn_of (get_or turns last 0))

    begins_raised : (last : ℕ) → Base b (inequalities (clashes b) b (turns_in turns last)) (get_or rows (last % 32) no_row).low.starts → (get_or rows (last % 32) no_row).low.latency ≡ latency_of stays (get_or rows (last % 32) no_row).low.starts 24
        → Fits b.n (last_of last) → (nth steps last).from ≡ (last_of last).from → (nth steps last).to ≡ (last_of last).to → (nth steps last).code ≡ coded (last_of last).weight
        → Begins (suc last) (raised_row (get_or rows (last % 32) no_row).low (nth steps last).from (nth steps last).to (nth steps last).code stays)
    unfolding raised_row raised_start
    begins_raised last base g f p q r =
        rw (p, q, r)
        (record {
          base = rw (turns_more turns last) (base_raised (turns_in turns last) (turn_of (get_or turns last 0)) f row base);
          latency = omega (arith, g, latency_set stays row (last_of last).to (raised_start row (last_of last).from (last_of last).to (coded (last_of last).weight)) (omega (arith, long, f.to)) (omega arith) 24 (omega (arith, f.to)));
        })
      where
        row : List ℕ
        row = (get_or rows (last % 32) no_row).low.starts

        long : length row ≡ 24
        long = ap length base.padded ∙ pad_length 24 0 base.jobs (omega (arith, base.long))

    pub begins : (depth : ℕ) → Kept b stays turns depth rows
        → ((last : ℕ) → last < depth → Fits b.n (last_of last) × (((nth steps last).from ≡ (last_of last).from) × (((nth steps last).to ≡ (last_of last).to) × ((nth steps last).code ≡ coded (last_of last).weight))))
        → Begins depth (begun rows steps depth stays first)
    unfolding begun
    begins zero k s = begins_none 0
    begins (suc last) k s = go (eqb (get_or rows (last % 32) no_row).tag last) refl
      where
        go : (p : Bool) → eqb (get_or rows (last % 32) no_row).tag last ≡ p
            → Begins (suc last) (if p then raised_row (get_or rows (last % 32) no_row).low (nth steps last).from (nth steps last).to (nth steps last).code stays else first)
        go true e =
            let tagged = eqb-true (get_or rows (last % 32) no_row).tag last e in
            let step = s last (omega arith) in
            begins_raised last (k.under last (omega arith) tagged) (k.latency last (omega arith) tagged) step.0 step.1.0 step.1.1.0 step.1.1.1
        go false e = begins_none (suc last)
