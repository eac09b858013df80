-- Where a node's rounds begin: the cases of the code, and the ring of rows as it goes on and back. That the starts are at or below every solution is
-- BeginLaws.
use Prim.Native.Nat.{ℕ, zero, suc, ◌+◌, ◌-◌, ◌%◌, ◌≤◌, ◌<◌, max}
use mathlib.Core.Path.{◌≡◌, refl, ap, sym, subst, ◌∙◌}
use mathlib.Core.List.{List}
use native.Mathlib.Omega.{arith}
use native.Mathlib.Decide.{ℕ_discrete}
use lib.ListN.{get_or, set, replicate, length-set, length-replicate, get_or-replicate}
use lib.Seq.{get_or-set_same, get_or-set_other}
use borrow.Author.Tests.{eq-eqb, ne_eqb}
use Rattle.model.specs.declared.Batch.{Batch}
use Rattle.model.specs.declared.Turn.{Turn}
use Rattle.model.specs.Clash.{clashes}
use Rattle.model.specs.Search.{inequalities}
use Rattle.model.proofs.SeqLaws.{listed_cong}
use Rattle.times.specs.Fill.{Small}
use Rattle.times.specs.Latency.{latency_of}
use Rattle.times.proofs.FillLaws.{set_all, zeros_small}
use Rattle.weights.specs.declared.Inequality.{Inequality}
use Rattle.weights.specs.Inequality.{nth}
use Rattle.node.specs.declared.kit.Reach.{Reach}
use Rattle.node.specs.declared.kit.Row.{Row}
use Rattle.node.specs.Walk.{turn_of, turns_in, Kin}
use Rattle.node.specs.Rows.{no_row, SmallRow, raised_start, raised_row, begun, Base, Kept}
use Rattle.node.proofs.BackLaws.{turns_set}

-- ---- the cases of the code

module _ (rows : List Row) (steps : List Inequality) (stays : List ℕ) (first : Reach) where
  abbrev Begun : ℕ → Reach → Type 0
  Begun depth r = r ≡ begun rows steps depth stays first

  pub begun_none : (depth : ℕ) → depth ≡ 0 → Begun depth first
  unfolding begun
  begun_none depth h = rw h

  module _ (last tag : ℕ) (t : tag ≡ (get_or rows (last % 32) no_row).tag) where
    -- the row of the node above
    abbrev low : Reach
    low = (get_or rows (last % 32) no_row).low

    -- no row is there
    pub begun_missed : (depth : ℕ) → (depth ≡ 0 → ⊥) → last ≡ depth - 1 → (tag ≡ last → ⊥) → Begun depth first
    unfolding begun
    begun_missed zero more e h = absurd (more refl)
    begun_missed (suc d) more e h =
        let z : d ≡ last = omega arith in rw (z, ne_eqb (get_or rows (last % 32) no_row).tag last (λ s. h (t ∙ s)))

    -- a row, raised by the last turn; the jobs, the larger sum and the latency are results of calls
    pub begun_raised : (depth : ℕ) → (depth ≡ 0 → ⊥) → last ≡ depth - 1 → tag ≡ last → (i j x most wide latency : ℕ) → i ≡ (nth steps last).from → j ≡ (nth steps last).to
        → most ≡ max (get_or low.starts j 0) x → x ≡ get_or low.starts i 0 + 1000 - (nth steps last).code → wide ≡ get_or stays j 0
        → latency ≡ max low.latency (most + wide) → Begun depth (record { starts = set low.starts j most; latency = latency })
    unfolding begun raised_row raised_start
    begun_raised zero more e h i j x most wide latency a b c s g l = absurd (more refl)
    begun_raised (suc d) more e h i j x most wide latency a b c s g l =
        let z : d ≡ last = omega arith in rw (z, eq-eqb (get_or rows (last % 32) no_row).tag last (sym t ∙ h), l, g, c, s, ← a, ← b)

-- ---- the ring

module _ (b : Batch) (stays : List ℕ) where
  -- a fresh ring has no row
  pub kept_fresh : (turns : List ℕ) (depth : ℕ) → depth ≤ 1024 → Kept b stays turns depth (replicate 32 (record { tag = 65535; low = record { starts = replicate 24 0; latency = 0 } }))
  kept_fresh turns depth h =
      record {
        long = length-replicate 32 fresh;
        small = record { each = rows 32 };
        latency = λ d p e. absurd (omega (arith, tag d));
        under = λ d p e. absurd (omega (arith, tag d));
      }
    where
      fresh : Row
      fresh = record { tag = 65535; low = record { starts = replicate 24 0; latency = 0 } }

      tag : (d : ℕ) → (get_or (replicate 32 fresh) (d % 32) no_row).tag ≡ 65535
      tag d = ap (λ (r : Row). r.tag) (get_or-replicate 32 (d % 32) fresh no_row (omega arith))

      rows : (n k : ℕ) → SmallRow (get_or (replicate n fresh) k no_row)
      rows zero k = record { starts = zeros_small 43016 0; latency = omega arith }
      rows (suc n) zero = record { starts = zeros_small 43016 24; latency = omega arith }
      rows (suc n) (suc k) = rows n k

  -- going back drops rows
  pub kept_back : (turns turns' : List ℕ) (depth left : ℕ) (rows : List Row) → Kept b stays turns depth rows → Kin turns depth turns' left → Kept b stays turns' left rows
  unfolding turns_in
  kept_back turns turns' depth left rows k i =
      record {
        long = k.long;
        small = k.small;
        latency = λ d h e. k.latency d (omega (arith, i.less)) e;
        under = λ d h e.
            subst (λ (ts : List Turn). Base b (inequalities (clashes b) b ts) (get_or rows (d % 32) no_row).low.starts)
            (listed_cong (λ k. turn_of (get_or turns k 0)) (λ k. turn_of (get_or turns' k 0)) d (λ x p. ap turn_of (sym (i.same x (omega arith)))))
            (k.under d (omega (arith, i.less)) e);
      }

  -- one turn more, and the row of the node that takes it
  pub kept_more : (turns : List ℕ) (depth x : ℕ) (rows : List Row) (low : Reach) → Kept b stays turns depth rows
      → Small low.starts 43016 → low.latency ≤ 43016 → low.latency ≡ latency_of stays low.starts 24 → Base b (inequalities (clashes b) b (turns_in turns depth)) low.starts
      → Kept b stays (set turns depth x) (depth + 1) (set rows (depth % 32) (record { tag = depth; low = low }))
  kept_more turns depth x rows low k small most l base =
      record {
        long = length-set rows _ own ∙ k.long;
        small = record { each = set_all SmallRow rows _ own no_row k.small.each (record { starts = small; latency = most }) };
        latency = λ d h e. late d h e (ℕ_discrete (d % 32) (depth % 32));
        under = λ d h e. under d h e (ℕ_discrete (d % 32) (depth % 32));
      }
    where
      -- the node's own row
      own : Row
      own = record { tag = depth; low = low }

      rows' : List Row
      rows' = set rows (depth % 32) own

      here : depth % 32 < 32
      here = omega arith

      -- a row in the new place is the node's own, and another is of a depth above
      own_depth : (d : ℕ) → (get_or rows' (d % 32) no_row).tag ≡ d → d % 32 ≡ depth % 32 → d ≡ depth
      own_depth d e p = sym e ∙ ap (λ (y : ℕ). (get_or rows' y no_row).tag) p ∙ ap (λ (r : Row). r.tag) (get_or-set_same rows (depth % 32) own no_row (omega (arith, k.long)))

      above : (d : ℕ) → d < depth + 1 → ¬ (d % 32 ≡ depth % 32) → d < depth
      above d h p = go (ℕ_discrete d depth)
        where
          go : Dec (d ≡ depth) → d < depth
          go (yes e) = absurd (p (ap (λ (y : ℕ). y % 32) e))
          go (no e) = omega arith

      tag : (d : ℕ) → (get_or rows' (d % 32) no_row).tag ≡ d → ¬ (d % 32 ≡ depth % 32) → (get_or rows (d % 32) no_row).tag ≡ d
      tag d e p = sym (ap (λ (r : Row). r.tag) (get_or-set_other rows (depth % 32) (d % 32) own no_row p)) ∙ e

      late : (d : ℕ) → d < depth + 1 → (get_or rows' (d % 32) no_row).tag ≡ d → Dec (d % 32 ≡ depth % 32)
          → (get_or rows' (d % 32) no_row).low.latency ≡ latency_of stays (get_or rows' (d % 32) no_row).low.starts 24
      late d h e (yes p) = rw (p, get_or-set_same rows (depth % 32) own no_row (omega (arith, k.long))) l
      late d h e (no p) = rw (get_or-set_other rows (depth % 32) (d % 32) own no_row p) (k.latency d (above d h p) (tag d e p))

      under : (d : ℕ) → d < depth + 1 → (get_or rows' (d % 32) no_row).tag ≡ d → Dec (d % 32 ≡ depth % 32)
          → Base b (inequalities (clashes b) b (turns_in (set turns depth x) d)) (get_or rows' (d % 32) no_row).low.starts
      under d h e (yes p) = rw (p, own_depth d e p, turns_set turns depth depth x (omega arith), get_or-set_same rows (depth % 32) own no_row (omega (arith, k.long))) base
      under d h e (no p) =
          rw (turns_set turns d depth x (omega arith), get_or-set_other rows (depth % 32) (d % 32) own no_row p) (k.under d (above d h p) (tag d e p))
