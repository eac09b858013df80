-- The inequality of a turn, as the code stores it, is that of the definitions.
use mathlib.Core.Path.{◌≡◌, ◌∙◌}
use Prim.Native.Nat.{ℕ, zero, suc, ◌+◌, ◌-◌, ◌/◌, ◌%◌, ◌≤◌}
use native.Mathlib.Omega.{arith}
use borrow.Author.Tests.{eq-eqb, ne_eqb}
use Rattle.model.specs.Clash.{Clash}
use Rattle.model.specs.Search.{side_of}
use Rattle.clashes.specs.Code.{code_of}
use Rattle.clashes.specs.First.{Named}
use Rattle.weights.specs.Code.{coded, Fits, ClashFits}
use Rattle.weights.specs.Turn.{turn_from, turn_to, turn_code}
use Rattle.weights.proofs.CodeLaws.{clash_i, clash_j, clash_d, side0_code, side0_limited, side1_code, side1_limited}

-- ---- the cases of the code

module _ (clash turn : ℕ) where
  even_turn : turn % 2 ≡ 0 → (turn_from clash turn ≡ clash / 2048) × ((turn_to clash turn ≡ clash / 64 % 32) × (turn_code clash turn ≡ 1021 - clash % 64))
  unfolding turn_from turn_to turn_code
  even_turn h = let e = eq-eqb (turn % 2) 0 h in (rw e, (rw e, rw e))

  odd_turn : (turn % 2 ≡ 0 → ⊥) → (turn_from clash turn ≡ clash / 64 % 32) × ((turn_to clash turn ≡ clash / 2048) × (turn_code clash turn ≡ clash % 64 + 977))
  unfolding turn_from turn_to turn_code
  odd_turn h = let e = ne_eqb (turn % 2) 0 h in (rw e, (rw e, rw e))

-- ---- the definition

module _ (n : ℕ) (few : n ≤ 24) (c : Clash) (f : ClashFits n c) where
  pub clash_named : Named (code_of c)
  clash_named = record { first = omega (arith, clash_i n few c f, f.i); second = omega (arith, clash_j n few c f, f.j) }

  -- what is stored for a side of a clash: its jobs, its weight's code, and that it is within its limits
  pub turn_side : (s turn : ℕ) → s ≤ 1 → turn % 2 ≡ s
      → (turn_from (code_of c) turn ≡ (side_of c s).from) × ((turn_to (code_of c) turn ≡ (side_of c s).to) × ((turn_code (code_of c) turn ≡ coded (side_of c s).weight) × Fits n (side_of c s)))
  unfolding side_of
  turn_side zero turn g p =
      let t = even_turn (code_of c) turn p in (
        t.0 ∙ clash_i n few c f,
        (
          t.1.0 ∙ clash_j n few c f,
          (
            t.1.1 ∙ omega (arith, clash_d n few c f, side0_code c.d f.low f.high),
            record { from = f.i; to = f.j; weight = side0_limited c.d f.low f.high },
          ),
        ),
      )
  turn_side (suc zero) turn g p =
      let t = odd_turn (code_of c) turn (λ z. omega arith) in (
        t.0 ∙ clash_j n few c f,
        (
          t.1.0 ∙ clash_i n few c f,
          (
            t.1.1 ∙ omega (arith, clash_d n few c f, side1_code c.d f.low f.high),
            record { from = f.j; to = f.i; weight = side1_limited c.d f.low f.high },
          ),
        ),
      )
  turn_side (suc (suc s)) turn g p = absurd (omega arith)
