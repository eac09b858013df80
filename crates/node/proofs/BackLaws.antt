-- Going back over the array: a last turn of side 1 is dropped, and a last turn of side 0 is set to side 1.
use Prim.Native.Nat.{ℕ, suc, ◌+◌, ◌-◌, ◌/◌, ◌%◌, ◌≤◌, ◌<◌}
use mathlib.Core.Path.{◌≡◌, refl, ap, sym, ◌∙◌}
use mathlib.Core.List.{List, [], ◌∷◌, ◌++◌}
use mathlib.Core.Option.{Option, none, some}
use native.Mathlib.Omega.{arith}
use native.Mathlib.Decide.{ℕ_discrete}
use lib.ListN.{length, get_or, set, length-set}
use lib.Seq.{get_or-set_same, get_or-set_other}
use borrow.Author.Tests.{eq-eqb, ne_eqb}
use Rattle.model.specs.declared.Turn.{Turn}
use Rattle.model.specs.Common.{count}
use Rattle.model.specs.Search.{next_side, moved_on, turned_back}
use Rattle.model.proofs.SeqLaws.{listed_snoc, listed_cong}
use Rattle.node.specs.Walk.{turn_of, turns_in, Path, Kin, back_as}

-- ---- going back from the end of a list

module _ (t : Turn) where
  back_drop : next_side t ≡ none → (ts : List Turn) → turned_back (ts ++ (t ∷ [])) ≡ turned_back ts
  unfolding turned_back moved_on
  back_drop e [] = ap (moved_on t none) e
  back_drop e (u ∷ ts) = ap (λ (o : Option (List Turn)). moved_on u o (next_side u)) (back_drop e ts)

  back_move : (u : Turn) → next_side t ≡ some u → (ts : List Turn) → turned_back (ts ++ (t ∷ [])) ≡ some (ts ++ (u ∷ []))
  unfolding turned_back moved_on
  back_move u e [] = ap (moved_on t none) e
  back_move u e (v ∷ ts) = ap (λ (o : Option (List Turn)). moved_on v o (next_side v)) (back_move u e ts)

-- ---- the same over the array

pub turns_more : (turns : List ℕ) (d : ℕ) → turns_in turns (suc d) ≡ turns_in turns d ++ (turn_of (get_or turns d 0) ∷ [])
unfolding turns_in
turns_more turns d = listed_snoc (λ k. turn_of (get_or turns k 0)) d

-- a place past them does not matter
pub turns_set : (turns : List ℕ) (d k x : ℕ) → d ≤ k → turns_in (set turns k x) d ≡ turns_in turns d
unfolding turns_in
turns_set turns d k x h =
    listed_cong (λ i. turn_of (get_or (set turns k x) i 0)) (λ i. turn_of (get_or turns i 0)) d
    (λ i p. ap turn_of (get_or-set_other turns k i x 0 (λ e. omega arith)))

pub back_none : (turns : List ℕ) → none ≡ turned_back (turns_in turns 0)
unfolding turns_in count turned_back
back_none turns = refl

-- a turn of side 1 at the end
pub back_odd : (turns : List ℕ) (left last turn : ℕ) → 0 < left → last ≡ left - 1 → turn ≡ get_or turns last 0 → ¬ (turn % 2 ≡ 0) → turned_back (turns_in turns left) ≡ turned_back (turns_in turns last)
unfolding turn_of next_side
back_odd turns left last turn h e p q =
    let z : left ≡ suc last = omega arith in
    ap (λ (d : ℕ). turned_back (turns_in turns d)) z ∙ ap turned_back (turns_more turns last)
    ∙ back_drop (turn_of (get_or turns last 0)) (rw (ne_eqb (get_or turns last 0 % 2) 0 (λ r. q (ap (λ (x : ℕ). x % 2) p ∙ r)))) (turns_in turns last)

flipped : (x turn : ℕ) → turn ≡ x → turn % 2 ≡ 0 → next_side (turn_of x) ≡ some (turn_of (turn + 1))
unfolding turn_of next_side
flipped x turn p q =
    let a : (turn + 1) / 2 ≡ x / 2 = omega arith in
    let b : (turn + 1) % 2 ≡ 1 = omega arith in
    let c : x % 2 ≡ 0 = omega arith in
    rw (eq-eqb (x % 2) 0 c, a, b)

-- a turn of side 0 at the end
pub back_even : (turns : List ℕ) (left last turn : ℕ) → 0 < left → left ≤ length turns → last ≡ left - 1 → turn ≡ get_or turns last 0 → turn % 2 ≡ 0 → back_as (set turns last (turn + 1)) left ≡ turned_back (turns_in turns left)
unfolding back_as
back_even turns left last turn h l e p q =
    let z : left ≡ suc last = omega arith in
    ap (back_as (set turns last (turn + 1))) z
    ∙ sym (ap (λ (d : ℕ). turned_back (turns_in turns d)) z ∙ ap turned_back (turns_more turns last)
    ∙ back_move (turn_of (get_or turns last 0)) (turn_of (turn + 1)) moved (turns_in turns last)
    ∙ ap some (sym (turns_more (set turns last (turn + 1)) last ∙ tail)))
  where
    moved : next_side (turn_of (get_or turns last 0)) ≡ some (turn_of (turn + 1))
    moved = flipped (get_or turns last 0) turn p q

    tail : turns_in (set turns last (turn + 1)) last ++ (turn_of (get_or (set turns last (turn + 1)) last 0) ∷ []) ≡ turns_in turns last ++ (turn_of (turn + 1) ∷ [])
    tail = rw (turns_set turns last last (turn + 1) (omega arith), get_or-set_same turns last (turn + 1) 0 (omega arith))

-- ---- the array stays a path

-- a shorter one
pub path_less : (turns : List ℕ) (d e : ℕ) → Path turns d → e ≤ d → Path turns e
path_less turns d e p h = record { full = p.full; deep = omega (arith, p.deep); small = λ k l. p.small k (omega arith) }

-- with a turn stored at its end
pub path_set : (turns : List ℕ) (left last x : ℕ) → Path turns last → last < 1024 → left ≡ last + 1 → x < 2048 → Path (set turns last x) left
path_set turns left last x p l e h =
    record {
      full = length-set turns last x ∙ p.full;
      deep = omega arith;
      small = λ k g. go k (ℕ_discrete k last) g;
    }
  where
    go : (k : ℕ) → Dec (k ≡ last) → k < left → get_or (set turns last x) k 0 < 2048
    go k (yes q) g = rw (q, get_or-set_same turns last x 0 (omega (arith, p.full))) h
    go k (no q) g = rw (get_or-set_other turns last k x 0 q) (p.small k (omega arith))

-- ---- the loop of `go_back`: while turns are dropped, what is left of the rest is what is left of all

abbrev pub Dropping : List ℕ → ℕ → List ℕ → ℕ → Type 0
Dropping turns₀ depth turns left = (turns ≡ turns₀) × (left ≤ depth) × (turned_back (turns_in turns₀ left) ≡ turned_back (turns_in turns₀ depth))

module _ (turns₀ : List ℕ) (depth : ℕ) (p : Path turns₀ depth) (turns : List ℕ) (left : ℕ) (d : Dropping turns₀ depth turns left) where
  -- the last turn is small, so that 1 more fits
  pub last_small : 0 < left → get_or turns (left - 1) 0 < 2048
  last_small h = rw d.0 (p.small (left - 1) (omega (arith, d.1)))

  pub dropped_all : left ≤ 0 → (back_as turns 0 ≡ turned_back (turns_in turns₀ depth)) × (Path turns 0 × Kin turns₀ depth turns 0)
  unfolding back_as
  dropped_all h =
      let z : 0 ≡ left = omega arith in (
        back_none turns₀ ∙ ap (λ (k : ℕ). turned_back (turns_in turns₀ k)) z ∙ d.2,
        (
          rw d.0 (path_less turns₀ depth 0 p (omega arith)),
          record { less = omega arith; same = λ k l. absurd (omega arith); clash = λ k l. absurd (omega arith) },
        ),
      )

  pub drops : 0 < left → ¬ (get_or turns (left - 1) 0 % 2 ≡ 0) → Dropping turns₀ depth turns (left - 1)
  drops h q =
      (d.0, omega (arith, d.1), sym (back_odd turns₀ left (left - 1) (get_or turns (left - 1) 0) h refl (ap (λ (l : List ℕ). get_or l (left - 1) 0) d.0) q) ∙ d.2)

  pub moves : 0 < left → get_or turns (left - 1) 0 % 2 ≡ 0 → (back_as (set turns (left - 1) (get_or turns (left - 1) 0 + 1)) left ≡ turned_back (turns_in turns₀ depth)) × (Path (set turns (left - 1) (get_or turns (left - 1) 0 + 1)) left × Kin turns₀ depth (set turns (left - 1) (get_or turns (left - 1) 0 + 1)) left)
  moves h q = (
    back_even turns left (left - 1) (get_or turns (left - 1) 0) h (omega (arith, p.full, p.deep, ap length d.0, d.1)) refl refl q
        ∙ ap (λ (l : List ℕ). turned_back (turns_in l left)) d.0 ∙ d.2,
    (
      path_set turns left (left - 1) (get_or turns (left - 1) 0 + 1) (rw d.0 (path_less turns₀ depth (left - 1) p (omega (arith, d.1)))) (omega (arith, p.deep, d.1)) (omega arith)
          (omega (arith, last_small h)),
      record {
        less = d.1;
        same = λ k l. get_or-set_other turns (left - 1) k _ 0 (λ e. omega arith) ∙ ap (λ (l : List ℕ). get_or l k 0) d.0;
        clash = λ k l.
            let e : k ≡ left - 1 = omega arith in
            rw e (omega (arith, get_or-set_same turns (left - 1) (get_or turns (left - 1) 0 + 1) 0 (omega (arith, p.full, p.deep, ap length d.0, d.1)), ap (λ (l : List ℕ). get_or l (left - 1) 0) d.0));
      },
    ),
  )
