-- One turn tested by marks: the marks are on the clashes seen so far, so that each turn is tested against them in one step.
use Prim.Native.Nat.{ℕ, ◌≤◌, ◌<◌}
use mathlib.Core.Path.{◌≡◌, refl, ap, sym, ◌∙◌}
use mathlib.Core.Bool.{Bool, true, false, ◌&&◌, ◌||◌, not}
use Rattle.std.proofs.Math.Bool.{or-true, or-false}
use mathlib.Core.List.{List, [], ◌∷◌, ◌++◌}
use native.Mathlib.Decide.{ℕ_discrete}
use native.Mathlib.Omega.{arith}
use lib.ListN.{length, get_or, set, replicate}
use lib.Seq.{get_or-set_same, get_or-set_other}
use lib.Dec.{leb, ltb, eqb}
use borrow.Author.Tests.{ltb-true, leb-true, eq-eqb, ne_eqb}
use Rattle.model.specs.declared.Turn.{Turn}
use Rattle.model.specs.Common.{any}
use Rattle.model.proofs.BoolLaws.{both}
use Rattle.model.proofs.SeqLaws.{blanks_at}
use Rattle.model.proofs.BackLaws.{numbers}
use Rattle.model.proofs.GoodLaws.{numbers_append}
use Rattle.soundness.specs.Path.{turn_new}
use Rattle.soundness.proofs.TurnLaws.{any_snoc, may_follow}

-- a turn that is tested has a clash below D, and side 0 or 1
pub new_clash : (D : ℕ) (marks : List Bool) (t : Turn) → turn_new D marks t ≡ true → t.clash < D
unfolding turn_new
new_clash D marks t e =
    ltb-true t.clash D (both (ltb t.clash D) (leb t.side 1) (both (ltb t.clash D && leb t.side 1) (not (get_or marks t.clash false)) e).0).0

pub new_side : (D : ℕ) (marks : List Bool) (t : Turn) → turn_new D marks t ≡ true → t.side ≤ 1
unfolding turn_new
new_side D marks t e =
    leb-true t.side 1 (both (ltb t.clash D) (leb t.side 1) (both (ltb t.clash D && leb t.side 1) (not (get_or marks t.clash false)) e).0).1

-- ---- marks

-- the marks are on the clashes of these turns
unfoldable pub Marked : List Bool → List Turn → Type 0
Marked marks ts = (c : ℕ) → c < 1024 → get_or marks c false ≡ any (eqb c) (numbers ts)

-- so the test by marks is the test against the turns before
pub new_follows : (D : ℕ) (marks : List Bool) (ts : List Turn) (t : Turn) → D ≤ 1024 → Marked marks ts → turn_new D marks t ≡ may_follow D ts t
unfolding Marked turn_new may_follow
new_follows D marks ts t few m = go (ltb t.clash D) refl
  where
    go : (p : Bool) → ltb t.clash D ≡ p → ((p && leb t.side 1) && not (get_or marks t.clash false)) ≡ ((p && leb t.side 1) && not (any (eqb t.clash) (numbers ts)))
    go true e = ap (λ (x : Bool). leb t.side 1 && not x) (m t.clash (omega (arith, ltb-true t.clash D e)))
    go false e = refl

pub none_marked : Marked (replicate 1024 false) []
unfolding Marked any numbers
none_marked c h = blanks_at 1024 c false

pub one_marked : (marks : List Bool) (ts : List Turn) (t : Turn) → length marks ≡ 1024 → t.clash < 1024 → Marked marks ts → Marked (set marks t.clash true) (ts ++ (t ∷ []))
unfolding Marked
one_marked marks ts t l h m c g =
    go (ℕ_discrete c t.clash) ∙ sym (any_snoc (eqb c) (numbers ts) t.clash) ∙ ap (any (eqb c)) (sym (numbers_append ts t))
  where
    go : Dec (c ≡ t.clash) → get_or (set marks t.clash true) c false ≡ (any (eqb c) (numbers ts) || eqb c t.clash)
    go (yes e) =
        ap (λ (x : ℕ). get_or (set marks t.clash true) x false) e
        ∙ get_or-set_same marks t.clash true false (omega arith)
        ∙ sym (ap (λ (x : Bool). any (eqb c) (numbers ts) || x) (eq-eqb c t.clash e) ∙ or-true (any (eqb c) (numbers ts)))
    go (no e) =
        get_or-set_other marks t.clash c true false e
        ∙ m c g
        ∙ sym (ap (λ (x : Bool). any (eqb c) (numbers ts) || x) (ne_eqb c t.clash e) ∙ or-false (any (eqb c) (numbers ts)))
