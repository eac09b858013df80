-- Going back: the turns after the last one on side 0 are dropped, and that one is set to side 1. What follows from it for the nodes
-- that a path leaves open, which is why a search ends and why it misses no plan.
use Rattle.std.specs.Prelude.{if◌then◌else◌}
use Prim.Native.Nat.{ℕ, zero, suc, ◌+◌, ◌-◌, ◌^◌, ◌≤◌, ◌<◌}
use mathlib.Core.Path.{◌≡◌, refl, ap}
use mathlib.Core.Logic.{◌⊎◌, inl, inr}
use mathlib.Core.Bool.{Bool, true, false}
use mathlib.Core.Option.{Option, none, some}
use mathlib.Core.List.Memᴰ
use mathlib.Core.List.{List, [], ◌∷◌, ◌++◌, map, Memᴰ}
use native.Mathlib.Omega.{arith}
use native.Mathlib.Nat.{pow-suc}
use lib.Pow.{pow_pos}
use lib.ListN.{length}
use lib.Dec.{eqb}
use borrow.Author.Tests.{eqb-true, eqb-false}
use Rattle.model.specs.declared.Turn.{Turn}
use Rattle.model.specs.Search.{next_side, moved_on, turned_back}
use Rattle.model.proofs.StartsLaws.{Different}

-- ---- what going back does

-- a turn set to side 1
abbrev pub flip : Turn → Turn
flip t = record { clash = t.clash; side = 1 }

-- no turn is on side 0
abbrev pub Done : List Turn → Type 0
Done [] = Unit {0}
Done (t ∷ ts) = (¬ (t.side ≡ 0)) × Done ts

-- the second path is the first one gone back
pub data Backed : List Turn → List Turn → Type 0 where
  here : {t : Turn} {ts : List Turn} → t.side ≡ 0 → Done ts → Backed (t ∷ ts) (flip t ∷ [])
  later : {t : Turn} {ts us : List Turn} → Backed ts us → Backed (t ∷ ts) (t ∷ us)

abbrev pub BackTo : List Turn → Option (List Turn) → Type 0
BackTo ts none = Done ts
BackTo ts (some us) = Backed ts us

pub back_is : (ts : List Turn) → BackTo ts (turned_back ts)
unfolding turned_back next_side moved_on
back_is [] = tt
back_is (t ∷ ts) = go (turned_back ts) (back_is ts) (eqb t.side 0) refl
  where
    go : (o : Option (List Turn)) → BackTo ts o → (p : Bool) → eqb t.side 0 ≡ p → BackTo (t ∷ ts) (moved_on t o (if p then some (flip t) else none))
    go (some us) h p e = later h
    go none h true e = here (eqb-true t.side 0 e) h
    go none h false e = (eqb-false t.side 0 e, h)

-- ---- it names no new clash, and keeps different clashes different

unfoldable pub numbers : List Turn → List ℕ
numbers ts = map (λ (t : Turn). t.clash) ts

pub back_numbers : {ts us : List Turn} → Backed ts us → (x : ℕ) → Memᴰ x (numbers us) → Memᴰ x (numbers ts)
unfolding numbers
back_numbers (here e d) x m = Memᴰ.head (Memᴰ.eq_of_singleton m)
back_numbers (later {t} {ts} {us} h) x m = go (Memᴰ.cases_cons m) (λ k. back_numbers h x k)
  where
    go : (x ≡ t.clash) ⊎ Memᴰ x (numbers us) → (Memᴰ x (numbers us) → Memᴰ x (numbers ts)) → Memᴰ x (t.clash ∷ numbers ts)
    go (inl q) rec = Memᴰ.head q
    go (inr k) rec = Memᴰ.tail (rec k)

pub back_different : {ts us : List Turn} → Backed ts us → Different (numbers ts) → Different (numbers us)
unfolding numbers
back_different (here e d) h = (λ m. Memᴰ.not-nil m, tt)
back_different (later {t} b) h = (λ m. h.0 (back_numbers b t.clash m), back_different b h.1)

-- its sides are those of the path, or 1
pub back_sides : {ts us : List Turn} → Backed ts us → ((t : Turn) → Memᴰ t ts → t.side ≤ 1) → (t : Turn) → Memᴰ t us → t.side ≤ 1
back_sides (here e d) h t m = omega (arith, ap (λ (u : Turn). u.side) (Memᴰ.eq_of_singleton m))
back_sides (later {t = s} {us} b) h t m = go (Memᴰ.cases_cons m) (λ k. back_sides b (λ u n. h u (Memᴰ.tail n)) t k)
  where
    go : (t ≡ s) ⊎ Memᴰ t us → (Memᴰ t us → t.side ≤ 1) → t.side ≤ 1
    go (inl q) rec = h t (Memᴰ.head q)
    go (inr k) rec = rec k

-- ---- how many nodes a path leaves open

-- nodes of a whole tree over r clashes
unfoldable pub tree : ℕ → ℕ
tree r = 2 ^ suc r - 1

-- the tree on the other side of a turn on side 0
unfoldable pub pending : Turn → ℕ → ℕ
pending t r = if eqb t.side 0 then 2 ^ r - 1 else 0

-- nodes left open by a path, r clashes not yet turned on
unfoldable pub left : ℕ → List Turn → ℕ
left r [] = tree r
left r (t ∷ ts) = pending t r + left (r - 1) ts

pub left_pos : (r : ℕ) (ts : List Turn) → 0 < left r ts
unfolding left tree
left_pos r [] = omega (arith, pow-suc 2 r, pow_pos r)
left_pos r (t ∷ ts) = omega (arith, left_pos (r - 1) ts)

down : (r : ℕ) → suc r - 1 ≡ r
down r = omega arith

-- one more turn on side 0 leaves one node less
pub left_append : (r : ℕ) (ts : List Turn) (k : ℕ) → length ts < r → suc (left r (ts ++ (record { clash = k; side = 0 } ∷ []))) ≡ left r ts
unfolding left pending tree
left_append zero [] k h = absurd (omega arith)
left_append (suc r) [] k h = omega (arith, ap (λ (z : ℕ). 2 ^ suc z) (down r), pow-suc 2 (suc r), pow_pos (suc r))
left_append r (t ∷ ts) k h = omega (arith, left_append (r - 1) ts k (omega arith))

-- going back leaves less
pub left_back : (r : ℕ) {ts us : List Turn} → Backed ts us → length ts ≤ r → left r us < left r ts
unfolding left pending tree
left_back zero (here e d) h = absurd (omega arith)
left_back (suc r) (here {t} {ts} e d) h =
    rw e (omega (arith, ap (λ (z : ℕ). 2 ^ suc z) (down r), left_pos (suc r - 1) ts))
left_back r (later b) h = omega (arith, left_back (r - 1) b (omega arith))

-- ---- which plans a path leaves open. K t says that some plan keeps the turn t

module _ (K : Turn → Type 0) where
  -- it keeps the present path
  abbrev pub Present : List Turn → Type 0
  Present [] = Unit {0}
  Present (t ∷ ts) = K t × Present ts

  -- it keeps the path up to some turn of side 0, with that turn on side 1
  abbrev pub Pending : List Turn → Type 0
  Pending [] = ⊥
  Pending (t ∷ ts) = (K t × Pending ts) ⊎ ((t.side ≡ 0) × K (flip t))

  abbrev pub Open : List Turn → Type 0
  Open ts = Present ts ⊎ Pending ts

  open_later : {t : Turn} (ts : List Turn) → K t → Open ts → Open (t ∷ ts)
  open_later ts k (inl h) = inl (k, h)
  open_later ts k (inr h) = inr (inl (k, h))

  pub pending_done : (ts : List Turn) → Done ts → Pending ts → ⊥
  pending_done [] d h = h
  pending_done (t ∷ ts) d (inl h) = pending_done ts d.1 h.1
  pending_done (t ∷ ts) d (inr h) = d.0 h.0

  pub pending_open : {ts us : List Turn} → Backed ts us → Pending ts → Open us
  pending_open (here {t} {ts} e d) (inl h) = absurd (pending_done ts d h.1)
  pending_open (here e d) (inr h) = inl (h.1, tt)
  pending_open (later {us = us} b) (inl h) = open_later us h.0 (pending_open b h.1)
  pending_open (later b) (inr h) = inr (inr h)

  -- a turn on side 0 leaves open what keeps one of its sides
  pub open_append : (ts : List Turn) (t : Turn) → t.side ≡ 0 → K t ⊎ K (flip t) → Open ts → Open (ts ++ (t ∷ []))
  open_append [] t e (inl k) o = inl (k, tt)
  open_append [] t e (inr k) o = inr (inr (e, k))
  open_append (u ∷ ts) t e s (inl h) = open_later (ts ++ (t ∷ [])) h.0 (open_append ts t e s (inl h.1))
  open_append (u ∷ ts) t e s (inr (inl h)) = open_later (ts ++ (t ∷ [])) h.0 (open_append ts t e s (inr h.1))
  open_append (u ∷ ts) t e s (inr (inr h)) = inr (inr h)

  pub present_all : (ts : List Turn) → Present ts → (t : Turn) → Memᴰ t ts → K t
  present_all [] h t m = absurd (Memᴰ.not-nil m)
  present_all (u ∷ ts) h t m = go (Memᴰ.cases_cons m) (present_all ts h.1 t)
    where
      go : (t ≡ u) ⊎ Memᴰ t ts → (Memᴰ t ts → K t) → K t
      go (inl e) rec = rw e h.0
      go (inr n) rec = rec n
