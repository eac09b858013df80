-- The items before the first that fails a test: they all pass, the next one fails, and a second test that they pass and the next one
-- fails stops at the same place.
use Prim.Native.Nat.{ℕ, zero, suc, ◌<◌}
use mathlib.Core.Path.{◌≡◌, refl, ap, sym, ◌∙◌}
use mathlib.Core.Bool.{Bool, true, false}
use mathlib.Core.List.{List, [], ◌∷◌}
use native.Mathlib.Omega.{arith}
use lib.ListN.{length, get_or}
use Rattle.model.specs.Common.{all, up_to}

-- a list passes where its first item and the others do
pub all_cons : (f : ℕ → Bool) (x : ℕ) (xs : List ℕ) → f x ≡ true → all f xs ≡ true → all f (x ∷ xs) ≡ true
unfolding all
all_cons f x xs h k = rw (h, all) k

-- and only there
pub all_uncons : (f : ℕ → Bool) (x : ℕ) (xs : List ℕ) → all f (x ∷ xs) ≡ true → (f x ≡ true) × (all f xs ≡ true)
unfolding all
all_uncons f x xs e = go (f x) refl e
  where
    go : (p : Bool) → f x ≡ p → elim p [ true ↦ all f xs | false ↦ false ] ≡ true → (f x ≡ true) × (all f xs ≡ true)
    go true h e = (h, e)
    go false h e = let z : ◌≡◌ {A = ℕ} 0 1 = cc in absurd (omega arith)

-- what passes a test passes a weaker one
pub all_weaken : (f g : ℕ → Bool) → ((x : ℕ) → f x ≡ true → g x ≡ true) → (xs : List ℕ) → all f xs ≡ true → all g xs ≡ true
unfolding all
all_weaken f g imp [] e = refl
all_weaken f g imp (x ∷ xs) e =
    let h = all_uncons f x xs e in
    all_cons g x xs (imp x h.0) (all_weaken f g imp xs h.1)

-- an item that passes is kept
pub up_to_pass : (f : ℕ → Bool) (x : ℕ) (xs : List ℕ) → f x ≡ true → up_to f (x ∷ xs) ≡ x ∷ up_to f xs
unfolding up_to
up_to_pass f x xs h = rw (h, up_to)

-- an item that fails ends the list
pub up_to_fail : (f : ℕ → Bool) (x : ℕ) (xs : List ℕ) → f x ≡ false → up_to f (x ∷ xs) ≡ []
unfolding up_to
up_to_fail f x xs h = rw (h, up_to)

-- the items before the first that fails all pass
pub up_to_all : (f : ℕ → Bool) (xs : List ℕ) → all f (up_to f xs) ≡ true
unfolding up_to all
up_to_all f [] = refl
up_to_all f (x ∷ xs) = go (f x) refl (up_to_all f xs)
  where
    go : (p : Bool) → f x ≡ p → all f (up_to f xs) ≡ true → all f (up_to f (x ∷ xs)) ≡ true
    go true h rec = ap (all f) (up_to_pass f x xs h) ∙ all_cons f x (up_to f xs) h rec
    go false h rec = ap (all f) (up_to_fail f x xs h)

-- the next one fails
pub up_to_next : (f : ℕ → Bool) (xs : List ℕ) → length (up_to f xs) < length xs → f (get_or xs (length (up_to f xs)) 0) ≡ false
unfolding up_to
up_to_next f [] l = absurd (omega arith)
up_to_next f (x ∷ xs) l = go (f x) refl (up_to_next f xs) l
  where
    stop : List ℕ → Bool
    stop ys = f (get_or (x ∷ xs) (length ys) 0)

    go : (p : Bool) → f x ≡ p → (length (up_to f xs) < length xs → f (get_or xs (length (up_to f xs)) 0) ≡ false) → length (up_to f (x ∷ xs)) < suc (length xs) → stop (up_to f (x ∷ xs)) ≡ false
    go true h rec l =
        let e = up_to_pass f x xs h in
        ap stop e ∙ rec (omega (arith, ap length e))
    go false h rec l = ap stop (up_to_fail f x xs h) ∙ h

-- each stands at its place of the list
pub up_to_at : (f : ℕ → Bool) (xs : List ℕ) (k : ℕ) → k < length (up_to f xs) → get_or (up_to f xs) k 0 ≡ get_or xs k 0
unfolding up_to
up_to_at f [] k l = refl
up_to_at f (x ∷ xs) k l = go (f x) refl (up_to_at f xs) k l
  where
    rest : ((k : ℕ) → k < length (up_to f xs) → get_or (up_to f xs) k 0 ≡ get_or xs k 0) → (k : ℕ) → k < suc (length (up_to f xs)) → get_or (x ∷ up_to f xs) k 0 ≡ get_or (x ∷ xs) k 0
    rest rec zero l = refl
    rest rec (suc k) l = rec k (omega arith)

    go : (p : Bool) → f x ≡ p → ((k : ℕ) → k < length (up_to f xs) → get_or (up_to f xs) k 0 ≡ get_or xs k 0) → (k : ℕ) → k < length (up_to f (x ∷ xs)) → get_or (up_to f (x ∷ xs)) k 0 ≡ get_or (x ∷ xs) k 0
    go true h rec k l =
        let e = up_to_pass f x xs h in
        ap (λ (ys : List ℕ). get_or ys k 0) e ∙ rest rec k (omega (arith, ap length e))
    go false h rec k l = absurd (omega (arith, ap length (up_to_fail f x xs h)))

-- a second test that they pass and the next one fails stops at the same place
pub up_to_agree : (f g : ℕ → Bool) (xs : List ℕ) → all g (up_to f xs) ≡ true → g (get_or xs (length (up_to f xs)) 0) ≡ false → up_to g xs ≡ up_to f xs
unfolding up_to
up_to_agree f g [] a n = refl
up_to_agree f g (x ∷ xs) a n = go (f x) refl (up_to_agree f g xs) a n
  where
    go : (p : Bool) → f x ≡ p → (all g (up_to f xs) ≡ true → g (get_or xs (length (up_to f xs)) 0) ≡ false → up_to g xs ≡ up_to f xs) → all g (up_to f (x ∷ xs)) ≡ true → g (get_or (x ∷ xs) (length (up_to f (x ∷ xs))) 0) ≡ false → up_to g (x ∷ xs) ≡ up_to f (x ∷ xs)
    go true h rec a n =
        let e = up_to_pass f x xs h in
        let b = all_uncons g x (up_to f xs) (sym (ap (all g) e) ∙ a) in
        let m : g (get_or xs (length (up_to f xs)) 0) ≡ false = sym (ap (λ (ys : List ℕ). g (get_or (x ∷ xs) (length ys) 0)) e) ∙ n in
        up_to_pass g x xs b.0 ∙ ap (λ (ys : List ℕ). x ∷ ys) (rec b.1 m) ∙ sym e
    go false h rec a n =
        let e = up_to_fail f x xs h in
        up_to_fail g x xs (sym (ap (λ (ys : List ℕ). g (get_or (x ∷ xs) (length ys) 0)) e) ∙ n) ∙ sym e
