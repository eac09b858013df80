-- Two-byte numbers, one after the other: the masks of a job's frame.
use Prim.Native.Nat.{ℕ, zero, suc, ◌+◌, ◌*◌, ◌≤◌, ◌<◌}
use mathlib.Core.Path.{◌≡◌, refl, ap, ap₂, sym, ◌∙◌}
use mathlib.Core.List.{List, [], ◌∷◌}
use native.Mathlib.Omega.{arith}
use lib.ListN.{length, get_or, set, take, drop, length-drop}
use lib.Seq.{get_or-drop, take_all}
use Rattle.model.specs.Common.{pad}
use Rattle.model.specs.Line.{at as byte_of, wide as wide_of}
use Rattle.model.specs.Open.{wides}
use Rattle.frame_read.proofs.Pad.{pad_take}

-- half as many as bytes
wides_length : (l : List ℕ) (p : ℕ) → length l ≡ 2 * p → length (wides l) ≡ p
unfolding wides
wides_length [] p e = omega arith
wides_length (h ∷ []) p e = absurd (omega arith)
wides_length (h ∷ l ∷ bs) zero e = absurd (omega arith)
wides_length (h ∷ l ∷ bs) (suc p) e = ap suc (wides_length bs p (omega arith))

-- each of two bytes
wides_at : (l : List ℕ) (k : ℕ) → 2 * k + 1 < length l → get_or (wides l) k 0 ≡ get_or l (2 * k) 0 * 256 + get_or l (2 * k + 1) 0
unfolding wides
wides_at [] k h = absurd (omega arith)
wides_at (x ∷ []) k h = absurd (omega arith)
wides_at (x ∷ y ∷ bs) zero h = refl
wides_at (x ∷ y ∷ bs) (suc k) h =
    let a : 2 * suc k ≡ suc (suc (2 * k)) = omega arith in
    let b : 2 * suc k + 1 ≡ suc (suc (2 * k + 1)) = omega arith in
    wides_at bs k (omega arith) ∙ sym (ap₂ (λ (i j : ℕ). get_or (x ∷ y ∷ bs) i 0 * 256 + get_or (x ∷ y ∷ bs) j 0) a b)

-- p masks, behind the first two bytes
pub masks_length : (f : List ℕ) (p : ℕ) → length f ≡ 2 + 2 * p → length (wides (drop 2 f)) ≡ p
masks_length f p e = wides_length (drop 2 f) p (omega (arith, length-drop 2 f))

-- mask a stands at bytes 2 + 2 * a
pub mask_at : (f : List ℕ) (p a : ℕ) → length f ≡ 2 + 2 * p → a < p → get_or (wides (drop 2 f)) a 0 ≡ wide_of f (2 + 2 * a)
unfolding wide_of byte_of
mask_at f p a e l =
    let s : 2 + (2 * a + 1) ≡ suc (2 + 2 * a) = omega arith in
    wides_at (drop 2 f) a (omega (arith, length-drop 2 f))
    ∙ ap₂ (λ (i j : ℕ). i * 256 + j) (get_or-drop 2 f (2 * a) 0) (get_or-drop 2 f (2 * a + 1) 0 ∙ ap (λ (j : ℕ). get_or f j 0) s)

-- the array of the masks so far, with one more
pub masks_more : (f : List ℕ) (p a r : ℕ) (masks : List ℕ) → length f ≡ 2 + 2 * p → p ≤ 16 → a < p → masks ≡ pad 16 0 (take a (wides (drop 2 f))) → r ≡ wide_of f (2 + 2 * a) → set masks a r ≡ pad 16 0 (take (a + 1) (wides (drop 2 f)))
masks_more f p a r masks e m l so x =
    ap (λ (s : List ℕ). set s a r) so
    ∙ pad_take 16 0 (wides (drop 2 f)) a 0 r (omega (arith, masks_length f p e)) (omega arith) (x ∙ sym (mask_at f p a e l))

-- and with all of them
pub masks_all : (f : List ℕ) (p a : ℕ) (masks : List ℕ) → length f ≡ 2 + 2 * p → p ≤ a → masks ≡ pad 16 0 (take a (wides (drop 2 f))) → masks ≡ pad 16 0 (wides (drop 2 f))
masks_all f p a masks e l so =
    so ∙ ap (pad 16 0) (take_all a (wides (drop 2 f)) (omega (arith, masks_length f p e)))
