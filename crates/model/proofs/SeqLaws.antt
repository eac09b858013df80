-- Lists by index, as loops walk them: the numbers in a row from either end, a list given by what stands at each place, blanks behind a list.
use mathlib.Core.Path.{◌≡◌, refl, ap, sym, ◌∙◌}
use mathlib.Core.Bool.{Bool, true, false}
use mathlib.Core.List.{List, [], ◌∷◌, ◌++◌, map, append_assoc, Memᴰ}
use Prim.Native.Nat.{ℕ, zero, suc, ◌+◌, ◌-◌, ◌≤◌, ◌<◌}
use native.Mathlib.Omega.{arith}
use native.Mathlib.Numerals.{add-one}
use lib.ListN.{length, get_or, set, drop, replicate, length-replicate, length-append, length-map}
use lib.Seq.{set_at}
use Rattle.model.specs.Common.{count, up_to, pad}
use Rattle.model.proofs.ListLaws.{count_length}

-- ---- the numbers from k to n − 1

-- k first and then the others, or none
pub count_more : (k n : ℕ) → k < n → count k (n - k) ≡ k ∷ count (k + 1) (n - (k + 1))
unfolding count
count_more k n h = let e : n - k ≡ suc (n - (k + 1)) = omega arith in rw (e, add-one k)

pub count_end : (k n : ℕ) → n ≤ k → count k (n - k) ≡ []
unfolding count
count_end k n h = let e : n - k ≡ 0 = omega arith in rw e

-- one more at the end
pub count_snoc : (a k : ℕ) → count a (suc k) ≡ count a k ++ ((a + k) ∷ [])
unfolding count
count_snoc a zero = ap (λ (x : ℕ). x ∷ []) (omega arith)
count_snoc a (suc k) = ap (λ (l : List ℕ). a ∷ l) (count_snoc (suc a) k ∙ ap (λ (x : ℕ). count (suc a) k ++ (x ∷ [])) (omega arith))

-- ---- a list given by f at 0, .., k − 1

pub map_snoc : {A B : Type 0} (f : A → B) (xs : List A) (x : A) → map f (xs ++ (x ∷ [])) ≡ map f xs ++ (f x ∷ [])
map_snoc f [] x = refl
map_snoc f (y ∷ xs) x = ap (λ (l : List _). f y ∷ l) (map_snoc f xs x)

-- a list mapped twice
pub map_map : {A B C : Type 0} (f : B → C) (g : A → B) (h : A → C) → ((x : A) → f (g x) ≡ h x) → (xs : List A) → map f (map g xs) ≡ map h xs
map_map f g h e [] = refl
map_map f g h e (x ∷ xs) = rw (e x, map_map f g h e xs)

module _ {A : Type 0} (f : ℕ → A) where
  pub listed_snoc : (k : ℕ) → map f (count 0 (suc k)) ≡ map f (count 0 k) ++ (f k ∷ [])
  listed_snoc k =
      ap (map f) (count_snoc 0 k) ∙ map_snoc f (count 0 k) (0 + k) ∙ ap (λ (i : ℕ). map f (count 0 k) ++ (f i ∷ [])) (omega arith)

  pub listed_from : (d : A) (a k i : ℕ) → i < k → get_or (map f (count a k)) i d ≡ f (a + i)
  unfolding count
  listed_from d a zero i h = absurd (omega arith)
  listed_from d a (suc k) zero h = ap f (omega arith)
  listed_from d a (suc k) (suc i) h = listed_from d (suc a) k i (omega arith) ∙ ap f (omega arith)

  pub listed_at : (d : A) (k i : ℕ) → i < k → get_or (map f (count 0 k)) i d ≡ f i
  listed_at d k i h = listed_from d 0 k i h ∙ ap f (omega arith)

  pub listed_length : (k : ℕ) → length (map f (count 0 k)) ≡ k
  listed_length k = length-map (count 0 k) f ∙ count_length 0 k

-- only what f gives below k matters
pub listed_cong : {A : Type 0} (f g : ℕ → A) (k : ℕ) → ((i : ℕ) → i < k → f i ≡ g i) → map f (count 0 k) ≡ map g (count 0 k)
unfolding count
listed_cong f g zero h = refl
listed_cong f g (suc k) h =
    rw (listed_snoc f k, listed_snoc g k, listed_cong f g k (λ i p. h i (omega arith)), h k (omega arith))

-- ---- what stands at a place

-- within a list the default does not matter
pub get_d_same : {A : Type 0} (l : List A) (k : ℕ) (d e : A) → k < length l → get_or l k d ≡ get_or l k e
get_d_same [] k d e h = absurd (omega arith)
get_d_same (x ∷ l) zero d e h = refl
get_d_same (x ∷ l) (suc k) d e h = get_d_same l k d e (omega arith)

-- what is the same of two defaults is the same of what is read
pub get_d_default : {A B : Type 0} (f : A → B) (xs : List A) (i : ℕ) (d e : A) → f d ≡ f e → f (get_or xs i d) ≡ f (get_or xs i e)
get_d_default f [] i d e h = h
get_d_default f (x ∷ xs) zero d e h = refl
get_d_default f (x ∷ xs) (suc i) d e h = get_d_default f xs i d e h

-- what stands in a list is one of its members
pub get_d_in : {A : Type 0} (xs : List A) (k : ℕ) (d : A) → k < length xs → Memᴰ (get_or xs k d) xs
get_d_in [] k d h = absurd (omega arith)
get_d_in (x ∷ xs) zero d h = Memᴰ.head refl
get_d_in (x ∷ xs) (suc k) d h = Memᴰ.tail (get_d_in xs k d (omega arith))

-- ---- blanks behind a list

pub blanks_at : {A : Type 0} (n i : ℕ) (d : A) → get_or (replicate n d) i d ≡ d
blanks_at zero i d = refl
blanks_at (suc n) zero d = refl
blanks_at (suc n) (suc i) d = blanks_at n i d

-- padding is not seen at any place
pub pad_at : {A : Type 0} (size : ℕ) (d : A) (l : List A) (i : ℕ) → get_or (pad size d l) i d ≡ get_or l i d
unfolding pad
pad_at {A} size d l i = go l (size - length l) i
  where
    go : (l : List A) (k i : ℕ) → get_or (l ++ replicate k d) i d ≡ get_or l i d
    go [] k i = blanks_at k i d
    go (x ∷ l) k zero = refl
    go (x ∷ l) k (suc i) = go l k i

pub pad_length : {A : Type 0} (size : ℕ) (d : A) (l : List A) → length l ≤ size → length (pad size d l) ≡ size
unfolding pad
pad_length size d l h = length-append l (replicate (size - length l) d) ∙ omega (arith, length-replicate (size - length l) d)

-- the first blank place filled
pub pad_put : {A : Type 0} (n : ℕ) (blank : A) (xs : List A) (k : ℕ) (x : A) → length xs ≡ k → k < n → set (pad n blank xs) k x ≡ pad n blank (xs ++ (x ∷ []))
unfolding pad
pad_put n blank xs k x e l =
    let m : n - length xs ≡ suc (n - length (xs ++ (x ∷ []))) = omega (arith, length-append xs (x ∷ [])) in
    ap (λ (j : ℕ). set (xs ++ replicate j blank) k x) m
    ∙ set_at xs blank (replicate (n - length (xs ++ (x ∷ []))) blank) x k e
    ∙ sym (append_assoc xs (x ∷ []) (replicate (n - length (xs ++ (x ∷ []))) blank))

-- ---- the items before the first that fails

-- they and the rest are the list
pub up_to_drop : {A : Type 0} (f : A → Bool) (xs : List A) → up_to f xs ++ drop (length (up_to f xs)) xs ≡ xs
unfolding up_to
up_to_drop f [] = refl
up_to_drop {A} f (x ∷ xs) = go (f x) (up_to_drop f xs)
  where
    part : Bool → List A
    part p = elim p [ true ↦ x ∷ up_to f xs | false ↦ [] ]

    go : (p : Bool) → up_to f xs ++ drop (length (up_to f xs)) xs ≡ xs → part p ++ drop (length (part p)) (x ∷ xs) ≡ x ∷ xs
    go true h = ap (λ (l : List A). x ∷ l) h
    go false h = refl
