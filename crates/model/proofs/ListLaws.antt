-- Members of the lists that the definitions are built with, and lists read by index.
use Rattle.std.specs.Prelude.{if◌then◌else◌}
use Prim.Native.Nat.{ℕ, zero, suc, ◌+◌, ◌≤◌, ◌<◌}
use mathlib.Core.Path.{◌≡◌, refl, ap, sym, ◌∙◌, subst}
use mathlib.Core.Logic.{◌⊎◌, inl, inr}
use mathlib.Core.Bool.{Bool, true, false}
use mathlib.Core.List.Memᴰ
use mathlib.Core.List.{List, [], ◌∷◌, ◌++◌, map, Memᴰ}
use native.Mathlib.Omega.{arith}
use lib.ListN.{length, get_or}
use Rattle.model.specs.Common.{count, all, any, keep, joined}
use Rattle.model.proofs.BoolLaws.{apart}

module _ {A : Type 0} where
  -- an item that passes
  pub any_some : (f : A → Bool) (xs : List A) → any f xs ≡ true → (x : A) × Memᴰ x xs × (f x ≡ true)
  unfolding any
  any_some f [] e = apart e
  any_some f (x ∷ xs) e = go (f x) refl e (any_some f xs)
    where
      go : (p : Bool) → f x ≡ p → (elim p [ true ↦ true | false ↦ any f xs ]) ≡ true → (any f xs ≡ true → (y : A) × Memᴰ y xs × (f y ≡ true)) → (y : A) × Memᴰ y (x ∷ xs) × (f y ≡ true)
      go true h e rec = (x, Memᴰ.head refl, h)
      go false h e rec = let r = rec e in (r.0, Memᴰ.tail r.1, r.2)

  pub some_any : (f : A → Bool) {x : A} (xs : List A) → Memᴰ x xs → f x ≡ true → any f xs ≡ true
  unfolding any
  some_any f [] m e = absurd (Memᴰ.not-nil m)
  some_any f {x = y} (x ∷ xs) m e = go (f x) refl (Memᴰ.cases_cons m) (λ k. some_any f xs k e)
    where
      go : (p : Bool) → f x ≡ p → (y ≡ x) ⊎ Memᴰ y xs → (Memᴰ y xs → any f xs ≡ true) → (elim p [ true ↦ true | false ↦ any f xs ]) ≡ true
      go true h c rec = refl
      go false h (inl q) rec = apart (sym h ∙ ap f (sym q) ∙ e)
      go false h (inr k) rec = rec k

  pub all_each : (f : A → Bool) {x : A} (xs : List A) → all f xs ≡ true → Memᴰ x xs → f x ≡ true
  unfolding all
  all_each f [] e m = absurd (Memᴰ.not-nil m)
  all_each f {x = y} (x ∷ xs) e m = go (f x) refl e (Memᴰ.cases_cons m) (λ h k. all_each f xs h k)
    where
      go : (p : Bool) → f x ≡ p → (elim p [ true ↦ all f xs | false ↦ false ]) ≡ true → (y ≡ x) ⊎ Memᴰ y xs → (all f xs ≡ true → Memᴰ y xs → f y ≡ true) → f y ≡ true
      go true h e (inl q) rec = ap f q ∙ h
      go true h e (inr k) rec = rec e k
      go false h e s rec = apart e

  pub each_all : (f : A → Bool) (xs : List A) → ((x : A) → Memᴰ x xs → f x ≡ true) → all f xs ≡ true
  unfolding all
  each_all f [] h = refl
  each_all f (x ∷ xs) h = rw (h x (Memᴰ.head refl), all) (each_all f xs (λ y m. h y (Memᴰ.tail m)))

  pub keep_some : (f : A → Bool) {x : A} (xs : List A) → Memᴰ x (keep f xs) → f x ≡ true
  unfolding keep
  keep_some f [] m = absurd (Memᴰ.not-nil m)
  keep_some f {x = y} (x ∷ xs) m = go (f x) refl m (keep_some f xs)
    where
      pick : (y ≡ x) ⊎ Memᴰ y (keep f xs) → f x ≡ true → (Memᴰ y (keep f xs) → f y ≡ true) → f y ≡ true
      pick (inl q) h rec = ap f q ∙ h
      pick (inr k) h rec = rec k

      go : (p : Bool) → f x ≡ p → Memᴰ y (if p then x ∷ keep f xs else keep f xs) → (Memᴰ y (keep f xs) → f y ≡ true) → f y ≡ true
      go true h m rec = pick (Memᴰ.cases_cons m) h rec
      go false h m rec = rec m

  pub some_keep : (f : A → Bool) {x : A} (xs : List A) → Memᴰ x xs → f x ≡ true → Memᴰ x (keep f xs)
  unfolding keep
  some_keep f [] m e = absurd (Memᴰ.not-nil m)
  some_keep f {x = y} (x ∷ xs) m e = go (f x) refl (Memᴰ.cases_cons m) (λ k. some_keep f xs k e)
    where
      go : (p : Bool) → f x ≡ p → (y ≡ x) ⊎ Memᴰ y xs → (Memᴰ y xs → Memᴰ y (keep f xs)) → Memᴰ y (if p then x ∷ keep f xs else keep f xs)
      go true h (inl q) rec = Memᴰ.head q
      go true h (inr k) rec = Memᴰ.tail (rec k)
      go false h (inl q) rec = apart (sym h ∙ ap f (sym q) ∙ e)
      go false h (inr k) rec = rec k

  module _ {B : Type 0} where
    pub map_some : (f : A → B) {y : B} (xs : List A) → Memᴰ y (map f xs) → (x : A) × Memᴰ x xs × (y ≡ f x)
    map_some f [] m = absurd (Memᴰ.not-nil m)
    map_some f {y} (x ∷ xs) m = go (Memᴰ.cases_cons m) (map_some f xs)
      where
        go : (y ≡ f x) ⊎ Memᴰ y (map f xs) → (Memᴰ y (map f xs) → (z : A) × Memᴰ z xs × (y ≡ f z)) → (z : A) × Memᴰ z (x ∷ xs) × (y ≡ f z)
        go (inl q) rec = (x, Memᴰ.head refl, q)
        go (inr k) rec = let r = rec k in (r.0, Memᴰ.tail r.1, r.2)

    pub some_map : (f : A → B) {x : A} (xs : List A) → Memᴰ x xs → Memᴰ (f x) (map f xs)
    some_map f [] m = absurd (Memᴰ.not-nil m)
    some_map f {x = y} (x ∷ xs) m = go (Memᴰ.cases_cons m) (some_map f xs)
      where
        go : (y ≡ x) ⊎ Memᴰ y xs → (Memᴰ y xs → Memᴰ (f y) (map f xs)) → Memᴰ (f y) (f x ∷ map f xs)
        go (inl q) rec = Memᴰ.head (ap f q)
        go (inr k) rec = Memᴰ.tail (rec k)

    pub joined_some : (f : A → List B) {y : B} (xs : List A) → Memᴰ y (joined f xs) → (x : A) × Memᴰ x xs × Memᴰ y (f x)
    unfolding joined
    joined_some f [] m = absurd (Memᴰ.not-nil m)
    joined_some f {y} (x ∷ xs) m = go (Memᴰ.append_cases (f x) m) (joined_some f xs)
      where
        go : Memᴰ y (f x) ⊎ Memᴰ y (joined f xs) → (Memᴰ y (joined f xs) → (z : A) × Memᴰ z xs × Memᴰ y (f z)) → (z : A) × Memᴰ z (x ∷ xs) × Memᴰ y (f z)
        go (inl q) rec = (x, Memᴰ.head refl, q)
        go (inr k) rec = let r = rec k in (r.0, Memᴰ.tail r.1, r.2)

    pub some_joined : (f : A → List B) {x : A} {y : B} (xs : List A) → Memᴰ x xs → Memᴰ y (f x) → Memᴰ y (joined f xs)
    unfolding joined
    some_joined f [] m k = absurd (Memᴰ.not-nil m)
    some_joined f {x = z} {y} (x ∷ xs) m k = go (Memᴰ.cases_cons m) (λ n. some_joined f xs n k)
      where
        go : (z ≡ x) ⊎ Memᴰ z xs → (Memᴰ z xs → Memᴰ y (joined f xs)) → Memᴰ y (f x ++ joined f xs)
        go (inl q) rec = Memᴰ.append_left (joined f xs) (rw q at k)
        go (inr n) rec = Memᴰ.append_right (f x) (rec n)

-- lists that agree on each item
pub joined_cong : {A B : Type 0} (f g : A → List B) (xs : List A) → ((x : A) → Memᴰ x xs → f x ≡ g x) → joined f xs ≡ joined g xs
unfolding joined
joined_cong f g [] h = refl
joined_cong f g (x ∷ xs) h = rw (h x (Memᴰ.head refl), joined_cong f g xs (λ y m. h y (Memᴰ.tail m)))

-- what is kept of two lists
pub keep_append : {A : Type 0} (f : A → Bool) (xs ys : List A) → keep f (xs ++ ys) ≡ keep f xs ++ keep f ys
unfolding keep
keep_append f [] ys = refl
keep_append f (x ∷ xs) ys = go (f x) (keep_append f xs ys)
  where
    go : (t : Bool) → keep f (xs ++ ys) ≡ keep f xs ++ keep f ys → (if t then x ∷ keep f (xs ++ ys) else keep f (xs ++ ys)) ≡ (if t then x ∷ keep f xs else keep f xs) ++ keep f ys
    go true e = rw e
    go false e = e

pub keep_none : {A : Type 0} (f : A → Bool) (xs : List A) → ((x : A) → Memᴰ x xs → f x ≡ false) → keep f xs ≡ []
unfolding keep
keep_none f [] h = refl
keep_none f (x ∷ xs) h = rw (h x (Memᴰ.head refl)) (keep_none f xs (λ y m. h y (Memᴰ.tail m)))

-- x is one of a, .., a + k − 1
pub count_some : (a k x : ℕ) → Memᴰ x (count a k) → (a ≤ x) × (x < a + k)
unfolding count
count_some a zero x m = absurd (Memᴰ.not-nil m)
count_some a (suc k) x m = go (Memᴰ.cases_cons m) (count_some (suc a) k x)
  where
    go : (x ≡ a) ⊎ Memᴰ x (count (suc a) k) → (Memᴰ x (count (suc a) k) → (suc a ≤ x) × (x < suc a + k)) → (a ≤ x) × (x < a + suc k)
    go (inl q) rec = (omega arith, omega arith)
    go (inr n) rec = let r = rec n in (omega arith, omega arith)

pub some_count : (a k x : ℕ) → a ≤ x → x < a + k → Memᴰ x (count a k)
unfolding count
some_count a zero x h g = absurd (omega arith)
some_count a (suc k) x h g = go (compare_eq a x) (some_count (suc a) k x)
  where
    compare_eq : (a x : ℕ) → Dec (a ≡ x)
    compare_eq a x = native.Mathlib.Decide.ℕ_discrete a x

    go : Dec (a ≡ x) → (suc a ≤ x → x < suc a + k → Memᴰ x (count (suc a) k)) → Memᴰ x (count a (suc k))
    go (yes q) rec = Memᴰ.head (sym q)
    go (no q) rec = Memᴰ.tail (rec (omega arith) (omega arith))

-- ---- every item of a list

module _ {A : Type 0} (P : A → Type 0) where
  pub each_nil : (x : A) → Memᴰ x [] → P x
  each_nil x m = absurd (Memᴰ.not-nil m)

  pub each_cons : {a : A} {xs : List A} → P a → ((x : A) → Memᴰ x xs → P x) → (x : A) → Memᴰ x (a ∷ xs) → P x
  each_cons {a} {xs} h k x m = go (Memᴰ.cases_cons m)
    where
      go : (x ≡ a) ⊎ Memᴰ x xs → P x
      go (inl q) = subst P (sym q) h
      go (inr n) = k x n

  pub each_head : {a : A} {xs : List A} → ((x : A) → Memᴰ x (a ∷ xs) → P x) → P a
  each_head {a} h = h a (Memᴰ.head refl)

  pub each_tail : {a : A} {xs : List A} → ((x : A) → Memᴰ x (a ∷ xs) → P x) → (x : A) → Memᴰ x xs → P x
  each_tail h x m = h x (Memᴰ.tail m)

-- ---- lists by index

-- there are as many as were asked for
pub count_length : (a k : ℕ) → length (count a k) ≡ k
unfolding count
count_length a zero = refl
count_length a (suc k) = ap suc (count_length (suc a) k)

-- the items of map g over 0, .., n − 1 pass when each g i passes
pub each_item : {A : Type 0} (P : A → Type 0) (g : ℕ → A) (n : ℕ) → ((i : ℕ) → i < n → P (g i)) → (x : A) → Memᴰ x (map g (count 0 n)) → P x
each_item P g n h x m =
    let r = map_some g (count 0 n) m in
    subst P (sym r.2) (h r.0 (omega (arith, count_some 0 n r.0 r.1)))

-- and each g i is one of them
pub index_in : {A : Type 0} (g : ℕ → A) (n i : ℕ) → i < n → Memᴰ (g i) (map g (count 0 n))
index_in g n i h = some_map g (count 0 n) (some_count 0 n i (omega arith) (omega arith))

module _ {A : Type 0} where
  -- numbers from a + 1 on are those from a on, each one up
  count_shift : (g : ℕ → A) (a k : ℕ) → map g (count (suc a) k) ≡ map (λ i. g (suc i)) (count a k)
  unfolding count
  count_shift g a zero = refl
  count_shift g a (suc k) = ap (λ (l : List A). g (suc a) ∷ l) (count_shift g (suc a) k)

  -- a list read by index, whatever stands behind it
  pub by_index : (xs ys : List A) (d : A) → map (λ i. get_or (xs ++ ys) i d) (count 0 (length xs)) ≡ xs
  unfolding count
  by_index [] ys d = refl
  by_index (x ∷ xs) ys d =
      ap (λ (l : List A). x ∷ l) (count_shift (λ i. get_or (x ∷ (xs ++ ys)) i d) 0 (length xs) ∙ by_index xs ys d)
