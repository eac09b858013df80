-- Clashes are listed by i, then j, then d, all rising, and so each once.
use Rattle.std.specs.Prelude.{if◌then◌else◌}
use Prim.Native.Nat.{ℕ, zero, suc, ◌-◌, ◌<◌}
use mathlib.Core.Path.{◌≡◌, refl, ap, sym, subst}
use mathlib.Core.Logic.{◌⊎◌, inl, inr}
use mathlib.Core.Bool.{Bool, true, false, cond}
use mathlib.Core.List.Memᴰ
use mathlib.Core.List.{List, [], ◌∷◌, ◌++◌, map, Memᴰ}
use native.Mathlib.Omega.{arith}
use lib.IntN.{ℤ, pos, negsuc, sub_ℕ}
use lib.Signed.{◌<ℤ◌, lt_z, <ℤ_irrefl}
use lib.Dec.{T, ltb, lt→ltb}
use borrow.Author.Tests.{ltb-true, ltb-false}
use Rattle.model.specs.declared.Batch.{Batch}
use Rattle.model.specs.Common.{count, keep, joined}
use Rattle.model.specs.Clash.{Clash, clashing, distances, clashes_of, clashes}
use Rattle.model.proofs.ListLaws.{map_some, joined_some, count_some}

-- each item stands in R to each later one
module _ {A : Type 0} (R : A → A → Type 0) where
  abbrev pub Rising : List A → Type 0
  Rising [] = Unit {0}
  Rising (x ∷ xs) = ((y : A) → Memᴰ y xs → R x y) × Rising xs

  rising_append : (xs ys : List A) → Rising xs → Rising ys → ((x y : A) → Memᴰ x xs → Memᴰ y ys → R x y) → Rising (xs ++ ys)
  rising_append [] ys h g f = g
  rising_append (x ∷ xs) ys h g f = (λ y m. go y (Memᴰ.append_cases xs m), rising_append xs ys h.1 g (λ u v m n. f u v (Memᴰ.tail m) n))
    where
      go : (y : A) → Memᴰ y xs ⊎ Memᴰ y ys → R x y
      go y (inl m) = h.0 y m
      go y (inr m) = f x y (Memᴰ.head refl) m

  pub keep_in : (f : A → Bool) (xs : List A) (y : A) → Memᴰ y (keep f xs) → Memᴰ y xs
  unfolding keep
  keep_in f [] y m = m
  keep_in f (x ∷ xs) y m = go (f x) m (keep_in f xs y)
    where
      go : (p : Bool) → Memᴰ y (if p then x ∷ keep f xs else keep f xs) → (Memᴰ y (keep f xs) → Memᴰ y xs) → Memᴰ y (x ∷ xs)
      go true m rec = pick (Memᴰ.cases_cons m)
        where
          pick : (y ≡ x) ⊎ Memᴰ y (keep f xs) → Memᴰ y (x ∷ xs)
          pick (inl e) = Memᴰ.head e
          pick (inr k) = Memᴰ.tail (rec k)
      go false m rec = Memᴰ.tail (rec m)

  rising_keep : (f : A → Bool) (xs : List A) → Rising xs → Rising (keep f xs)
  unfolding keep
  rising_keep f [] h = tt
  rising_keep f (x ∷ xs) h = go (f x) (rising_keep f xs h.1)
    where
      go : (p : Bool) → Rising (keep f xs) → Rising (if p then x ∷ keep f xs else keep f xs)
      go true r = (λ y m. h.0 y (keep_in f xs y m), r)
      go false r = r

module _ {A B : Type 0} (R : A → A → Type 0) (S : B → B → Type 0) where
  rising_map : (f : A → B) → ((x y : A) → R x y → S (f x) (f y)) → (xs : List A) → Rising R xs → Rising S (map f xs)
  rising_map f h [] r = tt
  rising_map f h (x ∷ xs) r = (λ y m. go y (map_some f xs m), rising_map f h xs r.1)
    where
      go : (y : B) → (z : A) × Memᴰ z xs × (y ≡ f z) → S (f x) y
      go y (z, m, e) = subst (S (f x)) (sym e) (h x z (r.0 z m))

  rising_joined : (f : A → List B) → ((x : A) → Rising S (f x)) → ((x y : A) → R x y → (u v : B) → Memᴰ u (f x) → Memᴰ v (f y) → S u v) → (xs : List A) → Rising R xs → Rising S (joined f xs)
  unfolding joined
  rising_joined f each h [] r = tt
  rising_joined f each h (x ∷ xs) r =
      rising_append S (f x) (joined f xs) (each x) (rising_joined f each h xs r.1) (λ u v m n. go u v m (joined_some f xs n))
    where
      go : (u v : B) → Memᴰ u (f x) → (z : A) × Memᴰ z xs × Memᴰ v (f z) → S u v
      go u v m (z, k, n) = h x z (r.0 z k) u v m n

rising_count : (a k : ℕ) → Rising (λ x y. x < y) (count a k)
unfolding count
rising_count a zero = tt
rising_count a (suc k) = (λ y m. omega (arith, (count_some (suc a) k y m).0), rising_count (suc a) k)

-- k − c rises with k
sub_rises : (c x y : ℕ) → x < y → sub_ℕ x c <ℤ sub_ℕ y c
sub_rises c x y h = record { lt = go (ltb x c) refl (ltb y c) refl }
  where
    diff : ℕ → Bool → ℤ
    diff p q = cond q (negsuc (c - suc p)) (pos (p - c))

    go : (p : Bool) → ltb x c ≡ p → (q : Bool) → ltb y c ≡ q → T (lt_z (diff x p) (diff y q))
    go true e true f = lt→ltb (c - suc y) (c - suc x) (omega (arith, ltb-true x c e, ltb-true y c f))
    go true e false f = tt
    go false e true f = absurd (omega (arith, ltb-false x c e, ltb-true y c f))
    go false e false f = lt→ltb (x - c) (y - c) (omega (arith, ltb-false x c e, ltb-false y c f))

-- by i, then j, then d
pub data Before (c e : Clash) : Type 0 where
  by_i : c.i < e.i → Before c e
  by_j : c.i ≡ e.i → c.j < e.j → Before c e
  by_d : c.i ≡ e.i → c.j ≡ e.j → c.d <ℤ e.d → Before c e

before_irrefl : (c : Clash) → Before c c → ⊥
before_irrefl c (by_i h) = omega arith
before_irrefl c (by_j e h) = omega arith
before_irrefl c (by_d e f h) = <ℤ_irrefl h

rising_distances : Rising (λ d e. d <ℤ e) distances
unfolding distances
rising_distances = rising_map (λ x y. x < y) (λ d e. d <ℤ e) (λ k. sub_ℕ k 22) (λ x y h. sub_rises 22 x y h) (count 0 45) (rising_count 0 45)

module _ (b : Batch) where
  pair_rising : (i j : ℕ) → Rising Before (clashes_of b i j)
  unfolding clashes_of
  pair_rising i j =
      rising_map (λ d e. d <ℤ e) Before (λ d. record { i = i; j = j; d = d }) (λ d e h. by_d refl refl h) (keep (clashing b i j) distances)
      (rising_keep (λ d e. d <ℤ e) (clashing b i j) distances rising_distances)

  pair_is : (i j : ℕ) (c : Clash) → Memᴰ c (clashes_of b i j) → (c.i ≡ i) × (c.j ≡ j)
  unfolding clashes_of
  pair_is i j c m =
      let r = map_some {A = ℤ} {B = Clash} (λ d. record { i = i; j = j; d = d }) (keep (clashing b i j) distances) m in
      (ap (λ (x : Clash). x.i) r.2, ap (λ (x : Clash). x.j) r.2)

  abbrev row : ℕ → List Clash
  row i = joined (clashes_of b i) (count (suc i) (b.n - suc i))

  row_rising : (i : ℕ) → Rising Before (row i)
  row_rising i =
      rising_joined (λ x y. x < y) Before (clashes_of b i) (pair_rising i)
      (λ x y h u v m n.
      let p = pair_is i x u m in
      let q = pair_is i y v n in
      by_j (omega (arith, p.0, q.0)) (omega (arith, p.1, q.1)))
      (count (suc i) (b.n - suc i)) (rising_count (suc i) (b.n - suc i))

  row_is : (i : ℕ) (c : Clash) → Memᴰ c (row i) → c.i ≡ i
  row_is i c m =
      let r = joined_some (clashes_of b i) (count (suc i) (b.n - suc i)) m in
      (pair_is i r.0 c r.2).0

  pub clashes_rising : Rising Before (clashes b)
  unfolding clashes
  clashes_rising =
      rising_joined (λ x y. x < y) Before row row_rising
      (λ x y h u v m n. by_i (omega (arith, row_is x u m, row_is y v n))) (count 0 b.n) (rising_count 0 b.n)

-- so each stands once
abbrev pub Once : List Clash → Type 0
Once [] = Unit {0}
Once (c ∷ cs) = (¬ Memᴰ c cs) × Once cs

once : (cs : List Clash) → Rising Before cs → Once cs
once [] r = tt
once (c ∷ cs) r = (λ m. before_irrefl c (r.0 c m), once cs r.1)

pub clashes_once : (b : Batch) → Once (clashes b)
clashes_once b = once (clashes b) (clashes_rising b)
