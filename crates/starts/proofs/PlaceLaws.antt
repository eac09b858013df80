-- The table holds a list of inequalities: each place has the code of the definition's place, that is, of the largest weight for the
-- pair. Putting one more inequality in gives the table of the list with it.
use Rattle.std.specs.Prelude.{if◌then◌else◌}
use mathlib.Core.Path.{◌≡◌, refl, sym, ◌∙◌, ap}
use mathlib.Core.Logic.{◌⊎◌, inl, inr}
use mathlib.Core.Bool.{Bool, true, false, ◌&&◌}
use mathlib.Core.Option.{Option, none, some}
use mathlib.Core.List.Memᴰ
use mathlib.Core.List.{List, [], ◌∷◌, ◌++◌, Memᴰ}
use Prim.Native.Nat.{ℕ, ◌≤◌, ◌<◌, min}
use native.Mathlib.Omega.{arith}
use native.Mathlib.Decide.{ℕ_discrete}
use lib.Dec.{eqb}
use lib.ListN.{length, get_or, set, replicate, length-set, get_or-replicate}
use lib.Seq.{get_or-set_same, get_or-set_other}
use lib.IntN.{ℤ}
use lib.Signed.{le_z}
use borrow.Author.Tests.{eq-eqb, ne_eqb}
use Rattle.model.specs.declared.Delay.{Delay}
use Rattle.model.specs.Starts.{heavier, entry}
use Rattle.model.proofs.BoolLaws.{and_false}
use Rattle.weights.specs.Code.{Limited, coded, place_code, Fits}
use Rattle.weights.proofs.CodeLaws.{coded_most, coded_le, coded_gt}
use Rattle.starts.specs.Table.{store_in, put_in, empty_table}

-- the smaller of a code and what a place has, where the inequality is one for that place
unfoldable pub kept : Bool → ℕ → ℕ → ℕ
kept true code old = min code old
kept false code old = old

-- the code of the place for (i, j): the smallest of the inequalities from i to j, that of the largest weight
unfoldable pub code_at : List Delay → ℕ → ℕ → ℕ
code_at [] i j = 65535
code_at (q ∷ qs) i j = kept (eqb q.from i && eqb q.to j) (coded q.weight) (code_at qs i j)

code_heavier : (w : ℤ) (o : Option ℤ) → Limited w → coded (heavier w o) ≡ min (coded w) (place_code o)
unfolding heavier place_code
code_heavier w none h = omega (arith, coded_most w h)
code_heavier w (some v) h = go (le_z v w) refl
  where
    go : (b : Bool) → le_z v w ≡ b → coded (if b then w else v) ≡ min (coded w) (coded v)
    go true e = omega (arith, coded_le v w e)
    go false e = omega (arith, coded_gt v w e)

-- it is that of the definition's place
pub code_is : (n : ℕ) (qs : List Delay) → ((q : Delay) → Memᴰ q qs → Fits n q) → (i j : ℕ) → code_at qs i j ≡ place_code (entry qs i j)
unfolding code_at entry place_code kept
code_is n [] f i j = refl
code_is n (q ∷ qs) f i j = go (eqb q.from i && eqb q.to j) (code_is n qs (λ p m. f p (Memᴰ.tail m)) i j)
  where
    go : (b : Bool) → code_at qs i j ≡ place_code (entry qs i j) → kept b (coded q.weight) (code_at qs i j) ≡ place_code (if b then some (heavier q.weight (entry qs i j)) else entry qs i j)
    go true e = ap (min (coded q.weight)) e ∙ sym (code_heavier q.weight (entry qs i j) (f q (Memᴰ.head refl)).weight)
    go false e = e

-- the order of the inequalities does not matter
pub code_snoc : (qs : List Delay) (q : Delay) (i j : ℕ) → code_at (qs ++ (q ∷ [])) i j ≡ kept (eqb q.from i && eqb q.to j) (coded q.weight) (code_at qs i j)
unfolding kept code_at
code_snoc [] q i j = refl
code_snoc (p ∷ qs) q i j =
    ap (kept (eqb p.from i && eqb p.to j) (coded p.weight)) (code_snoc qs q i j)
    ∙ swap (eqb p.from i && eqb p.to j) (eqb q.from i && eqb q.to j) (coded p.weight) (coded q.weight) (code_at qs i j)
  where
    swap : (a b : Bool) (x y z : ℕ) → kept a x (kept b y z) ≡ kept b y (kept a x z)
    swap true true x y z = omega arith
    swap true false x y z = refl
    swap false true x y z = refl
    swap false false x y z = refl

-- a table of 24 rows of 24 places that holds inequalities between n jobs
pub record Tabled (n : ℕ) (t : List (List ℕ)) (qs : List Delay) : Type 0 where
  pub rows : length t ≡ 24
  pub wide : (i : ℕ) → i < 24 → length (get_or t i []) ≡ 24
  pub place : (i j : ℕ) → i < 24 → j < 24 → get_or (get_or t i []) j 0 ≡ code_at qs i j
  pub fits : (q : Delay) → Memᴰ q qs → Fits n q

pub empty_tabled : (n : ℕ) → Tabled n empty_table []
unfolding empty_table code_at
empty_tabled n =
    record {
      rows = refl;
      wide = λ i h. ap length (get_or-replicate 24 i (replicate 24 65535) [] h);
      place = λ i j g h. ap (λ (r : List ℕ). get_or r j 0) (get_or-replicate 24 i (replicate 24 65535) [] g) ∙ get_or-replicate 24 j 65535 0 h;
      fits = λ q m. absurd (Memᴰ.not-nil m);
    }

-- ---- one place of a table of 24 rows of 24 places

module _ (t : List (List ℕ)) (rows : length t ≡ 24) (wide : (i : ℕ) → i < 24 → length (get_or t i []) ≡ 24) (from to code : ℕ) (p : from < 24) (q : to < 24) where
  pub store_rows : length (store_in t from to code) ≡ 24
  unfolding store_in
  store_rows = length-set t from _ ∙ rows

  -- the row that is stored
  row_same : get_or (store_in t from to code) from [] ≡ set (get_or t from []) to code
  unfolding store_in
  row_same = get_or-set_same t from _ [] (omega arith)

  row_other : (i : ℕ) → ¬ (i ≡ from) → get_or (store_in t from to code) i [] ≡ get_or t i []
  unfolding store_in
  row_other i e = get_or-set_other t from i _ [] e

  pub store_wide : (i : ℕ) → i < 24 → length (get_or (store_in t from to code) i []) ≡ 24
  store_wide i a = go (ℕ_discrete i from)
    where
      go : Dec (i ≡ from) → length (get_or (store_in t from to code) i []) ≡ 24
      go (yes e) = rw e (ap length row_same ∙ length-set (get_or t from []) to code ∙ wide from p)
      go (no e) = ap length (row_other i e) ∙ wide i a

  pub store_same : get_or (get_or (store_in t from to code) from []) to 0 ≡ code
  store_same = ap (λ (r : List ℕ). get_or r to 0) row_same ∙ get_or-set_same (get_or t from []) to code 0 (omega (arith, wide from p))

  pub store_other : (i j : ℕ) → (i ≡ from → j ≡ to → ⊥) → get_or (get_or (store_in t from to code) i []) j 0 ≡ get_or (get_or t i []) j 0
  store_other i j e = go (ℕ_discrete i from)
    where
      go : Dec (i ≡ from) → get_or (get_or (store_in t from to code) i []) j 0 ≡ get_or (get_or t i []) j 0
      go (yes g) = rw g (ap (λ (r : List ℕ). get_or r j 0) row_same ∙ get_or-set_other (get_or t from []) to j code 0 (e g))
      go (no g) = ap (λ (r : List ℕ). get_or r j 0) (row_other i g)

-- an inequality for another pair
pub other_pair : (q : Delay) (i j : ℕ) → (i ≡ q.from → j ≡ q.to → ⊥) → eqb q.from i && eqb q.to j ≡ false
other_pair q i j e = go (ℕ_discrete i q.from)
  where
    go : Dec (i ≡ q.from) → eqb q.from i && eqb q.to j ≡ false
    go (yes g) = rw (ne_eqb q.to j (λ s. e g (sym s))) (and_false (eqb q.from i))
    go (no g) = rw (ne_eqb q.from i (λ s. g (sym s)))

module _ (n : ℕ) (few : n ≤ 24) (t : List (List ℕ)) (qs : List Delay) (h : Tabled n t qs) (q : Delay) (f : Fits n q) where
  -- one inequality more
  pub put_tabled : Tabled n (put_in t q.from q.to (coded q.weight)) (qs ++ (q ∷ []))
  unfolding put_in kept
  put_tabled =
      record {
        rows = store_rows t h.rows h.wide q.from q.to _ from24 to24;
        wide = store_wide t h.rows h.wide q.from q.to _ from24 to24;
        place = λ i j a b. at i j a b (ℕ_discrete i q.from) (ℕ_discrete j q.to) ∙ sym (code_snoc qs q i j);
        fits = λ p m. fit p (Memᴰ.append_cases qs m);
      }
    where
      to24 : q.to < 24
      to24 = omega (arith, f.to)

      from24 : q.from < 24
      from24 = omega (arith, f.from)

      code : ℕ
      code = min (get_or (get_or t q.from []) q.to 0) (coded q.weight)

      other : (i j : ℕ) → i < 24 → j < 24 → (i ≡ q.from → j ≡ q.to → ⊥) → get_or (get_or (store_in t q.from q.to code) i []) j 0 ≡ kept (eqb q.from i && eqb q.to j) (coded q.weight) (code_at qs i j)
      other i j a b e = store_other t h.rows h.wide q.from q.to code from24 to24 i j e ∙ h.place i j a b ∙ rw (other_pair q i j e)

      at : (i j : ℕ) → i < 24 → j < 24 → Dec (i ≡ q.from) → Dec (j ≡ q.to)
          → get_or (get_or (store_in t q.from q.to code) i []) j 0 ≡ kept (eqb q.from i && eqb q.to j) (coded q.weight) (code_at qs i j)
      at i j a b (yes e) (yes g) =
          rw (e, g, eq-eqb q.from q.from refl, eq-eqb q.to q.to refl)
          (store_same t h.rows h.wide q.from q.to code from24 to24 ∙ omega (arith, h.place q.from q.to from24 to24))
      at i j a b (yes e) (no g) = other i j a b (λ _ s. g s)
      at i j a b (no e) g = other i j a b (λ s _. e s)

      fit : (p : Delay) → Memᴰ p qs ⊎ Memᴰ p (q ∷ []) → Fits n p
      fit p (inl m) = h.fits p m
      fit p (inr m) = let e : p ≡ q = Memᴰ.eq_of_singleton m in rw e f
