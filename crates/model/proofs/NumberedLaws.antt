-- Further lines of a kind that has at most one line for each number, whatever the numbers are of: lines that keep their limits one after the other rise, and
-- such lines and the record's places for them give each other back.
use Rattle.std.specs.Prelude.{if◌then◌else◌}
use Prim.Native.Nat.{ℕ, zero, suc, ◌+◌, ◌≤◌, ◌<◌}
use mathlib.Core.Path.{◌≡◌, refl, ap, ap₂, sym, ◌∙◌, subst}
use mathlib.Core.Logic.{⊎_elim}
use mathlib.Core.Bool.{Bool, true, false}
use mathlib.Core.List.Memᴰ
use mathlib.Core.List.{List, [], ◌∷◌, ◌++◌, map, Memᴰ}
use native.Mathlib.Omega.{arith}
use native.Mathlib.Decide.{ℕ_discrete}
use lib.Dec.{ltb, eqb}
use borrow.Author.Tests.{ltb-true, lt-ltb, eq-eqb, ne_eqb}
use Rattle.model.specs.Common.{count, all, keep}
use Rattle.model.specs.Numbered.{rises, place_in}
use Rattle.model.proofs.BoolLaws.{both, and}
use Rattle.model.proofs.ListLaws.{all_each, each_all}
use Rattle.model.proofs.KindLaws.{Each, each_of}

-- a line's number and what it puts in its place, a blank place, whether a place has a line, and the line of a number and its place
pub record Numbering (A P : Type 0) : Type 0 where
  pub number : A → ℕ
  pub place : A → P
  pub blank : P
  pub has : P → Bool
  pub line : ℕ → P → A
  pub numbered : (i : ℕ) (p : P) → number (line i p) ≡ i
  pub whole : (x : A) → line (number x) (place x) ≡ x
  pub none : has blank ≡ false

module _ {A P : Type 0} (K : Numbering A P) where
  -- the place of number i, for lines
  abbrev place_of : List A → ℕ → P
  place_of xs i = place_in K.number K.place K.blank xs i

  -- what holds of the blank place and of the place of each line holds of every place
  pub place_each : (Q : P → Type 0) (xs : List A) → Q K.blank → ((x : A) → Memᴰ x xs → Q (K.place x)) → (i : ℕ) → Q (place_of xs i)
  unfolding place_in
  place_each Q [] q h i = q
  place_each Q (x ∷ xs) q h i = go (eqb (K.number x) i) (place_each Q xs q (λ y m. h y (Memᴰ.tail m)) i)
    where
      go : (t : Bool) → Q (place_of xs i) → Q (if t then K.place x else place_of xs i)
      go true rec = h x (Memᴰ.head refl)
      go false rec = rec

  -- ---- places and their lines

  module _ (places : ℕ → P) where
    -- the lines of places a to a + k − 1
    abbrev lines_of : ℕ → ℕ → List A
    lines_of a k = map (λ i. K.line i (places i)) (keep (λ i. K.has (places i)) (count a k))

    -- place a has no line, or one
    lines_none : (a k : ℕ) → K.has (places a) ≡ false → lines_of a (suc k) ≡ lines_of (suc a) k
    unfolding keep count
    lines_none a k e = rw e

    lines_one : (a k : ℕ) → K.has (places a) ≡ true → lines_of a (suc k) ≡ K.line a (places a) ∷ lines_of (suc a) k
    unfolding keep count
    lines_one a k e = rw e

    -- what a line keeps of its place
    abbrev kept : ℕ → P
    kept i = if K.has (places i) then K.place (K.line i (places i)) else K.blank

    -- the places for these lines: each is kept, and a place before them is blank
    own_out : (a k i : ℕ) → i < a → place_of (lines_of a k) i ≡ K.blank
    unfolding keep count place_in
    own_out a zero i h = refl
    own_out a (suc k) i h = go (K.has (places a)) refl (own_out (suc a) k i (omega arith))
      where
        go : (t : Bool) → K.has (places a) ≡ t → place_of (lines_of (suc a) k) i ≡ K.blank → place_of (lines_of a (suc k)) i ≡ K.blank
        go true e rec = ap (λ (xs : List A). place_of xs i) (lines_one a k e) ∙ rw (ne_eqb (K.number (K.line a (places a))) i (λ z. omega (arith, K.numbered a (places a)))) rec
        go false e rec = ap (λ (xs : List A). place_of xs i) (lines_none a k e) ∙ rec

    own_in : (a k i : ℕ) → a ≤ i → i < a + k → place_of (lines_of a k) i ≡ kept i
    unfolding keep count place_in
    own_in a zero i h g = absurd (omega arith)
    own_in a (suc k) i h g = go (K.has (places a)) refl (ℕ_discrete a i) (λ l. own_in (suc a) k i l (omega arith))
      where
        new : A
        new = K.line a (places a)

        go : (t : Bool) → K.has (places a) ≡ t → Dec (a ≡ i) → (suc a ≤ i → place_of (lines_of (suc a) k) i ≡ kept i) → place_of (lines_of a (suc k)) i ≡ kept i
        go true e (yes z) rec = subst (λ (i : ℕ). place_of (lines_of a (suc k)) i ≡ kept i) z (ap (λ (xs : List A). place_of xs a) (lines_one a k e) ∙ rw (eq-eqb (K.number new) a (K.numbered a (places a)), e))
        go true e (no z) rec = ap (λ (xs : List A). place_of xs i) (lines_one a k e) ∙ rw (ne_eqb (K.number new) i (λ q. z (sym (K.numbered a (places a)) ∙ q))) (rec (omega arith))
        go false e (yes z) rec = subst (λ (i : ℕ). place_of (lines_of a (suc k)) i ≡ kept i) z (ap (λ (xs : List A). place_of xs a) (lines_none a k e) ∙ own_out (suc a) k a (omega arith) ∙ rw e)
        go false e (no z) rec = ap (λ (xs : List A). place_of xs i) (lines_none a k e) ∙ rec (omega arith)

    pub own_place : (limit i : ℕ) → i < limit → place_of (lines_of 0 limit) i ≡ kept i
    own_place limit i h = own_in 0 limit i (omega arith) (omega arith)

  -- ---- rising lines

  -- each number is at or above lo and below the limit, and above the one before it
  module _ (limit : ℕ) where
    abbrev Rising : ℕ → List A → Type 0
    Rising lo [] = Unit {0}
    Rising lo (x ∷ xs) = (lo ≤ K.number x) × (K.number x < limit) × Rising (suc (K.number x)) xs

    -- a number before all lines has a blank place
    place_out : (lo : ℕ) (xs : List A) (i : ℕ) → Rising lo xs → i < lo → place_of xs i ≡ K.blank
    unfolding place_in
    place_out lo [] i r h = refl
    place_out lo (x ∷ xs) i r h =
        rw (ne_eqb (K.number x) i (λ z. omega (arith, r.0))) (place_out (suc (K.number x)) xs i r.2 (omega (arith, r.0)))

    -- the places for rising lines give them back, where the place of each has a line
    lines_back : (places : ℕ → P) (a k : ℕ) (xs : List A) → a + k ≡ limit → Rising a xs → ((x : A) → Memᴰ x xs → K.has (K.place x) ≡ true) → ((i : ℕ) → a ≤ i → i < limit → places i ≡ place_of xs i) → lines_of places a k ≡ xs
    unfolding place_in keep count
    lines_back places a zero [] z r full p = refl
    lines_back places a zero (x ∷ xs) z r full p = absurd (omega (arith, r.0, r.1))
    lines_back places a (suc k) [] z r full p =
        lines_none places a k (ap K.has (p a (omega arith) (omega arith)) ∙ K.none)
        ∙ lines_back places (suc a) k [] (omega arith) tt full (λ i h g. p i (omega arith) g)
    lines_back places a (suc k) (x ∷ xs) z r full p = by (ℕ_discrete (K.number x) a) (λ ys. lines_back places (suc a) k ys (omega arith))
      where
        Rec : Type 0
        Rec = (ys : List A) → Rising (suc a) ys → ((y : A) → Memᴰ y ys → K.has (K.place y) ≡ true) → ((i : ℕ) → suc a ≤ i → i < limit → places i ≡ place_of ys i) → lines_of places (suc a) k ≡ ys

        by : Dec (K.number x ≡ a) → Rec → lines_of places a (suc k) ≡ x ∷ xs
        by (yes e) rec =
            let at : places a ≡ K.place x = p a (omega arith) (omega arith) ∙ rw (eq-eqb (K.number x) a e) in
            lines_one places a k (ap K.has at ∙ full x (Memᴰ.head refl))
            ∙ ap₂ (λ (y : A) (ys : List A). y ∷ ys) (ap₂ K.line (sym e) at ∙ K.whole x)
            (rec xs (subst (λ (i : ℕ). Rising (suc i) xs) e r.2) (λ y m. full y (Memᴰ.tail m)) (λ i h g. p i (omega arith) g ∙ rw (ne_eqb (K.number x) i (λ q. omega arith))))
        by (no ne) rec =
            let up : Rising (suc a) (x ∷ xs) = (omega (arith, r.0), r.1, r.2) in
            lines_none places a k (ap K.has (p a (omega arith) (omega arith) ∙ place_out (suc a) (x ∷ xs) a up (omega arith)) ∙ K.none)
            ∙ rec (x ∷ xs) up full (λ i h g. p i (omega arith) g)

  -- ---- lines in limits, and the lines of places

  module _ (limit : ℕ) (Own : A → Type 0) where
    -- below the limit and above those before it, and what is asked of a line alone
    abbrev pub Above : List A → A → Type 0
    Above before x = (rises K.number limit before (K.number x) ≡ true) × Own x

    pub above_below : (before : List A) (x : A) → Above before x → K.number x < limit
    unfolding rises
    above_below before x h = ltb-true (K.number x) limit (both (ltb (K.number x) limit) (all (λ y. ltb (K.number y) (K.number x)) before) h.0).0

    each_rising : (lo : ℕ) (before xs : List A) → ((i : ℕ) → all (λ x. ltb (K.number x) i) before ≡ true → lo ≤ i) → Each Above before xs → Rising limit lo xs
    unfolding rises
    each_rising lo before [] h e = tt
    each_rising lo before (x ∷ xs) h e = (
      h (K.number x) (both (ltb (K.number x) limit) (all (λ y. ltb (K.number y) (K.number x)) before) e.0.0).1,
      above_below before x e.0,
      each_rising (suc (K.number x)) (before ++ (x ∷ [])) xs
          (λ i a. omega (arith, ltb-true (K.number x) i (all_each (λ y. ltb (K.number y) i) (before ++ (x ∷ [])) a (Memᴰ.append_right before (Memᴰ.head refl)))))
          e.1,
    )

    -- places that are those for lines in limits have these lines
    pub lines_of_lem : ((x : A) → Own x → K.has (K.place x) ≡ true) → (places : ℕ → P) (xs : List A) → Each Above [] xs → ((i : ℕ) → i < limit → places i ≡ place_of xs i) → lines_of places 0 limit ≡ xs
    unfolding all
    lines_of_lem full places xs e p =
        lines_back limit places 0 limit xs (omega arith) (each_rising 0 [] xs (λ i h. omega arith) e)
        (each_of Above (λ (x : A). K.has (K.place x) ≡ true) (λ before x h. full x h.1) [] xs e) (λ i h g. p i g)

    -- the lines of places are in limits, one after the other, where each alone is
    module _ (places : ℕ → P) (own : (i : ℕ) → i < limit → K.has (places i) ≡ true → Own (K.line i (places i))) where
      each_from : (a k : ℕ) (before : List A) → a + k ≤ limit → ((j : ℕ) → a ≤ j → all (λ x. ltb (K.number x) j) before ≡ true) → Each Above before (lines_of places a k)
      unfolding keep count rises
      each_from a zero before h lo = tt
      each_from a (suc k) before h lo = go (K.has (places a)) refl (λ ys. each_from (suc a) k ys (omega arith))
        where
          new : A
          new = K.line a (places a)

          more : (j : ℕ) → suc a ≤ j → all (λ x. ltb (K.number x) j) (before ++ (new ∷ [])) ≡ true
          more j g =
              each_all (λ x. ltb (K.number x) j) (before ++ (new ∷ [])) (λ y m.
              ⊎_elim (all_each (λ x. ltb (K.number x) j) before (lo j (omega arith)))
              (λ z. ap (λ (x : A). ltb (K.number x) j) (Memᴰ.eq_of_singleton z) ∙ lt-ltb (K.number new) j (omega (arith, K.numbered a (places a)))) (Memᴰ.append_cases before m))

          go : (t : Bool) → K.has (places a) ≡ t → ((ys : List A) → ((j : ℕ) → suc a ≤ j → all (λ x. ltb (K.number x) j) ys ≡ true) → Each Above ys (lines_of places (suc a) k)) → Each Above before (lines_of places a (suc k))
          go true e rec =
              subst (Each Above before) (sym (lines_one places a k e)) (
                (rw (K.numbered a (places a)) (and (lt-ltb a limit (omega arith)) (lo a (omega arith))), own a (omega arith) e),
                rec (before ++ (new ∷ [])) more,
              )
          go false e rec = subst (Each Above before) (sym (lines_none places a k e)) (rec before (λ j g. lo j (omega arith)))

      pub lines_each : Each Above [] (lines_of places 0 limit)
      unfolding all
      lines_each = each_from 0 limit [] (omega arith) (λ j h. refl)
