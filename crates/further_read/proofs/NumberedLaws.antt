-- Further lines of a kind whose numbers rise: what one line more makes of the lowest number that is left and of the record's places.
use Rattle.std.specs.Prelude.{if◌then◌else◌}
use Prim.Native.Nat.{ℕ, suc, ◌≤◌, ◌<◌}
use mathlib.Core.Path.{◌≡◌, refl, ap, sym, ◌∙◌}
use mathlib.Core.Bool.{Bool, true, false, ◌&&◌}
use mathlib.Core.List.{List, [], ◌∷◌, ◌++◌, map}
use native.Mathlib.Omega.{arith}
use native.Mathlib.Decide.{ℕ_discrete}
use lib.ListN.{length, get_or, set, length-set}
use lib.Seq.{ext_get_or, get_or-set_same, get_or-set_other}
use lib.Dec.{leb, ltb, eqb}
use borrow.Author.Tests.{ltb-true, ltb-false, le-leb, lt-leb, eq-eqb, ne_eqb}
use Rattle.model.specs.Common.{count, all}
use Rattle.model.specs.Numbered.{place_in}
use Rattle.model.proofs.BoolLaws.{apart, and_false}
use Rattle.model.proofs.SeqLaws.{listed_at, listed_length}
use Rattle.frame_read.specs.Numbered.{Lowest}

all_more : {A : Type 0} (g : A → Bool) (xs : List A) (x : A) → all g (xs ++ (x ∷ [])) ≡ (all g xs && g x)
unfolding all
all_more g [] x = go (g x)
  where
    go : (t : Bool) → ◌≡◌ {A = Bool} (elim t [ true ↦ true | false ↦ false ]) t
    go true = refl
    go false = refl
all_more g (y ∷ xs) x = go (g y) (all_more g xs x)
  where
    go : (t : Bool) → all g (xs ++ (x ∷ [])) ≡ (all g xs && g x)
        → ◌≡◌ {A = Bool} (elim t [ true ↦ all g (xs ++ (x ∷ [])) | false ↦ false ]) (elim t [ true ↦ all g xs | false ↦ false ] && g x)
    go true e = e
    go false e = refl

module _ {A : Type 0} (number : A → ℕ) where
  -- ---- the lowest number that is left

  -- before the first line every number is
  pub lowest_none : Lowest number 0 []
  unfolding Lowest all
  lowest_none j = sym (le-leb 0 j (omega arith))

  -- and after a line those above its own
  pub lowest_more : (low : ℕ) (xs : List A) (x : A) → Lowest number low xs → low ≤ number x → Lowest number (suc (number x)) (xs ++ (x ∷ []))
  unfolding Lowest
  lowest_more low xs x lowest h j = all_more (λ y. ltb (number y) j) xs x ∙ ap (λ (t : Bool). t && ltb (number x) j) (lowest j) ∙ go (ltb (number x) j) refl
    where
      go : (t : Bool) → ltb (number x) j ≡ t → (leb low j && t) ≡ leb (suc (number x)) j
      go true e = let l = ltb-true (number x) j e in rw (le-leb low j (omega arith), le-leb (suc (number x)) j (omega arith))
      go false e = let l = ltb-false (number x) j e in and_false (leb low j) ∙ sym (lt-leb (suc (number x)) j (omega arith))

  -- ---- the record's places

  module _ {P : Type 0} (place : A → P) (blank : P) where
    abbrev place_of : List A → ℕ → P
    place_of xs i = place_in number place blank xs i

    -- another number's place stays
    in_other : (xs : List A) (x : A) (i : ℕ) → eqb (number x) i ≡ false → place_of (xs ++ (x ∷ [])) i ≡ place_of xs i
    unfolding place_in
    in_other [] x i h = rw h
    in_other (y ∷ xs) x i h = ap (λ (p : P). if eqb (number y) i then place y else p) (in_other xs x i h)

    -- the line's own place is the line's, where the numbers before it are others
    in_own : (xs : List A) (x : A) → all (λ y. ltb (number y) (number x)) xs ≡ true → place_of (xs ++ (x ∷ [])) (number x) ≡ place x
    unfolding place_in all
    in_own [] x h = rw (eq-eqb (number x) (number x) refl)
    in_own (y ∷ xs) x h = go (ltb (number y) (number x)) refl h (in_own xs x)
      where
        go : (t : Bool) → ltb (number y) (number x) ≡ t → ◌≡◌ {A = Bool} (elim t [ true ↦ all (λ y. ltb (number y) (number x)) xs | false ↦ false ]) true
            → (all (λ y. ltb (number y) (number x)) xs ≡ true → place_of (xs ++ (x ∷ [])) (number x) ≡ place x) → place_of (y ∷ (xs ++ (x ∷ []))) (number x) ≡ place x
        go true e h rec = let l = ltb-true (number y) (number x) e in rw (ne_eqb (number y) (number x) (λ z. omega arith)) (rec h)
        go false e h rec = apart h

    module _ (size : ℕ) where
      -- all places
      abbrev pub places_of : List A → List P
      places_of xs = map (place_of xs) (count 0 size)

      long : (xs : List A) → length (places_of xs) ≡ size
      long xs = listed_length (place_of xs) size

      -- those with one line more
      pub places_more : (low : ℕ) (xs : List A) (x : A) → Lowest number low xs → low ≤ number x → number x < size → set (places_of xs) (number x) (place x) ≡ places_of (xs ++ (x ∷ []))
      unfolding Lowest
      places_more low xs x lowest h m =
          ext_get_or blank (set (places_of xs) (number x) (place x)) (places_of (xs ++ (x ∷ []))) (length-set (places_of xs) (number x) (place x) ∙ long xs ∙ sym (long (xs ++ (x ∷ []))))
          (λ i l. by i (omega (arith, long xs, length-set (places_of xs) (number x) (place x))) (ℕ_discrete (number x) i))
        where
          new : (i : ℕ) → i < size → get_or (places_of (xs ++ (x ∷ []))) i blank ≡ place_of (xs ++ (x ∷ [])) i
          new i l = listed_at (place_of (xs ++ (x ∷ []))) blank size i l

          by : (i : ℕ) → i < size → Dec (number x ≡ i) → get_or (set (places_of xs) (number x) (place x)) i blank ≡ get_or (places_of (xs ++ (x ∷ []))) i blank
          by i l (yes e) =
              ap (λ (j : ℕ). get_or (set (places_of xs) (number x) (place x)) j blank) (sym e)
              ∙ get_or-set_same (places_of xs) (number x) (place x) blank (omega (arith, long xs))
              ∙ sym (in_own xs x (lowest (number x) ∙ le-leb low (number x) h)) ∙ ap (place_of (xs ++ (x ∷ []))) e ∙ sym (new i l)
          by i l (no e) =
              get_or-set_other (places_of xs) (number x) i (place x) blank (λ z. e (sym z)) ∙ listed_at (place_of xs) blank size i l
              ∙ sym (in_other xs x i (ne_eqb (number x) i e)) ∙ sym (new i l)
