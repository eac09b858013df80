-- Lists that hold the definitions' inequalities fill a table that holds the list: put in one after the other, or, where each has the smallest code of its
-- pair, stored without a comparison.
use mathlib.Core.Path.{◌≡◌, refl, sym, ◌∙◌, ap}
use mathlib.Core.Logic.{◌⊎◌, inl, inr}
use mathlib.Core.Bool.{Bool}
use mathlib.Core.List.{List, [], ◌∷◌, ◌++◌, append_assoc, append-nil}
use Prim.Native.Nat.{ℕ, zero, suc, ◌≤◌, ◌<◌}
use native.Mathlib.Omega.{arith}
use native.Mathlib.Decide.{ℕ_discrete}
use lib.ListN.{length, get_or, take}
use lib.Seq.{take-suc, take-length}
use Rattle.model.specs.declared.Delay.{Delay}
use Rattle.model.specs.Batch.{blank_delay}
use Rattle.weights.specs.declared.Inequality.{Inequality}
use Rattle.weights.specs.Inequality.{nth}
use Rattle.weights.specs.Code.{coded}
use Rattle.weights.specs.Holds.{Holds}
use Rattle.weights.proofs.ListedLaws.{nth_listed}
use Rattle.starts.specs.Table.{store_in, with_put, with_stored, empty_table, lowered, heaviest_of, Placed}
use Rattle.starts.proofs.PlaceLaws.{code_at, kept, code_snoc, Tabled, empty_tabled, put_tabled, store_rows, store_wide, store_same, store_other, other_pair}

-- without inequalities a place is empty
code_none : (i j : ℕ) → code_at [] i j ≡ 65535
unfolding code_at
code_none i j = refl

-- ---- inequalities that a list holds

module _ (n : ℕ) (few : n ≤ 24) (qs : List Delay) (w : List Inequality) (h : Holds n qs w) where
  -- inequality k
  abbrev item : ℕ → Delay
  item k = get_or qs k blank_delay

  pub held_placed : Placed w (length qs)
  held_placed =
      record {
        from = λ k p. omega (arith, h.from k p, (h.fits k p).from);
        to = λ k p. omega (arith, h.to k p, (h.fits k p).to);
      }

  -- put in
  puts_tabled : (t : List (List ℕ)) (rs : List Delay) → Tabled n t rs → (k : ℕ) → k ≤ length qs → Tabled n (with_put w t k) (rs ++ take k qs)
  unfolding with_put
  puts_tabled t rs d zero p = rw append-nil d
  puts_tabled t rs d (suc k) p =
      let l : k < length qs = omega arith in
      let s : rs ++ take (suc k) qs ≡ (rs ++ take k qs) ++ (item k ∷ []) =
      ap (λ (l : List Delay). rs ++ l) (take-suc qs k blank_delay l) ∙ sym (append_assoc rs (take k qs) (item k ∷ [])) in
      rw (s, h.from k l, h.to k l, h.code k l) (put_tabled n few _ _ (puts_tabled t rs d k (omega arith)) (item k) (h.fits k l))

  pub held_tabled : (t : List (List ℕ)) (rs : List Delay) → Tabled n t rs → Tabled n (with_put w t (length qs)) (rs ++ qs)
  held_tabled t rs d = rw (take-length qs) at (puts_tabled t rs d (length qs) (omega arith))

  -- ---- stored, each with the smallest code of its pair

  module _ (most : length qs ≤ 128) where
    -- the table, and what is stored, with the smallest codes
    abbrev full : List (List ℕ)
    full = with_put w empty_table (length qs)

    abbrev heavy : List Inequality
    heavy = heaviest_of (length qs) w

    tabled : Tabled n full qs
    tabled = held_tabled empty_table [] (empty_tabled n)

    heavy_at : (k : ℕ) → k < length qs → nth heavy k ≡ record { from = (nth w k).from; to = (nth w k).to; code = get_or (get_or full (nth w k).from []) (nth w k).to 0 }
    unfolding heaviest_of lowered
    heavy_at k p = nth_listed (λ k. lowered full (nth w k)) 128 (length qs) k most p

    -- after k of them a place has the smallest code of its pair, or it is empty and none of the k is for its pair
    record Stored (k : ℕ) (t : List (List ℕ)) : Type 0 where
      rows : length t ≡ 24
      wide : (i : ℕ) → i < 24 → length (get_or t i []) ≡ 24
      place : (i j : ℕ) → i < 24 → j < 24 → (get_or (get_or t i []) j 0 ≡ code_at qs i j) ⊎ ((get_or (get_or t i []) j 0 ≡ 65535) × (code_at (take k qs) i j ≡ 65535))

    stored : (k : ℕ) → k ≤ length qs → Stored k (with_stored heavy empty_table k)
    unfolding with_stored kept
    stored zero p =
        record { rows = (empty_tabled n).rows; wide = (empty_tabled n).wide; place = λ i j a b. inr ((empty_tabled n).place i j a b ∙ code_none i j, code_none i j) }
    stored (suc k) p = rw (heavy_at k l) (go (stored k (omega arith)))
      where
        l : k < length qs
        l = omega arith

        t : List (List ℕ)
        t = with_stored heavy empty_table k

        code : ℕ
        code = get_or (get_or full (nth w k).from []) (nth w k).to 0

        from24 : (nth w k).from < 24
        from24 = held_placed.from k l

        to24 : (nth w k).to < 24
        to24 = held_placed.to k l

        go : Stored k t → Stored (suc k) (store_in t (nth w k).from (nth w k).to code)
        go s =
            record {
              rows = store_rows t s.rows s.wide _ _ _ from24 to24;
              wide = store_wide t s.rows s.wide _ _ _ from24 to24;
              place = λ i j a b. at i j a b (ℕ_discrete i (nth w k).from) (ℕ_discrete j (nth w k).to);
            }
          where
            new : List (List ℕ)
            new = store_in t (nth w k).from (nth w k).to code

            other : (i j : ℕ) → i < 24 → j < 24 → (i ≡ (nth w k).from → j ≡ (nth w k).to → ⊥) → (get_or (get_or new i []) j 0 ≡ code_at qs i j) ⊎ ((get_or (get_or new i []) j 0 ≡ 65535) × (code_at (take (suc k) qs) i j ≡ 65535))
            other i j a b e = pick (s.place i j a b)
              where
                same : get_or (get_or new i []) j 0 ≡ get_or (get_or t i []) j 0
                same = store_other t s.rows s.wide _ _ _ from24 to24 i j e

                unlike : code_at (take (suc k) qs) i j ≡ code_at (take k qs) i j
                unlike =
                    ap (λ (l : List Delay). code_at l i j) (take-suc qs k blank_delay l) ∙ code_snoc (take k qs) (item k) i j
                    ∙ ap (λ (p : Bool). kept p (coded (item k).weight) (code_at (take k qs) i j)) (other_pair (item k) i j (λ u v. e (u ∙ sym (h.from k l)) (v ∙ sym (h.to k l))))

                pick : (get_or (get_or t i []) j 0 ≡ code_at qs i j) ⊎ ((get_or (get_or t i []) j 0 ≡ 65535) × (code_at (take k qs) i j ≡ 65535))
                    → (get_or (get_or new i []) j 0 ≡ code_at qs i j) ⊎ ((get_or (get_or new i []) j 0 ≡ 65535) × (code_at (take (suc k) qs) i j ≡ 65535))
                pick (inl g) = inl (same ∙ g)
                pick (inr g) = inr (same ∙ g.0, unlike ∙ g.1)

            at : (i j : ℕ) → i < 24 → j < 24 → Dec (i ≡ (nth w k).from) → Dec (j ≡ (nth w k).to) → (get_or (get_or new i []) j 0 ≡ code_at qs i j) ⊎ ((get_or (get_or new i []) j 0 ≡ 65535) × (code_at (take (suc k) qs) i j ≡ 65535))
            at i j a b (yes e) (yes g) = inl (rw (e, g) (store_same t s.rows s.wide _ _ _ from24 to24 ∙ tabled.place _ _ from24 to24))
            at i j a b (yes e) (no g) = other i j a b (λ _ v. g v)
            at i j a b (no e) g = other i j a b (λ u _. e u)

    -- so in the end it is the table of all
    pub heavy_tabled : Tabled n (with_stored heavy empty_table (length qs)) qs
    heavy_tabled =
        let s = stored (length qs) (omega arith) in
        record { rows = s.rows; wide = s.wide; place = λ i j a b. pick i j (s.place i j a b); fits = tabled.fits }
      where
        pick : (i j : ℕ) {x : ℕ} → (x ≡ code_at qs i j) ⊎ ((x ≡ 65535) × (code_at (take (length qs) qs) i j ≡ 65535)) → x ≡ code_at qs i j
        pick i j (inl e) = e
        pick i j (inr e) = e.0 ∙ sym e.1 ∙ ap (λ (l : List Delay). code_at l i j) (take-length qs)
