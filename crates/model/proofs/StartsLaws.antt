-- Least starts: they keep the inequalities and the ends, no solution has a smaller start, and they exist exactly where there is a solution.
use Rattle.std.specs.Prelude.{if◌then◌else◌}
use Prim.Native.Nat.{ℕ, zero, suc, ◌+◌, ◌≤◌, ◌<◌, max, pred}
use mathlib.Core.Path.{◌≡◌, refl, ap, ap₂, sym, ◌∙◌, subst}
use mathlib.Core.Logic.{◌⊎◌, inl, inr, ◌↔◌}
use mathlib.Core.Bool.{Bool, true, false, ◌&&◌}
use mathlib.Core.Option.{Option, none, some}
use mathlib.Core.List.Memᴰ
use mathlib.Core.List.{List, [], ◌∷◌, map, Memᴰ}
use native.Mathlib.Omega.{arith}
use native.Mathlib.Nat.{le_refl, le_of_eq}
use native.Mathlib.Decide.{dec_lt, dec_le}
use lib.ListN.{length, get_or, length-map, get_or-eq_default}
use lib.Dec.{leb, eqb}
use lib.Seq.{ext_get_or}
use borrow.Author.Tests.{leb-true, le-leb, eqb-true, eqb-false, eq-eqb}
use Rattle.model.specs.Common.{count, is_some}
use Rattle.model.specs.declared.Delay.{Delay}
use Rattle.model.specs.declared.Batch.{Batch}
use Rattle.model.specs.Batch.{earliest, latest, earliest_starts, latest_starts}
use Rattle.model.specs.Plan.{start, Keeps, KeepsEnds}
use Rattle.model.specs.Starts.{plus, raised, rounds, same, in_time, least_starts, Solution, Least}
use Rattle.model.proofs.PlusLaws.{plus_mono, plus_shift, plus_le, le_plus}
use Rattle.model.proofs.BoolLaws.{apart, both}
use Rattle.model.proofs.ListLaws.{count_length, all_each, each_all, count_some, some_count}
use Rattle.model.proofs.SeqLaws.{listed_at, listed_length}

-- ---- one round

-- old t_i + w of an inequality
unfoldable pub reach : List ℕ → Delay → ℕ
reach old q = plus (get_or old q.from 0) q.weight

pub raised_old : (qs : List Delay) (old : List ℕ) (j : ℕ) → get_or old j 0 ≤ raised qs old j
unfolding raised
raised_old [] old j = le_refl (get_or old j 0)
raised_old (q ∷ qs) old j = go (eqb q.to j) (raised_old qs old j)
  where
    go : (p : Bool) → get_or old j 0 ≤ raised qs old j → get_or old j 0 ≤ (if p then max (plus (get_or old q.from 0) q.weight) (raised qs old j) else raised qs old j)
    go true h = omega arith
    go false h = h

pub raised_in : (qs : List Delay) (old : List ℕ) (q : Delay) → Memᴰ q qs → reach old q ≤ raised qs old q.to
unfolding raised reach
raised_in [] old q m = absurd (Memᴰ.not-nil m)
raised_in (r ∷ qs) old q m = go (eqb r.to q.to) refl (Memᴰ.cases_cons m) (raised_in qs old q)
  where
    go : (p : Bool) → eqb r.to q.to ≡ p → (q ≡ r) ⊎ Memᴰ q qs → (Memᴰ q qs → plus (get_or old q.from 0) q.weight ≤ raised qs old q.to) → plus (get_or old q.from 0) q.weight ≤ (if p then max (plus (get_or old r.from 0) r.weight) (raised qs old q.to) else raised qs old q.to)
    go true h (inl e) rec = omega (arith, ap (λ (x : Delay). plus (get_or old x.from 0) x.weight) e)
    go true h (inr k) rec = omega (arith, rec k)
    go false h (inl e) rec = apart (sym h ∙ eq-eqb r.to q.to (ap (λ (x : Delay). x.to) (sym e)))
    go false h (inr k) rec = rec k

-- why a start has its value v after a round
pub record Why (qs : List Delay) (old : List ℕ) (j v : ℕ) : Type 0 where
  pub why : Delay
  pub listed : Memᴰ why qs
  pub ends : why.to ≡ j
  pub value : v ≡ reach old why

pub raised_why : (qs : List Delay) (old : List ℕ) (j : ℕ) → (raised qs old j ≡ get_or old j 0) ⊎ Why qs old j (raised qs old j)
unfolding raised reach
raised_why [] old j = inl refl
raised_why (q ∷ qs) old j = go (eqb q.to j) refl (dec_le (raised qs old j) (reach old q)) (raised_why qs old j)
  where
    later : {v : ℕ} → v ≡ raised qs old j → (raised qs old j ≡ get_or old j 0) ⊎ Why qs old j (raised qs old j) → (v ≡ get_or old j 0) ⊎ Why (q ∷ qs) old j v
    later e (inl h) = inl (e ∙ h)
    later e (inr w) = inr (record { why = w.why; listed = Memᴰ.tail w.listed; ends = w.ends; value = e ∙ w.value })

    go : (p : Bool) → eqb q.to j ≡ p → Dec (raised qs old j ≤ reach old q) → (raised qs old j ≡ get_or old j 0) ⊎ Why qs old j (raised qs old j) → ((if p then max (reach old q) (raised qs old j) else raised qs old j) ≡ get_or old j 0) ⊎ Why (q ∷ qs) old j (if p then max (reach old q) (raised qs old j) else raised qs old j)
    go true h (yes g) rec = inr (record { why = q; listed = Memᴰ.head refl; ends = eqb-true q.to j h; value = omega arith })
    go true h (no g) rec = later (omega arith) rec
    go false h g rec = later refl rec

-- ---- lists by number

get_d_map_count : (f : ℕ → ℕ) (a m j : ℕ) → j < m → get_or (map f (count a m)) j 0 ≡ f (a + j)
unfolding count
get_d_map_count f a zero j h = absurd (omega arith)
get_d_map_count f a (suc m) zero h = ap f (omega arith)
get_d_map_count f a (suc m) (suc j) h = get_d_map_count f (suc a) m j (omega arith) ∙ ap f (omega arith)

-- ---- different numbers below n are at most n
abbrev pub Different : List ℕ → Type 0
Different [] = Unit {0}
Different (x ∷ xs) = (¬ Memᴰ x xs) × Different xs

unfoldable pub without : ℕ → List ℕ → List ℕ
without n [] = []
without n (x ∷ xs) = elim (eqb x n) [ true ↦ without n xs | false ↦ x ∷ without n xs ]

without_in : (n x : ℕ) (xs : List ℕ) → Memᴰ x (without n xs) → Memᴰ x xs × ¬ (x ≡ n)
unfolding without
without_in n x [] m = absurd (Memᴰ.not-nil m)
without_in n x (y ∷ xs) m = go (eqb y n) refl m (without_in n x xs)
  where
    pick : ¬ (y ≡ n) → (x ≡ y) ⊎ Memᴰ x (without n xs) → (Memᴰ x (without n xs) → Memᴰ x xs × ¬ (x ≡ n)) → Memᴰ x (y ∷ xs) × ¬ (x ≡ n)
    pick h (inl e) rec = (Memᴰ.head e, λ z. h (sym e ∙ z))
    pick h (inr k) rec = let r = rec k in (Memᴰ.tail r.0, r.1)

    go : (p : Bool) → eqb y n ≡ p → Memᴰ x (elim p [ true ↦ without n xs | false ↦ y ∷ without n xs ]) → (Memᴰ x (without n xs) → Memᴰ x xs × ¬ (x ≡ n)) → Memᴰ x (y ∷ xs) × ¬ (x ≡ n)
    go true h m rec = let r = rec m in (Memᴰ.tail r.0, r.1)
    go false h m rec = pick (λ e. eqb-false y n h e) (Memᴰ.cases_cons m) rec

without_different : (n : ℕ) (xs : List ℕ) → Different xs → Different (without n xs)
unfolding without
without_different n [] d = tt
without_different n (x ∷ xs) d = go (eqb x n) (without_different n xs d.1)
  where
    go : (p : Bool) → Different (without n xs) → Different (elim p [ true ↦ without n xs | false ↦ x ∷ without n xs ])
    go true rec = rec
    go false rec = (λ m. d.0 (without_in n x xs m).0, rec)

without_none : (n : ℕ) (xs : List ℕ) → ¬ Memᴰ n xs → length xs ≤ length (without n xs)
unfolding without
without_none n [] h = omega arith
without_none n (x ∷ xs) h = go (eqb x n) refl (without_none n xs (λ m. h (Memᴰ.tail m)))
  where
    go : (p : Bool) → eqb x n ≡ p → length xs ≤ length (without n xs) → suc (length xs) ≤ length {A = ℕ} (elim p [ true ↦ without n xs | false ↦ x ∷ without n xs ])
    go true g rec = absurd (h (Memᴰ.head (sym (eqb-true x n g))))
    go false g rec = omega arith

without_one : (n : ℕ) (xs : List ℕ) → Different xs → length xs ≤ suc (length (without n xs))
unfolding without
without_one n [] d = omega arith
without_one n (x ∷ xs) d = go (eqb x n) refl (without_one n xs d.1)
  where
    gone : eqb x n ≡ true → ¬ Memᴰ n xs
    gone g m = d.0 (subst (λ (z : ℕ). Memᴰ z xs) (sym (eqb-true x n g)) m)

    go : (p : Bool) → eqb x n ≡ p → length xs ≤ suc (length (without n xs)) → suc (length xs) ≤ suc (length {A = ℕ} (elim p [ true ↦ without n xs | false ↦ x ∷ without n xs ]))
    go true g rec = omega (arith, without_none n xs (gone g))
    go false g rec = omega arith

pub pigeons : (n : ℕ) (xs : List ℕ) → Different xs → ((x : ℕ) → Memᴰ x xs → x < n) → length xs ≤ n
pigeons zero [] d h = omega arith
pigeons zero (x ∷ xs) d h = absurd (omega (arith, h x (Memᴰ.head refl)))
pigeons (suc n) xs d h =
    omega (
      arith,
      without_one n xs d,
      pigeons n (without n xs) (without_different n xs d) (λ x m. let r = without_in n x xs m in let g : ¬ (x ≡ n) = r.1 in omega (arith, h x r.0)),
    )

-- ---- rounds

module _ (qs : List Delay) (first : List ℕ) where
  -- job j's start after k rounds
  unfoldable pub after : ℕ → ℕ → ℕ
  after k j = get_or (rounds qs first k) j 0

  pub rounds_length : (k : ℕ) → length (rounds qs first k) ≡ length first
  unfolding rounds
  rounds_length zero = refl
  rounds_length (suc k) = length-map (count 0 (length first)) (raised qs (rounds qs first k)) ∙ count_length 0 (length first)

  pub after_suc : (k j : ℕ) → j < length first → after (suc k) j ≡ raised qs (rounds qs first k) j
  unfolding rounds after
  after_suc k j h = get_d_map_count (raised qs (rounds qs first k)) 0 (length first) j h ∙ ap (raised qs (rounds qs first k)) (omega arith)

  pub after_out : (k j : ℕ) → length first ≤ j → after k j ≡ 0
  unfolding after
  after_out k j h = get_or-eq_default (rounds qs first k) 0 (omega (arith, rounds_length k))

  pub after_rises : (k j : ℕ) → after k j ≤ after (suc k) j
  unfolding after
  after_rises k j = go (dec_lt j (length first))
    where
      go : Dec (j < length first) → after k j ≤ after (suc k) j
      go (yes h) = omega (arith, after_suc k j h, raised_old qs (rounds qs first k) j)
      go (no h) = omega (arith, after_out k j (omega arith))

  pub after_mono : (k m j : ℕ) → k ≤ m → after k j ≤ after m j
  after_mono k zero j h = omega (arith, ap (λ (x : ℕ). after x j) (sub_zero_eq k h))
    where
      sub_zero_eq : (k : ℕ) → k ≤ zero → k ≡ 0
      sub_zero_eq k h = omega arith
  after_mono k (suc m) j h = go (dec_le k m) (after_mono k m j)
    where
      same_k : ¬ (k ≤ m) → k ≡ suc m
      same_k g = omega arith

      go : Dec (k ≤ m) → (k ≤ m → after k j ≤ after m j) → after k j ≤ after (suc m) j
      go (yes g) rec = omega (arith, rec g, after_rises m j)
      go (no g) rec = omega (arith, ap (λ (x : ℕ). after x j) (same_k g))

  -- ---- a solution, as a function: it keeps the inequalities and is not below the first starts
  pub record Solves (u : ℕ → ℕ) : Type 0 where
    pub above : (j : ℕ) → get_or first j 0 ≤ u j
    pub keeps : (q : Delay) → Memᴰ q qs → plus (u q.from) q.weight ≤ u q.to

  -- no round passes a solution
  pub after_below : (u : ℕ → ℕ) → Solves u → (k j : ℕ) → after k j ≤ u j
  unfolding after rounds reach
  after_below u s zero j = s.above j
  after_below u s (suc k) j = go (dec_lt j (length first)) (after_below u s k)
    where
      by : ((i : ℕ) → after k i ≤ u i) → (raised qs (rounds qs first k) j ≡ get_or (rounds qs first k) j 0) ⊎ Why qs (rounds qs first k) j (raised qs (rounds qs first k) j) → raised qs (rounds qs first k) j ≤ u j
      by rec (inl e) = omega (arith, rec j)
      by rec (inr w) =
          omega (
            arith,
            w.value,
            plus_mono w.why.weight (rec w.why.from),
            s.keeps w.why w.listed,
            ap u w.ends,
          )

      go : Dec (j < length first) → ((i : ℕ) → after k i ≤ u i) → after (suc k) j ≤ u j
      go (yes h) rec = omega (arith, after_suc k j h, by rec (raised_why qs (rounds qs first k) j))
      go (no h) rec = omega (arith, after_out (suc k) j (omega arith))

  -- ---- what changes a start: a start that changed the round before
  pub record Changed (k j : ℕ) : Type 0 where
    pub q : Delay
    pub listed : Memᴰ q qs
    pub ends : q.to ≡ j
    pub value : after (suc k) j ≡ plus (after k q.from) q.weight

  pub changed : (k j : ℕ) → after k j < after (suc k) j → Changed k j
  unfolding after reach
  changed k j h = go (dec_lt j (length first))
    where
      by : after (suc k) j ≡ raised qs (rounds qs first k) j → (raised qs (rounds qs first k) j ≡ get_or (rounds qs first k) j 0) ⊎ Why qs (rounds qs first k) j (raised qs (rounds qs first k) j) → Changed k j
      by e (inl g) = absurd (omega arith)
      by e (inr w) = record { q = w.why; listed = w.listed; ends = w.ends; value = e ∙ w.value }

      go : Dec (j < length first) → Changed k j
      go (yes g) = by (after_suc k j g) (raised_why qs (rounds qs first k) j)
      go (no g) = absurd (omega (arith, after_out (suc k) j (omega arith)))

  -- its source changed in round k, where k is above 0
  pub source_changed : (k j : ℕ) → j < length first → (c : Changed (suc k) j) → after (suc k) j < after (suc (suc k)) j → after k c.q.from < after (suc k) c.q.from
  unfolding after reach
  source_changed k j g c h = go (dec_lt (after k c.q.from) (after (suc k) c.q.from))
    where
      i : ℕ
      i = c.q.from

      stays : ¬ (after k i < after (suc k) i) → plus (after (suc k) i) c.q.weight ≤ plus (after k i) c.q.weight
      stays n = plus_mono c.q.weight (omega (arith, after_rises k i))

      in_round : plus (after k i) c.q.weight ≤ after (suc k) j
      in_round = omega (arith, raised_in qs (rounds qs first k) c.q c.listed, after_suc k j g, ap (raised qs (rounds qs first k)) c.ends)

      go : Dec (after k i < after (suc k) i) → after k i < after (suc k) i
      go (yes n) = n
      go (no n) = absurd (omega (arith, stays n, in_round, c.value))

  -- ---- a chain of changes, each the cause of the next: jobs c_k, .., c_0, with what u leaves over them never falling
  module _ (u : ℕ → ℕ) (s : Solves u) (inside : (q : Delay) → Memᴰ q qs → q.from < length first) where
    -- u leaves no less over job j after k + 1 rounds than over job i after k
    abbrev Edge : ℕ → ℕ → ℕ → Type 0
    Edge k i j = u i + after (suc k) j ≤ u j + after k i

    pub data Chain : ℕ → ℕ → List ℕ → Type 0 where
      one : (i : ℕ) → i < length first → Chain 0 i (i ∷ [])
      more : {k i : ℕ} {cs : List ℕ} (j : ℕ) → j < length first → after k j < after (suc k) j → Edge k i j → Chain k i cs → Chain (suc k) j (j ∷ cs)

    chain_below : {k j : ℕ} {cs : List ℕ} → Chain k j cs → (x : ℕ) → Memᴰ x cs → x < length first
    chain_below (one i h) x m = omega (arith, Memᴰ.eq_of_singleton m)
    chain_below (more {k} {i} {cs} j h c e r) x m = go (Memᴰ.cases_cons m) (chain_below r x)
      where
        go : (x ≡ j) ⊎ Memᴰ x cs → (Memᴰ x cs → x < length first) → x < length first
        go (inl q) rec = omega arith
        go (inr k) rec = rec k

    chain_length : {k j : ℕ} {cs : List ℕ} → Chain k j cs → length cs ≡ suc k
    chain_length (one i h) = refl
    chain_length (more j h c e r) = ap suc (chain_length r)

    chain_over : {k j : ℕ} {cs : List ℕ} → Chain k j cs → (x : ℕ) → Memᴰ x cs → (m : ℕ) × (m ≤ k) × (u x + after k j ≤ u j + after m x)
    chain_over (one i h) x m = (0, le_refl 0, le_of_eq (ap (λ (z : ℕ). u z + after 0 i) (Memᴰ.eq_of_singleton m) ∙ ap (λ (z : ℕ). u i + after 0 z) (sym (Memᴰ.eq_of_singleton m))))
    chain_over (more {k} {i} {cs} j h c e r) x m = go (Memᴰ.cases_cons m) (chain_over r x)
      where
        go : (x ≡ j) ⊎ Memᴰ x cs → (Memᴰ x cs → (n : ℕ) × (n ≤ k) × (u x + after k i ≤ u i + after n x)) → (n : ℕ) × (n ≤ suc k) × (u x + after (suc k) j ≤ u j + after n x)
        go (inl q) rec = (suc k, le_refl (suc k), omega (arith, ap u q, ap (after (suc k)) q))
        go (inr y) rec = let t = rec y in (t.0, omega (arith, t.1), omega (arith, t.2))

    chain_new : {k i : ℕ} {cs : List ℕ} (j : ℕ) → after k j < after (suc k) j → Edge k i j → Chain k i cs → ¬ Memᴰ j cs
    chain_new {k} {i} j c e r m =
        let t = chain_over r j m in
        omega (arith, t.2, after_mono t.0 k j t.1)

    chain_different : {k j : ℕ} {cs : List ℕ} → Chain k j cs → Different cs
    chain_different (one i h) = (λ m. Memᴰ.not-nil m, tt)
    chain_different (more j h c e r) = (chain_new j c e r, chain_different r)

    edge : (k j : ℕ) → after k j < after (suc k) j → (c : Changed k j) → Edge k c.q.from j
    edge k j h c =
        omega (
          arith,
          c.value,
          plus_shift c.q.weight (after k c.q.from) (u c.q.from) (omega (arith, c.value)) (after_below u s k c.q.from),
          after_below u s k c.q.from,
          s.keeps c.q c.listed,
          ap u c.ends,
        )

    chain_to : (k j : ℕ) → j < length first → after k j < after (suc k) j → (cs : List ℕ) × Chain (suc k) j cs
    chain_to zero j g h =
        let c = changed 0 j h in
        (j ∷ c.q.from ∷ [], more j g h (edge 0 j h c) (one c.q.from (inside c.q c.listed)))
    chain_to (suc k) j g h =
        let c = changed (suc k) j h in
        let r = chain_to k c.q.from (inside c.q c.listed) (source_changed k j g c h) in
        (j ∷ r.0, more j g h (edge (suc k) j h c) r.1)

    -- round n changes nothing, and so no later one
    pub settles : (k j : ℕ) → length first ≤ suc k → after (suc k) j ≤ after k j
    settles k j n = go (dec_lt j (length first)) (dec_lt (after k j) (after (suc k) j))
      where
        go : Dec (j < length first) → Dec (after k j < after (suc k) j) → after (suc k) j ≤ after k j
        go (yes g) (yes h) =
            let r = chain_to k j g h in
            absurd (omega (arith, pigeons (length first) r.0 (chain_different r.1) (chain_below r.1), chain_length r.1))
        go (yes g) (no h) = omega arith
        go (no g) h = omega (arith, after_out (suc k) j (omega arith))

-- ---- least starts

-- the test for the same starts
pub same_eq : (xs ys : List ℕ) → same xs ys ≡ true → xs ≡ ys
unfolding same
same_eq [] [] e = refl
same_eq [] (y ∷ ys) e = apart e
same_eq (x ∷ xs) [] e = apart e
same_eq (x ∷ xs) (y ∷ ys) e = go (eqb x y) refl e (same_eq xs ys)
  where
    go : (p : Bool) → eqb x y ≡ p → (p && same xs ys) ≡ true → (same xs ys ≡ true → xs ≡ ys) → ◌≡◌ {A = List ℕ} (x ∷ xs) (y ∷ ys)
    go true h e rec = ap₂ (λ (a : ℕ) (l : List ℕ). a ∷ l) (eqb-true x y h) (rec e)
    go false h e rec = apart e

pub same_refl : (xs : List ℕ) → same xs xs ≡ true
unfolding same
same_refl [] = refl
same_refl (x ∷ xs) = rw (eq-eqb x x refl, same_refl xs)

-- inequalities between the n jobs
unfoldable pub Inside : ℕ → List Delay → Type 0
Inside n qs = (q : Delay) → Memᴰ q qs → (q.from < n) × (q.to < n)

module _ (first last : List ℕ) (qs : List Delay) where
  -- past the jobs nothing has an earliest start
  pub above_each : (us : List ℕ) → Solution first last qs us → (j : ℕ) → get_or first j 0 ≤ start us j
  above_each us s j = go (dec_lt j (length first))
    where
      go : Dec (j < length first) → get_or first j 0 ≤ start us j
      go (yes h) = s.above j h
      go (no h) = omega (arith, get_or-eq_default first 0 {n = j} (omega arith))

  -- as a function
  solution_solves : (us : List ℕ) → Solution first last qs us → Solves qs first (start us)
  unfolding Keeps
  solution_solves us s =
      record { above = above_each us s; keeps = λ q m. plus_le q.weight (start us q.from) (start us q.to) (s.keeps q m) }

  abbrev n : ℕ
  n = length first

  -- what was tested of least starts
  record Tested (ts : List ℕ) : Type 0 where
    is : rounds qs first n ≡ ts
    before : rounds qs first (pred n) ≡ ts
    in_time_lem : in_time last ts ≡ true

  tested : (ts : List ℕ) → least_starts first last qs ≡ some ts → Tested ts
  unfolding least_starts
  tested ts e = go (same (rounds qs first n) (rounds qs first (pred n)) && in_time last (rounds qs first n)) refl e
    where
      go : (p : Bool) → (same (rounds qs first n) (rounds qs first (pred n)) && in_time last (rounds qs first n)) ≡ p → (if p then some (rounds qs first n) else none) ≡ some ts → Tested ts
      go true h e =
          let z : rounds qs first n ≡ ts = cc in
          let r = both (same (rounds qs first n) (rounds qs first (pred n))) _ h in
          record { is = z; before = sym (same_eq _ _ r.0) ∙ z; in_time_lem = ap (in_time last) (sym z) ∙ r.1 }
      go false h e = let z : ◌≡◌ {A = ℕ} 0 1 = cc in absurd (omega arith)

  -- least starts are a round that the one before it did not differ from
  pub least_round : (ts : List ℕ) → least_starts first last qs ≡ some ts → (rounds qs first n ≡ ts) × (rounds qs first (pred n) ≡ ts)
  least_round ts e = let t = tested ts e in (t.is, t.before)

  pub least_length : (ts : List ℕ) → least_starts first last qs ≡ some ts → length ts ≡ n
  least_length ts e = ap length (sym (least_round ts e).0) ∙ rounds_length qs first n

  -- they keep the inequalities and the ends
  pub least_solution : Inside n qs → (ts : List ℕ) → least_starts first last qs ≡ some ts → Solution first last qs ts
  unfolding Inside Keeps start reach after in_time rounds
  least_solution inside ts e = record { keeps = keeps; above = above; below = below }
    where
      z : Tested ts
      z = tested ts e

      keeps : (q : Delay) → Memᴰ q qs → Keeps ts q
      keeps q m =
          let one : suc (pred n) ≡ n = omega (arith, (inside q m).1) in
          le_plus q.weight (get_or ts q.from 0) (get_or ts q.to 0)
          (omega (
            arith,
            raised_in qs (rounds qs first (pred n)) q m,
            ap (λ (l : List ℕ). plus (get_or l q.from 0) q.weight) z.before,
            after_suc qs first (pred n) q.to (inside q m).1,
            ap (λ (k : ℕ). get_or (rounds qs first k) q.to 0) one,
            ap (λ (l : List ℕ). get_or l q.to 0) z.is,
          ))

      above : (j : ℕ) → j < n → get_or first j 0 ≤ get_or ts j 0
      above j h = omega (arith, after_mono qs first 0 n j (omega arith), ap (λ (l : List ℕ). get_or l j 0) z.is)

      below : (j : ℕ) → j < n → get_or ts j 0 ≤ get_or last j 0
      below j h = leb-true _ _ (all_each (λ j. leb (get_or ts j 0) (get_or last j 0)) (count 0 (length ts)) z.in_time_lem (some_count 0 (length ts) j (omega arith) (omega (arith, least_length ts e))))

  -- no starts that keep them have a smaller start
  pub least_below : (ts : List ℕ) → least_starts first last qs ≡ some ts → (us : List ℕ) → Solution first last qs us → (j : ℕ) → start ts j ≤ start us j
  unfolding after start
  least_below ts e us s j =
      omega (
        arith,
        after_below qs first (start us) (solution_solves us s) n j,
        ap (λ (l : List ℕ). get_or l j 0) (least_round ts e).0,
      )

  -- they exist where some starts keep the inequalities and the ends
  pub least_found : Inside n qs → (us : List ℕ) → Solution first last qs us → least_starts first last qs ≡ some (rounds qs first n)
  unfolding least_starts after Inside rounds in_time start
  least_found inside us s = rw (settled n refl, in_time_lem)
    where
      unchanged : (m : ℕ) → suc m ≡ n → rounds qs first (suc m) ≡ rounds qs first m
      unchanged m g =
          ext_get_or 0 (rounds qs first (suc m)) (rounds qs first m) (rounds_length qs first (suc m) ∙ sym (rounds_length qs first m))
          (λ j h. omega (
            arith,
            settles qs first (start us) (solution_solves us s) (λ q h. (inside q h).0) m j (omega arith),
            after_rises qs first m j,
          ))

      settled : (m : ℕ) → m ≡ n → same (rounds qs first m) (rounds qs first (pred m)) ≡ true
      settled zero g = same_refl first
      settled (suc m) g = rw (unchanged m g) (same_refl (rounds qs first m))

      in_time_lem : in_time last (rounds qs first n) ≡ true
      in_time_lem =
          each_all (λ j. leb (get_or (rounds qs first n) j 0) (get_or last j 0)) (count 0 (length (rounds qs first n)))
          (λ j m.
          let h : j < n = omega (arith, (count_some 0 (length (rounds qs first n)) j m).1, rounds_length qs first n) in
          le-leb (get_or (rounds qs first n) j 0) (get_or last j 0) (omega (arith, after_below qs first (start us) (solution_solves us s) n j, s.below j h)))

  -- ---- so they are the least solution, and there are some exactly where there is a solution

  pub least_iff : Inside n qs → (ts : List ℕ) → (least_starts first last qs ≡ some ts) ↔ Least first last qs ts
  unfolding start
  least_iff inside ts = (
    λ e. record { long = least_length ts e; solution = least_solution inside ts e; below = least_below ts e },
    λ l.
        let found = least_found inside ts l.solution in
        let least = rounds qs first n in
        found ∙ ap some
        (ext_get_or 0 least ts (rounds_length qs first n ∙ sym l.long)
        (λ j h. omega (arith, least_below least found ts l.solution j, l.below least (least_solution inside least found) j))),
  )

  pub least_exists : Inside n qs → (is_some (least_starts first last qs) ≡ true) ↔ ((us : List ℕ) × Solution first last qs us)
  unfolding is_some
  least_exists inside = (there (least_starts first last qs) refl, λ (us, s). ap is_some (least_found inside us s))
    where
      there : (o : Option (List ℕ)) → least_starts first last qs ≡ o → is_some o ≡ true → (us : List ℕ) × Solution first last qs us
      there none e h = apart h
      there (some ts) e h = (ts, least_solution inside ts e)

-- ---- those of a batch's jobs

module _ (b : Batch) where
  pub ends_length : length (earliest_starts b) ≡ b.n
  unfolding earliest_starts
  ends_length = listed_length (earliest b) b.n

  pub earliest_at : (j : ℕ) → j < b.n → get_or (earliest_starts b) j 0 ≡ earliest b j
  unfolding earliest_starts
  earliest_at = listed_at (earliest b) 0 b.n

  pub latest_at : (j : ℕ) → j < b.n → get_or (latest_starts b) j 0 ≡ latest b j
  unfolding latest_starts
  latest_at = listed_at (latest b) 0 b.n

  -- starts that keep inequalities and the batch's ends
  abbrev pub Solved : List Delay → List ℕ → Type 0
  Solved = Solution (earliest_starts b) (latest_starts b)

  pub solved : (qs : List Delay) (us : List ℕ) → ((q : Delay) → Memᴰ q qs → Keeps us q) → KeepsEnds b us → Solved qs us
  unfolding KeepsEnds
  solved qs us k e =
      record {
        keeps = k;
        above = λ j h. let g : j < b.n = omega (arith, ends_length) in omega (arith, earliest_at j g, (e j g).0);
        below = λ j h. let g : j < b.n = omega (arith, ends_length) in omega (arith, latest_at j g, (e j g).1);
      }

  pub solved_ends : (qs : List Delay) (us : List ℕ) → Solved qs us → KeepsEnds b us
  unfolding KeepsEnds
  solved_ends qs us s j h =
      let g : j < length (earliest_starts b) = omega (arith, ends_length) in
      (omega (arith, earliest_at j h, s.above j g), omega (arith, latest_at j h, s.below j g))

  pub inside_ends : (qs : List Delay) → Inside b.n qs → Inside (length (earliest_starts b)) qs
  unfolding Inside
  inside_ends qs inside q m = let e = inside q m in (omega (arith, e.0, ends_length), omega (arith, e.1, ends_length))
