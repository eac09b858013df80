-- How long a job stays, and what that makes of the latency: no start passes it, it rises with the starts, and it is the first tick in which all is
-- over.
use Rattle.std.specs.Prelude.{if◌then◌else◌}
use Prim.Native.Nat.{ℕ, zero, suc, ◌+◌, ◌≤◌, ◌<◌, max}
use mathlib.Core.Path.{◌≡◌, refl, ap, sym, ◌∙◌, subst}
use mathlib.Core.Logic.{⊎_elim, ◌↔◌}
use mathlib.Core.Bool.{Bool, true, false}
use mathlib.Core.List.Memᴰ
use mathlib.Core.List.{List, [], ◌∷◌, map, foldr, Memᴰ}
use native.Mathlib.Omega.{arith}
use native.Mathlib.Decide.{dec_lt, ℕ_discrete}
use native.Mathlib.Nat.{le_refl}
use lib.ListN.{get_or}
use lib.Dec.{eqb}
use borrow.Author.Tests.{eq-eqb, eqb-true}
use Rattle.model.specs.declared.Job.{Job}
use Rattle.model.specs.declared.Batch.{Batch}
use Rattle.model.specs.Common.{count}
use Rattle.model.specs.Batch.{job_of, ticks, mask}
use Rattle.model.specs.Plan.{start, Holds, stay_in, stay, finish, latency}
use Rattle.model.specs.Finish.{Empty, Over, FirstOver}
use Rattle.model.specs.Format.{Within}
use Rattle.model.proofs.BoolLaws.{T_true, true_T}
use Rattle.model.proofs.ListLaws.{count_some, some_count}
use Rattle.model.proofs.BitLaws.{bit_none, bit_some}

-- ---- the largest of a list

largest_mono : (f g : ℕ → ℕ) (xs : List ℕ) → ((x : ℕ) → f x ≤ g x) → foldr max 0 (map f xs) ≤ foldr max 0 (map g xs)
largest_mono f g [] h = le_refl 0
largest_mono f g (x ∷ xs) h = omega (arith, h x, largest_mono f g xs h)

largest_bound : (f : ℕ → ℕ) (most : ℕ) (xs : List ℕ) → ((x : ℕ) → Memᴰ x xs → f x ≤ most) → foldr max 0 (map f xs) ≤ most
largest_bound f most [] h = omega arith
largest_bound f most (x ∷ xs) h =
    omega (arith, h x (Memᴰ.head refl), largest_bound f most xs (λ y m. h y (Memᴰ.tail m)))

largest_in : (f : ℕ → ℕ) (xs : List ℕ) (x : ℕ) → Memᴰ x xs → f x ≤ foldr max 0 (map f xs)
largest_in f [] x m = absurd (Memᴰ.not-nil m)
largest_in f (y ∷ xs) x m = ⊎_elim (λ e. omega (arith, ap f e)) (λ n. omega (arith, largest_in f xs x n)) (Memᴰ.cases_cons m)

-- ---- a job's stay

module _ (job : Job) where
  -- an empty tick at the end adds nothing, and one that is not empty is the last
  pub stay_less : (a : ℕ) → get_or job.masks a 0 ≡ 0 → stay_in job (suc a) ≡ stay_in job a
  unfolding stay_in
  stay_less a e = rw (eq-eqb (get_or job.masks a 0) 0 e)

  pub stay_here : (a : ℕ) → (get_or job.masks a 0 ≡ 0 → ⊥) → stay_in job (suc a) ≡ suc a
  unfolding stay_in
  stay_here a e = go (eqb (get_or job.masks a 0) 0) refl
    where
      go : (p : Bool) → eqb (get_or job.masks a 0) 0 ≡ p → (if p then stay_in job a else suc a) ≡ suc a
      go true t = absurd (e (eqb-true (get_or job.masks a 0) 0 t))
      go false t = refl

  -- what the stay says of the ticks
  pub record Last (p : ℕ) : Type 0 where
    -- no more ticks than there are
    pub most : stay_in job p ≤ p
    -- a tick from there on is empty
    pub past : (a : ℕ) → a < p → stay_in job p ≤ a → get_or job.masks a 0 ≡ 0
    -- the one before is not
    pub here : (a : ℕ) → stay_in job p ≡ suc a → get_or job.masks a 0 ≡ 0 → ⊥

  pub last : (p : ℕ) → Last p
  unfolding stay_in
  last zero = record { most = omega arith; past = λ a h g. absurd (omega arith); here = λ a e z. omega arith }
  last (suc p) = go (ℕ_discrete (get_or job.masks p 0) 0) (last p)
    where
      go : Dec (get_or job.masks p 0 ≡ 0) → Last p → Last (suc p)
      go (yes e) l =
          let s = stay_less p e in
          record {
            most = omega (arith, l.most);
            past = λ a h g. tick a (ℕ_discrete a p) h (omega arith);
            here = λ a i. l.here a (sym s ∙ i);
          }
        where
          tick : (a : ℕ) → Dec (a ≡ p) → a < suc p → stay_in job p ≤ a → get_or job.masks a 0 ≡ 0
          tick a (yes i) h g = ap (λ (x : ℕ). get_or job.masks x 0) i ∙ e
          tick a (no i) h g = l.past a (omega arith) g
      go (no e) l =
          let s = stay_here p e in
          record {
            most = omega arith;
            past = λ a h g. absurd (omega arith);
            here = λ a i z. let q : a ≡ p = omega arith in e (ap (λ (x : ℕ). get_or job.masks x 0) (sym q) ∙ z);
          }

-- no job stays longer than its ticks
pub stay_short : (b : Batch) (i : ℕ) → stay (job_of b i) ≤ ticks b i
unfolding stay ticks
stay_short b i = omega (arith, (last (job_of b i) (job_of b i).ticks).most)

-- ---- the latency

pub latency_mono : (b : Batch) (ts us : List ℕ) → ((j : ℕ) → start ts j ≤ start us j) → latency b ts ≤ latency b us
unfolding latency finish
latency_mono b ts us h = largest_mono (λ i. finish b i (start ts i)) (λ i. finish b i (start us i)) (count 0 b.n) (λ i. omega (arith, h i))

-- no finish is later
pub finish_latency : (b : Batch) (ts : List ℕ) (i : ℕ) → i < b.n → start ts i + stay (job_of b i) ≤ latency b ts
unfolding latency finish
finish_latency b ts i h = largest_in (λ i. finish b i (start ts i)) (count 0 b.n) i (some_count 0 b.n i (omega arith) (omega arith))

-- and it is no later than any tick that no finish passes
pub latency_most : (b : Batch) (ts : List ℕ) (most : ℕ) → ((i : ℕ) → i < b.n → start ts i + stay (job_of b i) ≤ most) → latency b ts ≤ most
unfolding latency finish
latency_most b ts most h = largest_bound (λ i. finish b i (start ts i)) most (count 0 b.n) (λ i m. h i (omega (arith, (count_some 0 b.n i m).1)))

-- ---- what a customer reads out of it

module _ (b : Batch) (w : Within b) (ts : List ℕ) where
  -- a tick that is held is before the finish
  held_before : (i s y : ℕ) → Holds b ts i s y → y < start ts i + stay (job_of b i)
  unfolding Holds stay ticks mask
  held_before i s y h = go (dec_lt h.0 (stay (job_of b i)))
    where
      go : Dec (h.0 < stay (job_of b i)) → y < start ts i + stay (job_of b i)
      go (yes l) = omega (arith, h.2)
      go (no l) = absurd (bit_none (mask b i h.0) s ((last (job_of b i) (ticks b i)).past h.0 h.1 (omega arith)) (T_true _ h.3))

  over_at : Over b ts (latency b ts)
  over_at =
      record {
        held = λ i s y h p t. omega (arith, held_before i s y t, finish_latency b ts i h);
        empty = λ i h t. omega (arith, finish_latency b ts i h);
      }

  -- a job without a stay holds nothing, and any other holds a station in the tick before it finishes
  over_least : (x : ℕ) → Over b ts x → latency b ts ≤ x
  unfolding Holds Empty stay ticks mask
  over_least x o = latency_most b ts x (λ i h. go i h (stay (job_of b i)) refl)
    where
      go : (i : ℕ) → i < b.n → (k : ℕ) → stay (job_of b i) ≡ k → start ts i + stay (job_of b i) ≤ x
      go i h zero z = omega (arith, o.empty i h (λ a s p q t. omega (arith, held_before i s (start ts i + a) (a, p, refl, t))))
      go i h (suc a) z =
          let l = last (job_of b i) (ticks b i) in
          let inside : a < ticks b i = omega (arith, l.most) in
          let s = bit_some 16 (mask b i a) (w.masks_each i a h inside) (l.here a z) in
          omega (arith, o.held i s.0 (start ts i + a) h s.1 (a, inside, refl, true_T s.2))

  -- the latency is the first tick in which all is over
  pub latency_over : (x : ℕ) → (latency b ts ≡ x) ↔ FirstOver b ts x
  latency_over x = (
    λ e. record { over = subst (Over b ts) e over_at; first = λ y o. omega (arith, over_least y o) },
    λ o. omega (arith, over_least x o.over, o.first (latency b ts) over_at),
  )

-- there is one such tick
pub over_pinned : (b : Batch) (ts : List ℕ) (x y : ℕ) → FirstOver b ts x → FirstOver b ts y → x ≡ y
over_pinned b ts x y h g = omega (arith, h.first y g.over, g.first x h.over)
