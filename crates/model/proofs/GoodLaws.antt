-- What holds at every place that a search reaches: its turns are on different listed clashes with sides 0 or 1, there are none when it
-- has ended, and its best is what was found. Each node keeps this and leaves less open.
use Rattle.std.specs.Prelude.{if◌then◌else◌}
use Prim.Native.Nat.{ℕ, ◌-◌, ◌≤◌, ◌<◌}
use mathlib.Core.Path.{◌≡◌, refl, ap, sym, subst}
use mathlib.Core.Logic.{◌⊎◌, inl, inr}
use mathlib.Core.Bool.{Bool, true, false}
use mathlib.Core.Option.{Option, none, some}
use mathlib.Core.List.Memᴰ
use mathlib.Core.List.{List, [], ◌∷◌, ◌++◌, Memᴰ}
use native.Mathlib.Omega.{arith}
use lib.ListN.{length, take, replicate, length-map, length-append}
use lib.Seq.{take_at}
use Rattle.model.specs.declared.Batch.{Batch}
use Rattle.model.specs.declared.Turn.{Turn}
use Rattle.model.specs.Best.{Best}
use Rattle.std.specs.Prelude.{None, Some}
use Rattle.model.specs.Common.{pad}
use Rattle.model.specs.Limits.{most_jobs}
use Rattle.model.specs.Plan.{Valid, latency}
use Rattle.model.specs.Clash.{clashes}
use Rattle.model.specs.Search.{Incumbent, Place, starts_at, first_met, turned_back, back_to, back, prunes, become_best, branch, visit, next}
use Rattle.model.proofs.BoolLaws.{apart}
use Rattle.model.proofs.ListLaws.{some_map}
use Rattle.model.proofs.StartsLaws.{Different, pigeons}
use Rattle.model.proofs.BackLaws.{numbers, Backed, BackTo, back_is, back_numbers, back_different, back_sides, left, left_append, left_back}
use Rattle.model.proofs.NodeLaws.{Fits, Named, met_first, met_new, at_length, valid_found}

different_append : (xs : List ℕ) (k : ℕ) → Different xs → ¬ Memᴰ k xs → Different (xs ++ (k ∷ []))
different_append [] k d n = (λ m. Memᴰ.not-nil m, tt)
different_append (x ∷ xs) k d n = (λ m. new (Memᴰ.append_cases xs m), different_append xs k d.1 (λ m. n (Memᴰ.tail m)))
  where
    new : Memᴰ x xs ⊎ Memᴰ x (k ∷ []) → ⊥
    new (inl m) = d.0 m
    new (inr m) = n (Memᴰ.head (sym (Memᴰ.eq_of_singleton m)))

pub numbers_append : (ts : List Turn) (t : Turn) → numbers (ts ++ (t ∷ [])) ≡ numbers ts ++ (t.clash ∷ [])
unfolding numbers
numbers_append [] t = refl
numbers_append (u ∷ ts) t = ap (λ (l : List ℕ). u.clash ∷ l) (numbers_append ts t)

module _ (b : Batch) where
  -- turns on different listed clashes, with sides 0 or 1
  pub record GoodTurns (ts : List Turn) : Type 0 where
    pub below : (x : ℕ) → Memᴰ x (numbers ts) → x < length (clashes b)
    pub different : Different (numbers ts)
    pub sides : (t : Turn) → Memᴰ t ts → t.side ≤ 1

  pub good_none : GoodTurns []
  unfolding numbers
  good_none = record { below = λ x m. absurd (Memᴰ.not-nil m); different = tt; sides = λ t m. absurd (Memᴰ.not-nil m) }

  pub good_named : (ts : List Turn) → GoodTurns ts → Named b ts
  unfolding Named numbers
  good_named ts g t m = g.below t.clash (some_map (λ (t : Turn). t.clash) ts m)

  -- there are at most as many turns as clashes
  pub good_length : (ts : List Turn) → GoodTurns ts → length ts ≤ length (clashes b)
  unfolding numbers
  good_length ts g = omega (arith, pigeons (length (clashes b)) (numbers ts) g.different g.below, length-map ts (λ (t : Turn). t.clash))

  good_back : {ts us : List Turn} → Backed ts us → GoodTurns ts → GoodTurns us
  good_back h g =
      record {
        below = λ x m. g.below x (back_numbers h x m);
        different = back_different h g.different;
        sides = back_sides h g.sides;
      }

  good_append : (ts : List Turn) (k : ℕ) → GoodTurns ts → k < length (clashes b) → ¬ Memᴰ k (numbers ts) → GoodTurns (ts ++ (record { clash = k; side = 0 } ∷ []))
  good_append ts k g h n =
      record {
        below = λ x m. below x (Memᴰ.append_cases (numbers ts) (subst (λ (l : List ℕ). Memᴰ x l) eq m));
        different = subst (λ (l : List ℕ). Different l) (sym eq) (different_append (numbers ts) k g.different n);
        sides = λ u m. side u (Memᴰ.append_cases ts m);
      }
    where
      t : Turn
      t = record { clash = k; side = 0 }

      eq : numbers (ts ++ (t ∷ [])) ≡ numbers ts ++ (k ∷ [])
      eq = numbers_append ts t

      below : (x : ℕ) → Memᴰ x (numbers ts) ⊎ Memᴰ x (k ∷ []) → x < length (clashes b)
      below x (inl m) = g.below x m
      below x (inr m) = omega (arith, Memᴰ.eq_of_singleton m)

      side : (u : Turn) → Memᴰ u ts ⊎ Memᴰ u (t ∷ []) → u.side ≤ 1
      side u (inl m) = g.sides u m
      side u (inr m) = omega (arith, ap (λ (v : Turn). v.side) (Memᴰ.eq_of_singleton m))

  -- a clash that is not on the path leaves room for a turn
  pub good_room : (ts : List Turn) (k : ℕ) → GoodTurns ts → k < length (clashes b) → ¬ Memᴰ k (numbers ts) → length ts < length (clashes b)
  good_room ts k g h n =
      omega (arith, good_length (ts ++ (record { clash = k; side = 0 } ∷ [])) (good_append ts k g h n), length-append ts (record { clash = k; side = 0 } ∷ []))

-- I says what is kept of best. It must hold of every best that a node finds
module _ (b : Batch) (fits : Fits b) (I : Incumbent → Type 0) (new : (ts : List Turn) → Named b ts → (ss : List ℕ) → starts_at (clashes b) b ts ≡ some ss → first_met (clashes b) ss 0 ≡ none → I (become_best b ss)) where
  pub record Good (p : Place) : Type 0 where
    pub turns : GoodTurns b p.turns
    pub best : I p.incumbent
    pub over : p.ended ≡ true → p.turns ≡ []

  -- a place after a node: still good, and ended or with less left open
  pub record Step (ts : List Turn) (q : Place) : Type 0 where
    pub good : Good q
    pub down : (q.ended ≡ true) ⊎ ((q.ended ≡ false) × (left (length (clashes b)) q.turns < left (length (clashes b)) ts))

  step_back : (ts : List Turn) (found : Incumbent) → GoodTurns b ts → I found → Step ts (back ts found)
  unfolding back back_to
  step_back ts found g i = go (turned_back ts) (back_is ts)
    where
      go : (o : Option (List Turn)) → BackTo ts o → Step ts (back_to found o)
      go (some us) h =
          record {
            good = record { turns = good_back b h g; best = i; over = λ e. apart e };
            down = inr (refl, left_back (length (clashes b)) h (good_length b ts g));
          }
      go none h = record { good = record { turns = good_none b; best = i; over = λ e. refl }; down = inl refl }

  pub step_next : (p : Place) → Good p → Step p.turns (next (clashes b) b p)
  unfolding next visit branch
  step_next p g = by (starts_at (clashes b) b p.turns) refl
    where
      named : Named b p.turns
      named = good_named b p.turns g.turns

      append : (k : ℕ) → k < length (clashes b) → ¬ Memᴰ k (numbers p.turns) → Step p.turns (record { turns = p.turns ++ (record { clash = k; side = 0 } ∷ []); incumbent = p.incumbent; ended = false })
      append k h new =
          record {
            good = record { turns = good_append b p.turns k g.turns h new; best = g.best; over = λ e. apart e };
            down = inr (refl, omega (arith, left_append (length (clashes b)) p.turns k (good_room b p.turns k g.turns h new)));
          }

      at_clash : (ss : List ℕ) → starts_at (clashes b) b p.turns ≡ some ss → (o : Option ℕ) → first_met (clashes b) ss 0 ≡ o → Step p.turns (branch b p ss o)
      at_clash ss e (some k) f = append k (omega (arith, (met_first (clashes b) ss 0 k f).1)) (met_new b fits p.turns named ss e k f)
      at_clash ss e none f = step_back p.turns (become_best b ss) g.turns (new p.turns named ss e f)

      at_starts : (ss : List ℕ) → starts_at (clashes b) b p.turns ≡ some ss → (q : Bool) → Step p.turns (if q then back p.turns p.incumbent else branch b p ss (first_met (clashes b) ss 0))
      at_starts ss e true = step_back p.turns p.incumbent g.turns g.best
      at_starts ss e false = at_clash ss e (first_met (clashes b) ss 0) refl

      by : (o : Option (List ℕ)) → starts_at (clashes b) b p.turns ≡ o → Step p.turns (visit (clashes b) b p o)
      by none e = step_back p.turns p.incumbent g.turns g.best
      by (some ss) e = at_starts ss e (prunes p.incumbent.best (latency b ss))

-- ---- what is kept of a best that a search opened here has found: it is a valid plan with its latency

abbrev pub ValidBest : Batch → Incumbent → Type 0
ValidBest b i = Told i.best
  where
    Told : Best → Type 0
    Told None = Unit {0}
    Told (Some l) = Valid b (take b.n i.starts) × (latency b (take b.n i.starts) ≡ l)

pub valid_new : (b : Batch) (fits : Fits b) (ts : List Turn) → Named b ts → (ss : List ℕ) → starts_at (clashes b) b ts ≡ some ss → first_met (clashes b) ss 0 ≡ none → ValidBest b (become_best b ss)
unfolding become_best pad
valid_new b fits ts named ss e f =
    let z : take b.n (ss ++ replicate (most_jobs - length ss) 0) ≡ ss = take_at ss (replicate (most_jobs - length ss) 0) b.n (at_length b fits ts ss e) in
    (rw z (valid_found b fits ts named ss e f), ap (latency b) z)
