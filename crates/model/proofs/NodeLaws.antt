-- One node: what its least starts are, that no clash on its path is met, and that it keeps what a search claims of every valid plan:
-- it is at or above best, or still open.
use Rattle.std.specs.Prelude.{if◌then◌else◌}
use Prim.Native.Nat.{ℕ, zero, suc, ◌+◌, ◌-◌, ◌≤◌, ◌<◌}
use mathlib.Core.Path.{◌≡◌, refl, ap, sym, ◌∙◌, subst}
use mathlib.Core.Logic.{◌⊎◌, inl, inr, ⊎_elim}
use mathlib.Core.Bool.{Bool, true, false}
use mathlib.Core.Option.{Option, none, some}
use mathlib.Core.List.Memᴰ
use mathlib.Core.List.{List, [], ◌∷◌, ◌++◌, map, Memᴰ}
use native.Mathlib.Omega.{arith}
use lib.ListN.{length, get_or}
use lib.IntN.{ℤ, pos, ◌+ℤ◌, ◌-ℤ◌}
use lib.Signed.{le_z}
use borrow.Author.Tests.{leb-false}
use Rattle.model.specs.declared.Delay.{Delay}
use Rattle.model.specs.declared.Batch.{Batch}
use Rattle.model.specs.declared.Turn.{Turn}
use Rattle.model.specs.Best.{Best}
use Rattle.std.specs.Prelude.{None, Some}
use Rattle.model.specs.Common.{eq_z}
use Rattle.model.specs.Limits.{most_jobs, most_ticks, stations, most_clashes, most_weight, most_earliest, most_rest}
use Rattle.model.specs.Batch.{ticks, delays_of, rest_of, earliest, earliest_starts, latest_starts}
use Rattle.model.specs.Plan.{start, Keeps, KeepsDelays, Valid, latency}
use Rattle.model.specs.Clash.{Clash, clashes}
use Rattle.model.specs.Search.{Incumbent, Place, no_clash, side_of, turned, inequalities, starts_at, met, first_met, turned_back, back_to, back, prunes, become_best, branch, visit, next}
use Rattle.model.proofs.BoolLaws.{apart}
use Rattle.model.proofs.ListLaws.{map_some, some_map}
use Rattle.model.proofs.SeqLaws.{get_d_in}
use Rattle.model.proofs.PlusLaws.{plus_le, le_plus}
use Rattle.model.proofs.FinishLaws.{latency_mono}
use Rattle.model.proofs.SideLaws.{side0_apart, side1_apart, sides}
use Rattle.model.proofs.ClashLaws.{Unmet, apart_unmet, unmet_apart, Listed, clash_listed}
use Rattle.model.proofs.DistanceLaws.{eq_z_eq, eq_z_refl}
use Rattle.model.proofs.StartsLaws.{Inside, least_length, least_solution, least_below, least_found, ends_length, Solved, solved, solved_ends, inside_ends}
use Rattle.model.proofs.RightLaws.{pruned_from}
use Rattle.model.proofs.BackLaws.{BackTo, back_is, numbers, Present, Pending, Open, pending_done, pending_open, open_append, present_all}

-- what the limits say of a batch
pub record Fits (b : Batch) : Type 0 where
  pub jobs : b.n ≤ most_jobs
  pub short : (i : ℕ) → i < b.n → ticks b i ≤ most_ticks
  pub inside : (q : Delay) → Memᴰ q (delays_of b) → (q.from < b.n) × (q.to < b.n)
  pub slow : (q : Delay) → Memᴰ q (delays_of b) → le_z q.weight (pos most_weight) ≡ true
  pub soon : (i : ℕ) → i < b.n → earliest b i ≤ most_earliest
  pub rests : (s : ℕ) → s < stations → rest_of b s ≤ most_rest
  pub few : length (clashes b) ≤ most_clashes

-- the turns are on listed clashes
unfoldable pub Named : Batch → List Turn → Type 0
Named b ts = (t : Turn) → Memᴰ t ts → t.clash < length (clashes b)

-- ---- the first clash that is met

pub unmet_all : (cs : List Clash) (ts : List ℕ) (k : ℕ) → first_met cs ts k ≡ none → (c : Clash) → Memᴰ c cs → met ts c ≡ false
unfolding first_met
unmet_all [] ts k e c m = absurd (Memᴰ.not-nil m)
unmet_all (x ∷ cs) ts k e c m = go (met ts x) refl e (Memᴰ.cases_cons m) (λ g. unmet_all cs ts (suc k) g c)
  where
    go : (p : Bool) → met ts x ≡ p → ◌≡◌ {A = Option ℕ} (elim p [ true ↦ some k | false ↦ first_met cs ts (suc k) ]) none → (c ≡ x) ⊎ Memᴰ c cs → (first_met cs ts (suc k) ≡ none → Memᴰ c cs → met ts c ≡ false) → met ts c ≡ false
    go true h e s rec = let z : ◌≡◌ {A = ℕ} 0 1 = cc in absurd (omega arith)
    go false h e (inl q) rec = ap (met ts) q ∙ h
    go false h e (inr n) rec = rec e n

pub met_first : (cs : List Clash) (ts : List ℕ) (k m : ℕ) → first_met cs ts k ≡ some m → (k ≤ m) × (m < k + length cs) × (met ts (get_or cs (m - k) no_clash) ≡ true)
unfolding first_met
met_first [] ts k m e = let z : ◌≡◌ {A = ℕ} 0 1 = cc in absurd (omega arith)
met_first (x ∷ cs) ts k m e = go (met ts x) refl e (met_first cs ts (suc k) m)
  where
    at : (i : ℕ) → m - k ≡ i → met ts (get_or (x ∷ cs) i no_clash) ≡ true → met ts (get_or (x ∷ cs) (m - k) no_clash) ≡ true
    at i z h = ap (λ (i : ℕ). met ts (get_or (x ∷ cs) i no_clash)) z ∙ h

    go : (p : Bool) → met ts x ≡ p → ◌≡◌ {A = Option ℕ} (elim p [ true ↦ some k | false ↦ first_met cs ts (suc k) ]) (some m) → (first_met cs ts (suc k) ≡ some m → (suc k ≤ m) × (m < suc k + length cs) × (met ts (get_or cs (m - suc k) no_clash) ≡ true)) → (k ≤ m) × (m < k + suc (length cs)) × (met ts (get_or (x ∷ cs) (m - k) no_clash) ≡ true)
    go true h e rec = let z : k ≡ m = cc in (omega arith, omega arith, at 0 (omega arith) h)
    go false h e rec = let r = rec e in (omega (arith, r.0), omega (arith, r.1), at (suc (m - suc k)) (omega (arith, r.0)) r.2)

-- ---- the two sides of a turn

-- starts that keep a side do not meet its clash
pub side_unmet : (ss : List ℕ) (c : Clash) (s : ℕ) → Keeps ss (side_of c s) → met ss c ≡ true → ⊥
unfolding side_of Keeps met
side_unmet ss c zero h e = side0_apart c.d (start ss c.i) (start ss c.j) (plus_le _ _ _ h) (eq_z_eq _ _ e)
side_unmet ss c (suc s) h e = side1_apart c.d (start ss c.i) (start ss c.j) (plus_le _ _ _ h) (eq_z_eq _ _ e)

-- starts that do not meet it keep one of them
pub unmet_side : (us : List ℕ) (c : Clash) → met us c ≡ false → Keeps us (side_of c 0) ⊎ Keeps us (side_of c 1)
unfolding side_of Keeps met
unmet_side us c u =
    ⊎_elim (λ h. inl (le_plus (c.d +ℤ pos 1) (start us c.i) (start us c.j) h))
    (λ h. inr (le_plus (pos 1 -ℤ c.d) (start us c.j) (start us c.i) h))
    (sides c.d (start us c.i) (start us c.j) (λ e. apart (sym u ∙ (ap (λ (z : ℤ). eq_z z c.d) e ∙ eq_z_refl c.d))))

module _ (b : Batch) (fits : Fits b) where
  -- a plan keeps a turn
  abbrev pub KT : List ℕ → Turn → Type 0
  KT us t = Keeps us (turned (clashes b) t)

  side_in : (c : Clash) → Listed b c → (s : ℕ) → ((side_of c s).from < b.n) × ((side_of c s).to < b.n)
  unfolding side_of
  side_in c l zero = (omega (arith, l.rising, l.known), l.known)
  side_in c l (suc s) = (l.known, omega (arith, l.rising, l.known))

  pub turn_listed : (t : Turn) → t.clash < length (clashes b) → Listed b (get_or (clashes b) t.clash no_clash)
  turn_listed t h = clash_listed b _ (get_d_in (clashes b) t.clash no_clash h)

  -- every inequality of a node is a delay's or a turn's
  pub each : (P : Delay → Type 0) (ts : List Turn) → ((q : Delay) → Memᴰ q (delays_of b) → P q) → ((t : Turn) → Memᴰ t ts → P (turned (clashes b) t)) → (q : Delay) → Memᴰ q (inequalities (clashes b) b ts) → P q
  unfolding inequalities
  each P ts f g q m = go (Memᴰ.append_cases (delays_of b) m)
    where
      go : Memᴰ q (delays_of b) ⊎ Memᴰ q (map (turned (clashes b)) ts) → P q
      go (inl k) = f q k
      go (inr k) = let r = map_some (turned (clashes b)) ts k in subst P (sym r.2) (g r.0 r.1)

  pub all_inside : (ts : List Turn) → Named b ts → Inside b.n (inequalities (clashes b) b ts)
  unfolding Inside Named turned
  all_inside ts names =
      each (λ q. (q.from < b.n) × (q.to < b.n)) ts fits.inside
      (λ t m. side_in (get_or (clashes b) t.clash no_clash) (turn_listed t (names t m)) t.side)

  -- ---- a node's least starts

  pub at_length : (ts : List Turn) (ss : List ℕ) → starts_at (clashes b) b ts ≡ some ss → length ss ≡ b.n
  unfolding starts_at
  at_length ts ss e = least_length (earliest_starts b) (latest_starts b) (inequalities (clashes b) b ts) ss e ∙ ends_length b

  pub at_solved : (ts : List Turn) → Named b ts → (ss : List ℕ) → starts_at (clashes b) b ts ≡ some ss → Solved b (inequalities (clashes b) b ts) ss
  unfolding starts_at
  at_solved ts names ss e =
      let qs = inequalities (clashes b) b ts in
      least_solution (earliest_starts b) (latest_starts b) qs (inside_ends b qs (all_inside ts names)) ss e

  -- a clash that is met is not on the path
  pub met_new : (ts : List Turn) → Named b ts → (ss : List ℕ) → starts_at (clashes b) b ts ≡ some ss → (k : ℕ) → first_met (clashes b) ss 0 ≡ some k → ¬ Memᴰ k (numbers ts)
  unfolding numbers inequalities turned
  met_new ts names ss e k f m =
      let r = map_some (λ (t : Turn). t.clash) ts m in
      let z : k - 0 ≡ r.0.clash = omega (arith, r.2) in
      side_unmet ss (get_or (clashes b) r.0.clash no_clash) r.0.side
      ((at_solved ts names ss e).keeps (turned (clashes b) r.0) (Memᴰ.append_right (delays_of b) (some_map (turned (clashes b)) ts r.1)))
      (ap (λ (i : ℕ). met ss (get_or (clashes b) i no_clash)) (sym z) ∙ (met_first (clashes b) ss 0 k f).2)

  -- least starts that meet no clash are a valid plan
  pub valid_found : (ts : List Turn) → Named b ts → (ss : List ℕ) → starts_at (clashes b) b ts ≡ some ss → first_met (clashes b) ss 0 ≡ none → Valid b ss
  unfolding KeepsDelays Unmet inequalities
  valid_found ts names ss e f =
      record {
        starts = omega (arith, at_length ts ss e);
        delays = λ q m. (at_solved ts names ss e).keeps q (Memᴰ.append_left (map (turned (clashes b)) ts) m);
        ends = solved_ends b (inequalities (clashes b) b ts) ss (at_solved ts names ss e);
        stations = unmet_apart b ss fits.short fits.rests (unmet_all (clashes b) ss 0 f);
      }

  -- a valid plan that keeps the turns keeps the node's inequalities and the ends, so that there are least starts, no later than the plan
  plan_solved : (us : List ℕ) → Valid b us → (ts : List Turn) → Present (KT us) ts → Solved b (inequalities (clashes b) b ts) us
  unfolding KeepsDelays
  plan_solved us v ts h = solved b (inequalities (clashes b) b ts) us (each (Keeps us) ts v.delays (present_all (KT us) ts h)) v.ends

  pub found : (us : List ℕ) → Valid b us → (ts : List Turn) → Named b ts → Present (KT us) ts → starts_at (clashes b) b ts ≡ none → ⊥
  unfolding starts_at
  found us v ts names h e =
      let qs = inequalities (clashes b) b ts in
      let f = least_found (earliest_starts b) (latest_starts b) qs (inside_ends b qs (all_inside ts names)) us (plan_solved us v ts h) in
      let z : ◌≡◌ {A = ℕ} 0 1 = cc in
      omega arith

  pub least : (us : List ℕ) → Valid b us → (ts : List Turn) → Present (KT us) ts → (ss : List ℕ) → starts_at (clashes b) b ts ≡ some ss → latency b ss ≤ latency b us
  unfolding starts_at
  least us v ts h ss e = latency_mono b ss us (least_below (earliest_starts b) (latest_starts b) (inequalities (clashes b) b ts) ss e us (plan_solved us v ts h))

  -- ---- a valid plan is at or above best, or still open

  abbrev pub BestLe : Best → ℕ → Type 0
  BestLe None l = ⊥
  BestLe (Some k) l = k ≤ l

  unfoldable pub Live : List ℕ → Place → Type 0
  Live us p = BestLe p.incumbent.best (latency b us) ⊎ ((p.ended ≡ false) × Open (KT us) p.turns)

  back_live : (us : List ℕ) (ts : List Turn) (found : Incumbent) → BestLe found.best (latency b us) ⊎ Pending (KT us) ts → Live us (back ts found)
  unfolding back back_to Live
  back_live us ts found h = go (turned_back ts) (back_is ts) h
    where
      go : (o : Option (List Turn)) → BackTo ts o → BestLe found.best (latency b us) ⊎ Pending (KT us) ts → Live us (back_to found o)
      go (some us) g (inl h) = inl h
      go (some us) g (inr h) = inr (refl, pending_open (KT _) g h)
      go none g (inl h) = inl h
      go none g (inr h) = absurd (pending_done (KT us) ts g h)

  pruned_le : (best : Best) (l m : ℕ) → prunes best l ≡ true → l ≤ m → BestLe best m
  unfolding prunes
  pruned_le None l m e h = apart e
  pruned_le (Some k) l m e h = omega (arith, pruned_from k l e)

  unpruned_le : (best : Best) (l m : ℕ) → prunes best l ≡ false → BestLe best m → l ≤ m
  unfolding prunes
  unpruned_le None l m e h = absurd h
  unpruned_le (Some k) l m e h = omega (arith, leb-false k l e)

  -- a valid plan keeps one side of a turn on any clash
  plan_side : (us : List ℕ) → Valid b us → (k : ℕ) → k < length (clashes b) → KT us (record { clash = k; side = 0 }) ⊎ KT us (record { clash = k; side = 1 })
  unfolding turned Unmet
  plan_side us v k h =
      let c = get_or (clashes b) k no_clash in
      unmet_side us c (apart_unmet b us v.stations c (get_d_in (clashes b) k no_clash h))

  pub live_next : (us : List ℕ) → Valid b us → (p : Place) → Named b p.turns → p.ended ≡ false → Live us p → Live us (next (clashes b) b p)
  unfolding next visit branch Live become_best
  live_next us v p names e l = by (starts_at (clashes b) b p.turns) refl
    where
      best : Best
      best = p.incumbent.best

      -- gone back: what was on the present path is at or above what is best now
      gone : (now : Best) → (BestLe best (latency b us) → BestLe now (latency b us)) → (Present (KT us) p.turns → BestLe now (latency b us)) → BestLe best (latency b us) ⊎ ((p.ended ≡ false) × Open (KT us) p.turns) → BestLe now (latency b us) ⊎ Pending (KT us) p.turns
      gone now f g (inl h) = inl (f h)
      gone now f g (inr (x, inl h)) = inl (g h)
      gone now f g (inr (x, inr h)) = inr h

      append : (k : ℕ) → k < length (clashes b) → BestLe best (latency b us) ⊎ ((p.ended ≡ false) × Open (KT us) p.turns) → Live us (record { turns = p.turns ++ (record { clash = k; side = 0 } ∷ []); incumbent = p.incumbent; ended = false })
      append k h (inl x) = inl x
      append k h (inr (x, o)) = inr (refl, open_append (KT us) p.turns (record { clash = k; side = 0 }) refl (plan_side us v k h) o)

      at_clash : (ss : List ℕ) → starts_at (clashes b) b p.turns ≡ some ss → prunes best (latency b ss) ≡ false → (o : Option ℕ) → first_met (clashes b) ss 0 ≡ o → Live us (branch b p ss o)
      at_clash ss g q (some k) f = append k (omega (arith, (met_first (clashes b) ss 0 k f).1)) l
      at_clash ss g q none f =
          back_live us p.turns (become_best b ss)
          (gone (Some (latency b ss)) (unpruned_le best (latency b ss) (latency b us) q) (λ h. least us v p.turns h ss g) l)

      at_starts : (ss : List ℕ) → starts_at (clashes b) b p.turns ≡ some ss → (q : Bool) → prunes best (latency b ss) ≡ q → Live us (if q then back p.turns p.incumbent else branch b p ss (first_met (clashes b) ss 0))
      at_starts ss g true q =
          back_live us p.turns p.incumbent
          (gone best (λ h. h) (λ h. pruned_le best (latency b ss) (latency b us) q (least us v p.turns h ss g)) l)
      at_starts ss g false q = at_clash ss g q (first_met (clashes b) ss 0) refl

      by : (o : Option (List ℕ)) → starts_at (clashes b) b p.turns ≡ o → Live us (visit (clashes b) b p o)
      by none g = back_live us p.turns p.incumbent (gone best (λ h. h) (λ h. absurd (found us v p.turns names h g)) l)
      by (some ss) g = at_starts ss g (prunes best (latency b ss)) refl
