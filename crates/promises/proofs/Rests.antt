-- Request Q-5: the law of clashes and rests by model's laws, and of the public calls by the demands. Then it is pinned: each statement is read out with the numbers of 02,
-- for every distance, every file and every list of runs.
use Rattle.std.specs.Prelude.{if◌then◌else◌}
use Prim.Native.Nat.{ℕ, ◌+◌, ◌≤◌, ◌<◌}
use mathlib.Core.Path.{◌≡◌, refl, ap, sym, ◌∙◌, subst}
use mathlib.Core.Logic.{inl, inr, ⊎_elim, ◌↔◌, ◌≢◌}
use mathlib.Core.Bool.{true, false}
use mathlib.Core.Option.{some}
use mathlib.Core.List.{List, map, Memᴰ}
use native.Mathlib.Omega.{arith}
use native.Mathlib.Decide.{dec_lt}
use lib.ListN.{length, get_or, take}
use lib.IntN.{ℤ, pos, negsuc, sub_ℕ}
use lib.Signed.{◌≤ℤ◌}
use lib.Dec.{eqb}
use borrow.Author.Tests.{eq-eqb, ne_eqb}
use Rattle.model.specs.declared.Batch.{Batch}
use Rattle.model.specs.declared.Search.{Search}
use Rattle.model.specs.declared.Opened.{Opened}
use Rattle.model.specs.declared.Ran.{Ran}
use Rattle.model.specs.Common.{count, refuse, accept}
use Rattle.model.specs.Batch.{rest_of}
use Rattle.model.specs.Plan.{start, Holds, Apart, KeepsDelays, KeepsEnds, KeepsStations, Valid}
use Rattle.model.specs.Clash.{clashing, distances, clashes}
use Rattle.model.specs.Search.{fresh_search, nodes_on}
use Rattle.model.specs.Format.{BatchFile}
use Rattle.model.specs.Open.{opened}
use Rattle.model.specs.First.{KeepsStations01, clashes01, Begins}
use Rattle.model.specs.Sound.{sound}
use Rattle.model.specs.Run.{run_refusal, ran}
use Rattle.model.specs.Answers.{plan, run_told, open_told, best_told}
use Rattle.model.specs.Calls.{Call, call, after}
use Rattle.model.specs.Demands.{PlanWith}
use Rattle.model.specs.All.{definitions}
use Rattle.model.proofs.ListLaws.{map_some, count_some}
use Rattle.model.proofs.SeqLaws.{listed_at}
use Rattle.model.proofs.DistanceLaws.{between_some, lifted_near}
use Rattle.model.proofs.ClashLaws.{apart_iff, clash_listed, clashing_listed, distance_listed}
use Rattle.model.proofs.RestedLaws.{stations_first, clashing_first, clashes_first}
use Rattle.model.proofs.SoundLaws.{record_passes, passes_fit}
use Rattle.model.proofs.OpenLaws.{best_plans, answer_plans, yields}
use Rattle.model.proofs.FirstLaws.{refused_21}
use Rattle.promises.specs.Demands.{Called}
use Rattle.promises.specs.Rests.{Cools, AllCool, Small, ends_held, farthest, Q5}
use Rattle.promises.proofs.Demands.{called_after, demands}
use Rattle.promises.proofs.Pins.{called_there}
use Rattle.promises.proofs.Windows.{told}
use Rattle.promises.proofs.Cooling.{cools_apart}

-- ---- two jobs

distance_law : (b : Batch) (ts : List ℕ) (i j : ℕ) (d : ℤ) → sub_ℕ (start ts j) (start ts i) ≡ d → Cools b ts i j ↔ (clashing b i j d ≡ false)
distance_law b ts i j d e =
    let c = cools_apart b ts i j in
    let a = apart_iff b ts i j in
    (λ h. ap (clashing b i j) (sym e) ∙ a.0 (c.0 h), λ h. c.1 (a.1 (ap (clashing b i j) e ∙ h)))

-- ---- every two jobs

cools_swap : (b : Batch) (ts : List ℕ) (i j : ℕ) → Cools b ts i j → Cools b ts j i
cools_swap b ts i j c = record { each = λ s x y h p q. ⊎_elim inr inl (c.each s y x h q p) }

stations_cool : (b : Batch) (ts : List ℕ) → KeepsStations b ts ↔ AllCool b ts
unfolding KeepsStations AllCool
stations_cool b ts = (λ k i j h g ne. by k i j h g ne (dec_lt i j), λ c i j h g. (cools_apart b ts i j).0 (c i j (omega arith) g (λ e. omega arith)))
  where
    by : ((i j : ℕ) → i < j → j < b.n → Apart b ts i j) → (i j : ℕ) → i < b.n → j < b.n → i ≢ j → Dec (i < j) → Cools b ts i j
    by k i j h g ne (yes l) = (cools_apart b ts i j).1 (k i j l g)
    by k i j h g ne (no l) = cools_swap b ts j i ((cools_apart b ts j i).1 (k j i (let z : i ≢ j = ne in omega arith) h))

valid_cool : (b : Batch) (ts : List ℕ) → Valid b ts ↔ ((length ts ≡ b.n) × KeepsDelays b ts × KeepsEnds b ts × AllCool b ts)
valid_cool b ts =
    let k = stations_cool b ts in
    (λ v. (v.starts, v.delays, v.ends, k.0 v.stations), λ (n, d, e, c). record { starts = n; delays = d; ends = e; stations = k.1 c })

-- ---- the list

range_law : (b : Batch) (i j : ℕ) → Small b i j → (d : ℤ) → clashing b i j d ≡ true → (negsuc 21 ≤ℤ d) × (d ≤ℤ pos 22)
unfolding distances
range_law b i j h d e =
    let k = map_some (λ k. sub_ℕ k 22) (count 0 45) (distance_listed b i j d h.first h.second h.rests e) in
    let near = lifted_near k.0 (omega (arith, (count_some 0 45 k.0 k.1).1)) in
    subst (λ (z : ℤ). (negsuc 21 ≤ℤ z) × (z ≤ℤ pos 22)) (sym k.2) near

listed_law : (b : Batch) (i j : ℕ) → Small b i j → i < j → j < b.n → (d : ℤ) → Memᴰ (record { i = i; j = j; d = d }) (clashes b) ↔ (clashing b i j d ≡ true)
listed_law b i j h l g d = (λ m. (clash_listed b (record { i = i; j = j; d = d }) m).clashes_at, λ e. clashing_listed b i j d l g (distance_listed b i j d h.first h.second h.rests e) e)

-- ---- the calls

module _ (file : List ℕ) (b : Batch) (f : BatchFile file b) (cs : List Call) (s : Search) (h : Called (opened file).search cs s) where
  at : s ≡ after (fresh_search b) cs
  at = called_after h ∙ ap (λ (x : Search). after x cs) (yields file b f)

  best_cool : (l : ℕ) → best_told s.best ≡ some l → AllCool b (take b.n s.starts)
  unfolding PlanWith
  best_cool l e =
      subst (λ (x : Search). AllCool b (take b.n x.starts)) (sym at)
      ((stations_cool b _).0 (best_plans file b f cs l (ap (λ (x : Search). best_told x.best) (sym at) ∙ e)).0.stations)

  answer_cool : (c : Call) (r : Ran) (list' : List ℕ) → (r, list') ≡ ran s c.budget c.starts → (l t : ℕ) → run_told r.answer ≡ accept (plan l t) → AllCool b (take b.n list')
  unfolding PlanWith call
  answer_cool c r list' m l t e =
      let z = m ∙ ap (λ (x : Search). ran x c.budget c.starts) at in
      subst (λ (x : Ran × List ℕ). run_told x.0.answer ≡ accept (plan l t) → AllCool b (take b.n x.1)) (sym z)
      (λ e. (stations_cool b _).0 (answer_plans file b f cs c l t e).0.stations) e

pub q5 : Q5
unfolding opened definitions ends_held farthest
q5 =
    record {
      distance = distance_law;
      today = λ b none. record { stations = stations_first b none; distance = clashing_first b none; list = clashes_first b none };
      runs_today = λ s e none budget list granted r list' m.
          ((demands.demand_1.running s budget list r list' m).reached granted).0
          ∙ ap (λ cs. nodes_on cs budget s) (clashes_first s.batch none (passes_fit s.batch (record_passes s e)).short);
      listed = listed_law;
      range = range_law;
      ends_of_range = (refl, refl);
      past_range = refl;
      valid = valid_cool;
      best = λ file o e b f cs s h. best_cool file b f cs s (subst (λ (x : Opened). Called x.search cs s) e h);
      answer = λ file o e b f cs s h. answer_cool file b f cs s (subst (λ (x : Opened). Called x.search cs s) e h);
      twenty_one = λ file o e z. refused_21 file ((told file 21).0 (ap (λ (x : Opened). open_told x.answer) (sym e) ∙ z));
    }

-- ---- pinned

-- starts of two different jobs at any distance
two_starts : (i j : ℕ) (d : ℤ) → i ≢ j → (ts : List ℕ) × (sub_ℕ (start ts j) (start ts i) ≡ d)
unfolding start
two_starts i j d ne =
    let w = between_some d in
    let f : ℕ → ℕ = λ k. if eqb k j then w.later else w.earlier in
    let at : (k : ℕ) → k < i + j + 1 → get_or (map f (count 0 (i + j + 1))) k 0 ≡ f k = λ k h. listed_at f 0 (i + j + 1) k h in
    let later : f j ≡ w.later = rw (eq-eqb j j refl) in
    let earlier : f i ≡ w.earlier = rw (ne_eqb i j ne) in
    (map f (count 0 (i + j + 1)), (λ z. sub_ℕ ((at j (omega arith) ∙ later) z) ((at i (omega arith) ∙ earlier) z)) ∙ w.is)

module _ (q : Q5) where
  -- every distance of two jobs is that of some starts, and they keep every rest exactly when it is no clash
  pub every_distance : (b : Batch) (i j : ℕ) (d : ℤ) → i ≢ j → (ts : List ℕ) × (sub_ℕ (start ts j) (start ts i) ≡ d) × (Cools b ts i j ↔ (clashing b i j d ≡ false))
  every_distance b i j d ne = let s = two_starts i j d ne in (s.0, s.1, q.distance b s.0 i j d s.1)

  -- no rest: two jobs clash exactly where they hold a station in the same tick, and every run goes by the clashes of before
  pub every_today : (b : Batch) (ts : List ℕ) → ((s : ℕ) → s < 16 → rest_of b s ≡ 0) → KeepsStations b ts ↔ ((i j s x : ℕ) → i < j → j < b.n → s < 16 → Holds b ts i s x → Holds b ts j s x → ⊥)
  unfolding KeepsStations01
  every_today b ts none = (q.today b none).stations ts

  pub every_run_today : (s : Search) → sound s ≡ true → ((k : ℕ) → k < 16 → rest_of s.batch k ≡ 0) → (budget : ℕ) (list : List ℕ) → run_refusal s budget (length list) ≡ accept tt
      → (ran s budget list).0.search ≡ nodes_on (clashes01 s.batch) budget s
  every_run_today s e none budget list granted = let x = ran s budget list in q.runs_today s e none budget list granted x.0 x.1 refl

  -- the list has no other distance than −22 to 22, and there are such clashes at both ends
  pub every_listed : (b : Batch) (i j : ℕ) → Small b i j → i < j → j < b.n → (d : ℤ) → Memᴰ (record { i = i; j = j; d = d }) (clashes b) → (clashing b i j d ≡ true) × (negsuc 21 ≤ℤ d) × (d ≤ℤ pos 22)
  every_listed b i j h l g d m = let e = (q.listed b i j h l g d).0 m in let r = q.range b i j h d e in (e, r.0, r.1)

  pub every_clash : (b : Batch) (i j : ℕ) → Small b i j → i < j → j < b.n → (d : ℤ) → clashing b i j d ≡ true → Memᴰ (record { i = i; j = j; d = d }) (clashes b)
  every_clash b i j h l g d = (q.listed b i j h l g d).1

  pub every_end : (clashing (farthest 7) 0 1 (negsuc 21) ≡ true) × (clashing (farthest 7) 0 1 (pos 22) ≡ true) × (clashing (farthest 8) 0 1 (pos 23) ≡ true)
  every_end = (q.ends_of_range.0, q.ends_of_range.1, q.past_range)

  -- every valid plan, and nothing else that validity could ask
  pub every_valid : (b : Batch) (ts : List ℕ) → Valid b ts → (i j s x y : ℕ) → i < b.n → j < b.n → i ≢ j → s < 16 → Holds b ts i s x → Holds b ts j s y → x ≤ y → x + rest_of b s < y
  unfolding AllCool
  every_valid b ts v i j s x y hi hj ne hs p r l =
      let (n, d, e, c) = (q.valid b ts).0 v in
      ⊎_elim (λ (z : x + rest_of b s < y). z) (λ (z : y + rest_of b s < x). absurd (omega arith)) ((c i j hi hj ne).each s x y hs p r)

  pub every_cool : (b : Batch) (ts : List ℕ) → length ts ≡ b.n → KeepsDelays b ts → KeepsEnds b ts → AllCool b ts → Valid b ts
  every_cool b ts n d e c = (q.valid b ts).1 (n, d, e, c)

  -- best and every plan that is told, after every list of runs on every file
  module _ (file : List ℕ) (b : Batch) (f : BatchFile file b) (cs : List Call) where
    abbrev s : Search
    s = after (opened file).search cs

    abbrev reached : Called (opened file).search cs s
    reached = called_there (opened file).search cs

    pub every_best : (l : ℕ) → best_told s.best ≡ some l → AllCool b (take b.n s.starts)
    every_best = q.best file (opened file) refl b f cs s reached

    pub every_plan : (c : Call) (l t : ℕ) → run_told (call s c).0.answer ≡ accept (plan l t) → AllCool b (take b.n (call s c).1)
    unfolding call
    every_plan c l t e = let x = ran s c.budget c.starts in q.answer file (opened file) refl b f cs s reached c x.0 x.1 refl l t e

  pub every_21 : (file : List ℕ) → open_told (opened file).answer ≡ refuse 21 → Begins 2 file
  every_21 file = q.twenty_one file (opened file) refl
