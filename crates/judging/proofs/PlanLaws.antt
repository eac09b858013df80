-- A plan tested by arrays: the delays as they are read, the clashes as they are listed, and starts that stand in 24 places.
use Rattle.std.specs.Prelude.{is_some as holds}
use Prim.Native.Nat.{ℕ, ◌+◌, ◌≤◌, ◌<◌, max}
use mathlib.Core.Path.{◌≡◌, refl, ap, ap₂, sym, subst, ◌∙◌}
use mathlib.Core.Bool.{Bool, true, false, ◌&&◌, not}
use mathlib.Core.Option.{Option, none, some}
use mathlib.Core.List.{List, [], ◌∷◌, map, foldr}
use native.Mathlib.Omega.{arith}
use lib.ListN.{length, get_or, take}
use lib.Seq.{get_or-take, length-take-le}
use lib.IntN.{ℤ, sub_ℕ}
use lib.Signed.{le_z}
use lib.Dec.{leb}
use borrow.Author.Tests.{leb-true, le-leb}
use Rattle.model.specs.declared.Window.{Window}
use Rattle.model.specs.declared.Batch.{Batch}
use Rattle.model.specs.declared.Delay.{Delay}
use Rattle.model.specs.Common.{between, count, all, is_some}
use Rattle.model.specs.Batch.{delay_of, delays_of, window_of, earliest, latest}
use Rattle.model.specs.Plan.{start, finish, latency}
use Rattle.model.specs.Clash.{clashes}
use Rattle.model.specs.Search.{met, first_met}
use Rattle.model.specs.Format.{Within}
use Rattle.model.specs.Open.{few_clashes}
use Rattle.model.specs.Judge.{keeps, keeps_ends, valid}
use Rattle.model.proofs.BoolLaws.{same_test, passes, fails}
use Rattle.model.proofs.PlusLaws.{plus_le, le_plus}
use Rattle.model.proofs.SeqLaws.{listed_cong}
use Rattle.model.proofs.AllLaws.{all_from, all_start, all_passed, all_failed}
use Rattle.model.proofs.LimitLaws.{le_z_iff}
use Rattle.clashes.specs.declared.Clashes.{Clashes}
use Rattle.clashes.specs.List.{list_of}
use Rattle.clashes.specs.First.{Known, Unmet, met_of, first_code}
use Rattle.clashes.proofs.FirstLaws.{unmet_none, first_agree}
use Rattle.clashes.proofs.ListedLaws.{list_fits, list_known, first_listed}
use Rattle.weights.specs.declared.Inequality.{Inequality}
use Rattle.weights.specs.Inequality.{blank_inequality, nth}
use Rattle.weights.specs.Code.{Limited, coded}
use Rattle.weights.specs.Delays.{inequality_of, delays_read}
use Rattle.weights.specs.Holds.{Holds}
use Rattle.weights.proofs.ListedLaws.{listed_size}
use Rattle.weights.proofs.CodeLaws.{plus_coded}
use Rattle.weights.proofs.SoundLaws.{delays_length, delays_at, holds_read}
use Rattle.times.proofs.EndsLaws.{window_at, window_told_lem}
use Rattle.opening.proofs.WithinLaws.{within_tabled, within_sound}

-- ---- delays

-- a delay is kept, by its weight's code
kept_code : (t u : ℕ) (w : ℤ) → Limited w → leb (t + 1000) (u + coded w) ≡ le_z w (sub_ℕ u t)
kept_code t u w h =
    same_test _ _
    (λ e. (le_z_iff w (sub_ℕ u t)).1 (le_plus w t u (omega (arith, plus_coded t w h, leb-true (t + 1000) (u + coded w) e))))
    (λ e. le-leb (t + 1000) (u + coded w) (omega (arith, plus_coded t w h, plus_le w t u ((le_z_iff w (sub_ℕ u t)).0 e))))

-- a test of a mapped list
all_map : {A B : Type 0} (f : B → Bool) (g : A → B) (xs : List A) → all f (map g xs) ≡ all (λ x. f (g x)) xs
unfolding all
all_map f g [] = refl
all_map f g (x ∷ xs) = ap (λ (rest : Bool). elim (f (g x)) [ true ↦ rest | false ↦ false ]) (all_map f g xs)

-- the test of delay k, by the list
unfoldable pub kept_test : List ℕ → List Inequality → ℕ → Bool
kept_test us d k = leb (get_or us (nth d k).from 0 + 1000) (get_or us (nth d k).to 0 + (nth d k).code)

-- a test of every number below m, of which k is asked: t is the answer
module _ (f : ℕ → Bool) (k m : ℕ) (r : Bool) (left : all_from f k m ≡ r) (h : k < m) (t : Bool) (told : t ≡ f k) where
  pub test_more : not t ≡ false → all_from f (k + 1) m ≡ r
  test_more e = all_passed f k m r left h (passes told e)

  pub test_not : not t ≡ true → false ≡ r
  test_not e = all_failed f k m r left h (fails told e)

-- the first m of what is read
module _ (b : Batch) (w : Within b) (d : List Inequality) (e : d ≡ delays_read b) (m : ℕ) (p : m ≡ b.m) where
  abbrev items : List Inequality
  items = take m d

  items_length : length items ≡ m
  unfolding delays_read
  items_length = let s = within_sound b w in length-take-le m d (omega (arith, s.few, ap length e ∙ listed_size (λ k. inequality_of (delay_of b k)) 128 b.m))

  read : Holds b.n (delays_of b) d
  read = let s = within_sound b w in rw e (holds_read b s.few s.jobs s.weights)

  held : Holds b.n (delays_of b) items
  held =
      record {
        from = λ k l. rw (same k l) (read.from k l);
        to = λ k l. rw (same k l) (read.to k l);
        code = λ k l. rw (same k l) (read.code k l);
        fits = read.fits;
      }
    where
      same : (k : ℕ) → k < length (delays_of b) → nth items k ≡ nth d k
      same k l = get_or-take m d k blank_inequality (omega (arith, delays_length b))

  in_list : (k : ℕ) → k < b.m → k < length (delays_of b)
  in_list k h = omega (arith, delays_length b)

  -- its jobs have places
  pub kept_jobs : (k : ℕ) → k < length items → ((nth items k).from < 24) × ((nth items k).to < 24)
  kept_jobs k h =
      let l = in_list k (omega (arith, items_length)) in
      let f = held.fits k l in
      (omega (arith, held.from k l, f.from, w.jobs.1), omega (arith, held.to k l, f.to, w.jobs.1))

  kept_at : (us : List ℕ) (k : ℕ) → k < b.m → kept_test us items k ≡ keeps us (delay_of b k)
  unfolding kept_test keeps start
  kept_at us k h =
      let l = in_list k h in
      let e = delays_at b k h in
      rw (held.from k l, held.to k l, held.code k l, e) (kept_code _ _ _ (subst (λ (q : Delay). Limited q.weight) e (held.fits k l).weight))

  -- what the loop has tested is what the definition asks
  pub kept_all : (us : List ℕ) → all_from (kept_test us items) 0 (length items) ≡ all (keeps us) (delays_of b)
  unfolding delays_of
  kept_all us =
      all_start _ (length items) ∙ ap (λ (n : ℕ). all (kept_test us items) (count 0 n)) (items_length ∙ p)
      ∙ sym (all_map (λ t. t) _ (count 0 b.m)) ∙ ap (all (λ t. t)) (listed_cong _ _ b.m (kept_at us))
      ∙ all_map (λ t. t) (λ k. keeps us (delay_of b k)) (count 0 b.m) ∙ sym (all_map (keeps us) (delay_of b) (count 0 b.m))

-- ---- ends

-- the test of job i
unfoldable pub end_test : Batch → List ℕ → ℕ → Bool
end_test b us i = between (earliest b i) (start us i) (latest b i)

pub ends_all : (b : Batch) (us : List ℕ) (n : ℕ) → n ≡ b.n → all_from (end_test b us) 0 n ≡ keeps_ends b us
unfolding keeps_ends end_test
ends_all b us n e = rw e (all_start (end_test b us) b.n)

-- its ends are read out of the array
pub end_told : (b : Batch) (us : List ℕ) (i : ℕ) (x : Bool) → i < length b.windows → x ≡ between (window_at b.windows i).earliest (get_or us i 0) (window_at b.windows i).latest → x ≡ end_test b us i
unfolding end_test earliest latest window_of start
end_told b us i x h e = e ∙ ap (λ (w : Window). between w.earliest (get_or us i 0) w.latest) (window_told_lem b.windows i h)

-- ---- clashes

-- whether there is one, as Rust's Option says
found_is : (o : Option ℕ) → holds (met_of o) ≡ is_some o
unfolding met_of is_some
found_is none = refl
found_is (some k) = refl

module _ (b : Batch) (w : Within b) (f : few_clashes b ≡ true) (l : Clashes) (e : l ≡ list_of b) where
  few : length (clashes b) ≤ 1024
  unfolding few_clashes
  few = leb-true (length (clashes b)) 1024 f

  -- what the first clash that is met asks of the list
  pub clashes_fit : (us : List ℕ) → ((0 ≤ l.count) × (l.count ≤ 1024)) × (Known l.codes l.count × Unmet l.codes us 0)
  clashes_fit us = ((omega arith, list_fits b l e few), (list_known b l e few (within_tabled b w), unmet_none l.codes us))

  -- whether there is one
  pub clash_told : (us : List ℕ) → holds (first_code l.codes l.count us) ≡ is_some (first_met (clashes b) us 0)
  clash_told us = ap holds (first_listed b l e few (within_tabled b w) us us (λ i h. refl)) ∙ found_is (first_met (clashes b) us 0)

-- ---- starts that stand elsewhere: the same plan

module _ (b : Batch) (us ts : List ℕ) (agree : (i : ℕ) → start us i ≡ start ts i) where
  pub valid_agree : valid b us ≡ valid b ts
  unfolding valid keeps keeps_ends met
  valid_agree =
      ap₂ (λ (p q : Bool). p && q) (λ i. all (λ q. le_z q.weight (sub_ℕ (agree q.to i) (agree q.from i))) (delays_of b) && all (λ j. between (earliest b j) (agree j i) (latest b j)) (count 0 b.n))
      (ap (λ (o : Option ℕ). not (is_some o)) (first_agree (clashes b) us ts 0 (λ c m. rw (agree c.j, agree c.i))))

  pub latency_agree : latency b us ≡ latency b ts
  unfolding latency
  latency_agree = λ i. foldr max 0 (map (λ j. finish b j (agree j i)) (count 0 b.n))
