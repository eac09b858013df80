-- Job i with the jobs after it, as the code reads them from the batch; and the whole list.
use Prim.Native.Nat.{ℕ, suc, ◌+◌, ◌-◌, ◌*◌, ◌≤◌, ◌<◌}
use mathlib.Core.Path.{◌≡◌, refl, sym, ap, ◌∙◌}
use mathlib.Core.Bool.{Bool, true, false, ◌&&◌}
use mathlib.Core.List.{List, [], map}
use native.Mathlib.Omega.{arith}
use lib.IntN.{sub_ℕ}
use lib.ListN.{get_or, replicate, length-map, get_or-map}
use lib.Dec.{ltb}
use borrow.Author.Tests.{ltb-true, ltb-false}
use Rattle.model.specs.declared.Job.{Job}
use Rattle.model.specs.declared.Batch.{Batch}
use Rattle.model.specs.Common.{count, any, keep, joined, eq_z}
use Rattle.model.specs.Batch.{bit, job_of, blank_job, ticks, rest_of}
use Rattle.model.specs.Clash.{Clash, clashes_of, clashes}
use Rattle.model.proofs.SeqLaws.{blanks_at, count_end}
use Rattle.clashes.specs.declared.Clashes.{Clashes}
use Rattle.clashes.specs.Code.{code_of}
use Rattle.tables.specs.Tables.{shares, tables_meet}
use Rattle.tables.specs.Rest.{Resting, Longest, Widens}
use Rattle.clashes.specs.List.{listing, list_of, add_all, pair_codes, row_codes, Grown, Tabled}
use Rattle.clashes.proofs.StoreLaws.{full, add_empty}
use Rattle.clashes.proofs.PairLaws.{pair_codes_lem}
use Rattle.clashes.proofs.GrowLaws.{codes_from, Growing, grow_more, grow_end}

-- a batch's rests are within their limit
pub resting : (b : Batch) → Tabled b → Resting b.rests
unfolding rest_of
resting b t = record { each = t.rests }

-- job i as the code reads it
abbrev pub job_at : Batch → ℕ → Job
job_at b i = get_or b.jobs i (record { ticks = 0; masks = [] })

-- what is read of an item is the same with another default of which the same is read
same_reading : {A : Type 0} (f : A → ℕ) (xs : List A) (i : ℕ) (d e : A) → f d ≡ f e → f (get_or xs i d) ≡ f (get_or xs i e)
same_reading f xs i d e h = sym (get_or-map f xs i d) ∙ ap (get_or (map f xs) i) h ∙ get_or-map f xs i e

module _ (b : Batch) (i : ℕ) where
  -- it has the ticks of the model's job
  job_ticks : (job_at b i).ticks ≡ ticks b i
  unfolding ticks job_of blank_job
  job_ticks = same_reading (λ (j : Job). j.ticks) b.jobs i (record { ticks = 0; masks = [] }) blank_job refl

  -- and its masks
  job_masks : (a : ℕ) → get_or (job_at b i).masks a 0 ≡ get_or (job_of b i).masks a 0
  unfolding job_of blank_job
  job_masks a = same_reading (λ (j : Job). get_or j.masks a 0) b.jobs i (record { ticks = 0; masks = [] }) blank_job (sym (blanks_at 16 a 0))

-- a job with the same ticks and masks has the same widened table, and the same codes with a job before it
module _ (job job' : Job) (p : job.ticks ≡ job'.ticks) (m : (a : ℕ) → get_or job.masks a 0 ≡ get_or job'.masks a 0) where
  widens_same : (rests : List ℕ) (low end : ℕ) (places : List ℕ) → Widens rests job low end places → Widens rests job' low end places
  widens_same rests low end places w = record {
    each = λ x h g. let n = w.each x h g in
        record {
          found = λ s k t. let r = n.found s k t in (r.0, omega (arith, r.1, p), ap (λ (z : ℕ). bit z s) (sym (m r.0)) ∙ r.2, r.3);
          has = λ s a k l t q. n.has s a k (omega arith) (ap (λ (z : ℕ). bit z s) (m a) ∙ t) q;
        };
  }

  codes_same : (low end : ℕ) (places : List ℕ) (base : ℕ) → pair_codes low end places job base ≡ pair_codes low end places job' base
  unfolding pair_codes tables_meet
  codes_same low end places base =
      λ z. map (λ k. base + k)
      (keep (λ k. any (λ x. any (λ c. eq_z (sub_ℕ x c) (sub_ℕ k 15) && shares (get_or places x 0) (m c z)) (count 0 (p z))) (count low (end - low))) (count 0 45))

module _ (b : Batch) (t : Tabled b) where
  -- its ticks are within their limit
  pub job_short : (i : ℕ) → i < b.n → (job_at b i).ticks ≤ 16
  job_short i h = rw (job_ticks b i) (t.short i h)

  -- one turn of the loop over j
  pub row_more : (i w low end : ℕ) (places : List ℕ) (from l m : Clashes) (j : ℕ) → i < b.n → Longest b.rests w 16
      → low ≡ 7 - w → end ≡ 7 + (job_at b i).ticks + w → Widens b.rests (job_at b i) low end places
      → Growing (clashes_of b i) 45 (suc i) b.n from l j → j < b.n
      → Grown l m (pair_codes low end places (job_at b j) (i * 2048 + j * 64)) 45 → Growing (clashes_of b i) 45 (suc i) b.n from m (j + 1)
  unfolding job_of ticks
  row_more i w low end places from l m j hi longest el ee wide g hj s =
      let wide' : Widens b.rests (job_of b i) (7 - w) (7 + ticks b i + w) places = rw (el, ee, job_ticks b i) at (widens_same (job_at b i) (job_of b i) (job_ticks b i) (job_masks b i) b.rests low end places wide) in
      let e : pair_codes low end places (job_at b j) (i * 2048 + j * 64) ≡ map code_of (clashes_of b i j) = codes_same (job_at b j) (job_of b j) (job_ticks b j) (job_masks b j) low end places _ ∙ rw (el, ee, job_ticks b i) (pair_codes_lem b t w longest places i j hi wide') in
      grow_more (clashes_of b i) 45 (suc i) b.n from l m j g hj (rw e at s)

-- after the last turn the row is complete
pub row_end : (b : Batch) → Tabled b → (i : ℕ) (from l : Clashes) (j : ℕ) → Growing (clashes_of b i) 45 (suc i) b.n from l j → b.n ≤ j → Grown from l (row_codes b i) 1080
unfolding row_codes codes_from
row_end b t i from l j g h =
    record { all = grow_end (clashes_of b i) 45 (suc i) b.n from l j g h; few = omega (arith, g.few, g.within, t.few) }

-- ---- the batch

-- the clashes of job i with the jobs after it
unfoldable pub row_of : Batch → ℕ → List Clash
row_of b i = joined (clashes_of b i) (count (suc i) (b.n - suc i))

-- one turn of the loop over i
pub list_more : (b : Batch) (from l m : Clashes) (i : ℕ) → Growing (row_of b) 1080 0 b.n from l i → i < b.n → Grown l m (row_codes b i) 1080 → Growing (row_of b) 1080 0 b.n from m (i + 1)
unfolding row_codes row_of
list_more b from l m i g h s = grow_more (row_of b) 1080 0 b.n from l m i g h s

-- the last job has none after it, and adds nothing
row_none : (b : Batch) (l : Clashes) (i : ℕ) → b.n ≤ suc i → Grown l l (row_codes b i) 1080
unfolding row_codes add_all joined
row_none b l i h = record { all = rw (count_end (suc i) b.n h); few = omega arith }

-- the whole list, from an array without codes
module _ (b : Batch) (none : List ℕ) (blank : none ≡ replicate 1024 0) (l : Clashes) where
  -- after a turn for each job it is complete
  list_whole : (i : ℕ) → Growing (row_of b) 1080 0 b.n (listing 0 none) l i → b.n ≤ i → l ≡ list_of b
  unfolding list_of full clashes codes_from row_of
  list_whole i g h =
      let e : b.n - 0 ≡ b.n = omega arith in
      (rw e at (grow_end (row_of b) 1080 0 b.n (listing 0 none) l i g h)) ∙ ap (λ (codes : List ℕ). add_all (listing 0 codes) (map code_of (clashes b))) blank
      ∙ add_empty (map code_of (clashes b)) ∙ ap (λ (d : ℕ). listing d (full (map code_of (clashes b))).codes) (length-map (clashes b) code_of)

  -- and so it is before the last job's
  pub list_end : (i : ℕ) → Growing (row_of b) 1080 0 b.n (listing 0 none) l i → b.n ≤ i + 1 → l ≡ list_of b
  list_end i g h = go (ltb i b.n) refl
    where
      go : (t : Bool) → ltb i b.n ≡ t → l ≡ list_of b
      go true e = list_whole (i + 1) (list_more b _ l l i g (ltb-true i b.n e) (row_none b l i (omega arith))) h
      go false e = list_whole i g (ltb-false i b.n e)
