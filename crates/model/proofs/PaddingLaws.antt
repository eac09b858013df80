-- Every padding is there: a batch within the limits with as many empty ticks added at the end of each table as it has room for, and the file of it.
use Prim.Native.Nat.{ℕ, ◌+◌, ◌≤◌, ◌<◌}
use mathlib.Core.Path.{◌≡◌, refl, ap, sym, ◌∙◌, subst}
use mathlib.Core.Logic.{inl, inr}
use mathlib.Core.List.{List, map, Memᴰ}
use native.Mathlib.Omega.{arith}
use native.Mathlib.Decide.{dec_lt}
use lib.ListN.{length, get_or, get_or-eq_default}
use lib.Seq.{ext_get_or}
use Rattle.model.specs.declared.Batch.{Batch}
use Rattle.model.specs.declared.Job.{Job}
use Rattle.model.specs.Common.{count, pad, accept}
use Rattle.model.specs.Limits.{most_jobs, most_ticks}
use Rattle.model.specs.Batch.{blank_job, job_of, ticks, mask, delays_of}
use Rattle.model.specs.Window.{window_lines, windows_of}
use Rattle.model.specs.Rest.{rest_lines, rests_of}
use Rattle.model.specs.Format.{masks_of, further_of, batch_file, Edition, Within, pad_job, batch_of, blanked}
use Rattle.model.specs.Padded.{Padded}
use Rattle.model.specs.Open.{read_file}
use Rattle.model.proofs.SeqLaws.{map_map, listed_at, listed_length, listed_cong, pad_at, pad_length}
use Rattle.model.proofs.LimitLaws.{within_limits}
use Rattle.model.proofs.WindowLaws.{windows_within, own_ends}
use Rattle.model.proofs.RestLaws.{rests_within, own_rests}
use Rattle.model.proofs.FileLaws.{FurtherOk, limits_further, jobs_of_lem, delays_of_lem, further_of_lem, delays_length, file_read}

-- the first p places of a padded list, padded again
pad_again : (size p : ℕ) (xs : List ℕ) → length xs ≤ p → p ≤ size → pad size 0 (map (λ a. get_or (pad size 0 xs) a 0) (count 0 p)) ≡ pad size 0 xs
pad_again size p xs h g =
    ext_get_or 0 _ _ (pad_length size 0 places (omega (arith, long)) ∙ sym (pad_length size 0 xs (omega arith))) (λ a k. pad_at size 0 places a ∙ at a (dec_lt a p))
  where
    places : List ℕ
    places = map (λ a. get_or (pad size 0 xs) a 0) (count 0 p)

    long : length places ≡ p
    long = listed_length (λ a. get_or (pad size 0 xs) a 0) p

    at : (a : ℕ) → Dec (a < p) → get_or places a 0 ≡ get_or (pad size 0 xs) a 0
    at a (yes l) = listed_at (λ a. get_or (pad size 0 xs) a 0) 0 p a l
    at a (no l) = get_or-eq_default places 0 {n = a} (omega (arith, long)) ∙ sym (pad_at size 0 xs a ∙ get_or-eq_default xs 0 {n = a} (omega arith))

module _ (b : Batch) (w : Within b) (more : ℕ → ℕ) (room : (i : ℕ) → i < b.n → ticks b i + more i ≤ most_ticks) where
  -- job i with more empty ticks
  abbrev longer : ℕ → Job
  longer i = record { ticks = ticks b i + more i; masks = pad most_ticks 0 (masks_of (job_of b i)) }

  abbrev padded : Batch
  padded = batch_of b.edition (map longer (count 0 b.n)) (delays_of b) (further_of b)

  -- ---- what it has at each place

  n_same : padded.n ≡ b.n
  unfolding batch_of
  n_same = listed_length longer b.n

  delays_same : delays_of padded ≡ delays_of b
  delays_same = delays_of_lem b.edition (map longer (count 0 b.n)) (delays_of b) (further_of b)

  few : length (map longer (count 0 b.n)) ≤ most_jobs
  few = omega (arith, listed_length longer b.n, w.jobs.1)

  further_ok : FurtherOk (length (map longer (count 0 b.n))) (further_of b)
  further_ok = rw (listed_length longer b.n) (limits_further b w.jobs.1 (within_limits b w))

  further_same : further_of padded ≡ further_of b
  further_same = further_of_lem b.edition (map longer (count 0 b.n)) (delays_of b) (further_of b) few further_ok

  job_at_lem : (i : ℕ) → i < b.n → job_of padded i ≡ longer i
  unfolding job_of batch_of
  job_at_lem i h = pad_at most_jobs blank_job (map longer (count 0 b.n)) i ∙ listed_at longer blank_job b.n i h

  ticks_at : (i : ℕ) → i < b.n → ticks padded i ≡ ticks b i + more i
  unfolding ticks
  ticks_at i h = ap (λ (j : Job). j.ticks) (job_at_lem i h)

  mask_in : (i a : ℕ) → i < b.n → a < ticks b i → mask padded i a ≡ mask b i a
  unfolding mask ticks masks_of
  mask_in i a h g = ap (λ (j : Job). get_or j.masks a 0) (job_at_lem i h) ∙ pad_at most_ticks 0 (masks_of (job_of b i)) a ∙ listed_at (mask b i) 0 (ticks b i) a g

  mask_past : (i a : ℕ) → i < b.n → ticks b i ≤ a → mask padded i a ≡ 0
  unfolding mask ticks masks_of
  mask_past i a h g =
      ap (λ (j : Job). get_or j.masks a 0) (job_at_lem i h) ∙ pad_at most_ticks 0 (masks_of (job_of b i)) a
      ∙ get_or-eq_default (masks_of (job_of b i)) 0 {n = a} (omega (arith, listed_length (mask b i) (ticks b i)))

  mask_small : (i a : ℕ) → i < b.n → mask padded i a < 65536
  mask_small i a h = go (dec_lt a (ticks b i))
    where
      go : Dec (a < ticks b i) → mask padded i a < 65536
      go (yes g) = omega (arith, mask_in i a h g, w.masks_each i a h g)
      go (no g) = omega (arith, mask_past i a h (omega arith))

  -- ---- it is within the limits, and its unused places are blank

  within : Within padded
  unfolding batch_of Edition
  within =
      record {
        edition_known = known w.edition_known;
        windows = windows_within padded few (further_of b).windows refl further_ok.windows;
        rests = rests_within padded (further_of b).rests refl further_ok.rests;
        jobs = subst (λ (n : ℕ). (1 ≤ n) × (n ≤ most_jobs)) (sym n_same) w.jobs;
        delays = omega (arith, delays_length b, w.delays);
        ticks_each = λ i h. let l : i < b.n = omega (arith, n_same) in (omega (arith, ticks_at i l, (w.ticks_each i l).0), omega (arith, ticks_at i l, room i l));
        masks_each = λ i a h g. mask_small i a (omega (arith, n_same));
        jobs_each = λ q k. let e = w.jobs_each q (subst (Memᴰ q) delays_same k) in (omega (arith, n_same, e.0), omega (arith, n_same, e.1), e.2);
        weight_each = λ q k. w.weight_each q (subst (Memᴰ q) delays_same k);
      }
    where
      known : Edition b → Edition padded
      known (inl e) = inl (e.0, further_same ∙ e.1)
      known (inr e) = inr e

  job_blank : (i : ℕ) → i < b.n → pad_job (longer i) ≡ longer i
  unfolding pad_job masks_of job_of ticks mask
  job_blank i h =
      ap (λ (l : List ℕ). record { ticks = ticks b i + more i; masks = l })
      (pad_again most_ticks (ticks b i + more i) (masks_of (job_of b i)) (omega (arith, listed_length (mask b i) (ticks b i))) (room i h))

  blank : blanked padded ≡ padded
  unfolding blanked batch_of
  blank =
      (λ z. batch_of b.edition (map pad_job (jobs_of_lem b.edition (map longer (count 0 b.n)) (delays_of b) (further_of b) z)) (delays_same z) (further_same z))
      ∙ ap (λ (js : List Job). batch_of b.edition js (delays_of b) (further_of b)) (map_map pad_job longer (λ i. pad_job (longer i)) (λ i. refl) (count 0 b.n) ∙ listed_cong _ longer b.n job_blank)

  edition_same : padded.edition ≡ b.edition
  unfolding batch_of
  edition_same = refl

  windows_at : padded.windows ≡ windows_of (window_lines b)
  unfolding batch_of further_of
  windows_at = refl

  rests_at : padded.rests ≡ rests_of (rest_lines b)
  unfolding batch_of further_of
  rests_at = refl

  -- so it is the padded batch, and what its file is read as
  pub every_padding : (b' : Batch) × (read_file (batch_file b') ≡ accept b') × Padded b b' × ((i : ℕ) → i < b.n → ticks b' i ≡ ticks b i + more i)
  every_padding = (
    padded,
    file_read padded within ∙ ap accept blank,
    record {
      edition = edition_same;
      jobs = n_same;
      delays = delays_same;
      ends = λ i h. own_ends b w.windows padded windows_at i h (omega (arith, w.jobs.1));
      rests = own_rests b padded rests_at;
      longer = λ i h. omega (arith, ticks_at i h);
      same = mask_in;
      added = λ i a h g k. mask_past i a h g;
    },
    ticks_at,
  )
