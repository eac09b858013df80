-- A whole batch file both ways. A file is read exactly when it is the text of a batch within the limits, and the batch that it yields
-- is that one with its unused places blank.
use Rattle.std.specs.Prelude.{if◌then◌else◌}
use Prim.Native.Nat.{ℕ, ◌-◌, ◌≤◌}
use mathlib.Core.Path.{◌≡◌, refl, ap, ap₂, sym, ◌∙◌, subst}
use mathlib.Core.Logic.{◌⊎◌, inl, inr, ◌↔◌}
use mathlib.Core.Bool.{Bool, true, false}
use mathlib.Core.List.{List, [], ◌∷◌, ◌++◌, map-id, append-nil, Memᴰ}
use native.Mathlib.Omega.{arith}
use lib.ListN.{length, replicate, length-map}
use lib.Dec.{eqb}
use Rattle.model.specs.declared.Batch.{Batch}
use Rattle.model.specs.declared.Delay.{Delay}
use Rattle.model.specs.declared.Job.{Job}
use Rattle.model.specs.Common.{count, pad, joined, is_empty, accept, ◌>>=◌, require, given}
use Rattle.model.specs.Limits.{most_jobs, most_delays}
use Rattle.model.specs.Batch.{blank_job, blank_delay, job_of, ticks, mask, delay_of, delays_of}
use Rattle.model.specs.Line.{read_line}
use Rattle.model.specs.Window.{WindowLine, window_text, window}
use Rattle.model.specs.Rest.{RestLine, rest_text, rest}
use Rattle.model.specs.Format.{header_line, masks_of, job_line, delay_line, jobs_of, Further, further_of, further_text, batch_file, no_further, Edition, Within, batch_of, blanked}
use Rattle.model.specs.Open.{edition_ok, few_clashes, delays_met, header, job, delay, read_one, read_all, read_kind, nothing_left, read_further, read_rest, read_file, open_file}
use Rattle.model.proofs.BoolLaws.{apart}
use Rattle.model.proofs.ListLaws.{count_length, each_item, index_in, by_index}
use Rattle.model.proofs.OutcomeLaws.{refused, accept_eq, bind_accepts, accepts_bind, require_accepts, accepts_require}
use Rattle.model.proofs.LimitLaws.{LimitsOk, edition_iff, counts_iff, within_limits, limits_within}
use Rattle.model.proofs.ReadLaws.{one_back, one_forth, all_back, all_forth}
use Rattle.model.proofs.FrameLaws.{IsWide, HeaderOk, JobOk, DelayOk, header_framing, job_framing, delay_framing}
use Rattle.model.proofs.KindLaws.{kind_back, later_lines, kind_forth}
use Rattle.model.proofs.WindowLaws.{EachWindow, window_framing, windows_of_lem, windows_within, windows_each}
use Rattle.model.proofs.RestLaws.{EachRest, rest_framing, rests_of_lem, rests_within, rests_each}

-- ---- a batch's limits are those of its frames

-- the jobs of a batch that passes its limits pass theirs
limits_jobs : (b : Batch) → LimitsOk b → (j : Job) → Memᴰ j (jobs_of b) → JobOk j
unfolding jobs_of ticks mask masks_of
limits_jobs b l = each_item JobOk (job_of b) b.n (λ i h. (l.ticks_each i h, each_item IsWide (mask b i) (ticks b i) (λ a k. l.masks_each i a h k)))

-- and so do its delays
limits_delays : (b : Batch) → LimitsOk b → (q : Delay) → Memᴰ q (delays_of b) → DelayOk b.n q
limits_delays b l q k = (l.jobs_each q k, l.weights_each q k)

-- ---- the further lines, kind by kind, among n jobs

-- each kind's in limits
pub record FurtherOk (n : ℕ) (f : Further) : Type 0 where
  pub windows : EachWindow n [] f.windows
  pub rests : EachRest [] f.rests

-- a batch's
pub limits_further : (b : Batch) → b.n ≤ most_jobs → LimitsOk b → FurtherOk b.n (further_of b)
unfolding further_of
limits_further b few l = record { windows = windows_each b few l.windows; rests = rests_each b l.rests }

-- nothing is left
pub no_more : (end : List ℕ) → is_empty end ≡ true → end ≡ []
unfolding is_empty
no_more [] e = refl
no_more (c ∷ cs) e = apart e

left_nothing : (end : List ℕ) → nothing_left end ≡ accept tt → end ≡ []
unfolding nothing_left
left_nothing [] e = refl
left_nothing (c ∷ cs) e = refused (bind_accepts (given 1 (read_line (c ∷ cs))) _ tt e).2

module _ (n : ℕ) (few : n ≤ most_jobs) where
  -- written, they are read: each kind's up to those of the kinds above it
  further_forth : (f : Further) → FurtherOk n f → read_further n (further_text f) ≡ accept f
  unfolding read_further further_text nothing_left window_text rest_text ◌>>=◌
  further_forth f ok =
      let windows = joined window_text f.windows in
      let rests = joined rest_text f.rests in
      ap (λ (l : List ℕ). read_further n (windows ++ l)) (sym (append-nil rests))
      ∙ accepts_bind _ (kind_forth _ _ _ _ (window_framing n few) (length (windows ++ (rests ++ []))) [] f.windows (rests ++ []) (omega arith) ok.windows
      (later_lines _ _ _ _ rest_framing 0xA3 (omega arith) [] f.rests [] ok.rests (inl refl)))
      ∙ accepts_bind _ (kind_forth _ _ _ _ rest_framing (length (rests ++ [])) [] f.rests [] (omega arith) ok.rests (inl refl))

  -- read, they are what is written
  further_back : (file : List ℕ) (f : Further) → read_further n file ≡ accept f → (further_text f ≡ file) × FurtherOk n f
  unfolding read_further further_text window_text rest_text
  further_back file f e =
      let r = bind_accepts (read_kind 0xA3 (window n) (length file) [] file) _ f e in
      let s = bind_accepts (read_kind 0xA4 rest (length r.0.1) [] r.0.1) _ f r.2 in
      let t = bind_accepts (nothing_left s.0.1) _ f s.2 in
      let k = kind_back _ _ _ _ (window_framing n few) (length file) [] file r.0 r.1 in
      let l = kind_back _ _ _ _ rest_framing (length r.0.1) [] r.0.1 s.0 s.1 in
      subst (λ (f : Further). (further_text f ≡ file) × FurtherOk n f) (accept_eq t.2) (
        ap₂ (λ (ws : List WindowLine) (ls : List RestLine). joined window_text ws ++ joined rest_text ls) k.is l.is
            ∙ ap (λ (x : List ℕ). joined window_text k.more ++ x) (sym (append-nil (joined rest_text l.more)) ∙ ap (λ (x : List ℕ). joined rest_text l.more ++ x) (sym (left_nothing s.0.1 t.1)) ∙ l.written)
            ∙ k.written,
        record { windows = subst (EachWindow n []) (sym k.is) k.each; rests = subst (EachRest []) (sym l.is) l.each },
      )

  -- after the delays, by edition
  rest_forth : (edition : ℕ) (f : Further) → ((edition ≡ 1) × (f ≡ no_further)) ⊎ (edition ≡ 2) → FurtherOk n f → read_rest edition n (further_text f) ≡ accept f
  unfolding read_rest further_text no_further joined is_empty require ◌>>=◌
  rest_forth edition f (inl (one, none)) ok = ap₂ (λ (e : ℕ) (g : Further). read_rest e n (further_text g)) one none ∙ ap accept (sym none)
  rest_forth edition f (inr two) ok = ap (λ (e : ℕ). read_rest e n (further_text f)) two ∙ further_forth f ok

  rest_back : (edition : ℕ) (file : List ℕ) (f : Further) → read_rest edition n file ≡ accept f → (further_text f ≡ file) × FurtherOk n f × (edition ≡ 1 → f ≡ no_further)
  unfolding read_rest further_text no_further joined
  rest_back edition file f e = go (eqb edition 1) refl e
    where
      go : (t : Bool) → eqb edition 1 ≡ t → (if t then (require 8 (is_empty file) >>= λ u. accept no_further) else read_further n file) ≡ accept f → (further_text f ≡ file) × FurtherOk n f × (edition ≡ 1 → f ≡ no_further)
      go true h e =
          let r = require_accepts 8 _ _ f e in
          let z = accept_eq r.1 in
          (ap further_text (sym z) ∙ sym (no_more file r.0), subst (FurtherOk n) z (record { windows = tt; rests = tt }), λ one. sym z)
      go false h e = let r = further_back file f e in (r.0, r.1, λ one. apart (sym h ∙ ap (λ (x : ℕ). eqb x 1) one))

-- ---- the batch that jobs, delays and further lines make up

module _ (edition : ℕ) (jobs : List Job) (delays : List Delay) (further : Further) where
  abbrev made : Batch
  made = batch_of edition jobs delays further

  -- it has these jobs
  pub jobs_of_lem : jobs_of made ≡ jobs
  unfolding jobs_of job_of batch_of pad
  jobs_of_lem = by_index jobs (replicate (most_jobs - length jobs) blank_job) blank_job

  -- it has these delays
  pub delays_of_lem : delays_of made ≡ delays
  unfolding delays_of delay_of batch_of pad
  delays_of_lem = by_index delays (replicate (most_delays - length delays) blank_delay) blank_delay

  module _ (few : length jobs ≤ most_jobs) (ok : FurtherOk (length jobs) further) where
    -- it has these further lines
    pub further_of_lem : further_of made ≡ further
    unfolding further_of batch_of
    further_of_lem =
        ap₂ (λ (ws : List WindowLine) (ls : List RestLine). record { windows = ws; rests = ls }) (windows_of_lem made few further.windows refl ok.windows)
        (rests_of_lem made further.rests refl ok.rests)

    -- its text is that of its frames
    batch_text_lem : batch_file made ≡ header_line edition (length jobs) (length delays) ++ (joined job_line jobs ++ (joined delay_line delays ++ further_text further))
    unfolding batch_file batch_of
    batch_text_lem =
        λ z. header_line edition (length jobs) (length delays) ++ (joined job_line (jobs_of_lem z) ++ (joined delay_line (delays_of_lem z) ++ further_text (further_of_lem z)))

    -- its limits are theirs
    limits_of : HeaderOk (edition, length jobs, length delays) → (edition ≡ 1 → further ≡ no_further) → ((j : Job) → Memᴰ j jobs → JobOk j) → ((q : Delay) → Memᴰ q delays → DelayOk (length jobs) q) → LimitsOk made
    unfolding jobs_of ticks mask masks_of batch_of Edition
    limits_of h one j d =
        let job : (x : Job) → Memᴰ x (jobs_of made) → JobOk x = λ x k. j x (subst (Memᴰ x) jobs_of_lem k) in
        let delay : (q : Delay) → Memᴰ q (delays_of made) → DelayOk (length jobs) q = λ q k. d q (subst (Memᴰ q) delays_of_lem k) in
        record {
          edition_known = known ((edition_iff edition).0 h.0);
          windows = windows_within made few further.windows refl ok.windows;
          rests = rests_within made further.rests refl ok.rests;
          counts = h.1;
          ticks_each = λ i g. (job (job_of made i) (index_in (job_of made) (length jobs) i g)).0;
          masks_each = λ i a g k. (job (job_of made i) (index_in (job_of made) (length jobs) i g)).1 (mask made i a) (index_in (mask made i) (ticks made i) a k);
          jobs_each = λ q k. (delay q k).0;
          weights_each = λ q k. (delay q k).1;
        }
      where
        known : (edition ≡ 1) ⊎ (edition ≡ 2) → Edition made
        known (inl e) = inl (e, further_of_lem ∙ one e)
        known (inr e) = inr e

-- both, with n and m for the numbers of jobs and delays
by_numbers : (edition : ℕ) (jobs : List Job) (delays : List Delay) (further : Further) (n m : ℕ) → length jobs ≡ n → length delays ≡ m → (few : n ≤ most_jobs) → FurtherOk n further → HeaderOk (edition, n, m)
    → (edition ≡ 1 → further ≡ no_further) → ((j : Job) → Memᴰ j jobs → JobOk j) → ((q : Delay) → Memᴰ q delays → DelayOk n q)
    → LimitsOk (batch_of edition jobs delays further) × (batch_file (batch_of edition jobs delays further) ≡ header_line edition n m ++ (joined job_line jobs ++ (joined delay_line delays ++ further_text further)))
by_numbers edition jobs delays further n m p q few ok h one j d =
    subst
    (λ (n : ℕ). (few : n ≤ most_jobs) → FurtherOk n further → HeaderOk (edition, n, m) → ((q : Delay) → Memᴰ q delays → DelayOk n q) → Both n m)
    p
    (subst (λ (m : ℕ). (few : length jobs ≤ most_jobs) → FurtherOk (length jobs) further → HeaderOk (edition, length jobs, m) → ((q : Delay) → Memᴰ q delays → DelayOk (length jobs) q) → Both (length jobs) m) q
    (λ few ok h d. (limits_of edition jobs delays further few ok h one j d, batch_text_lem edition jobs delays further few ok)))
    few ok h d
  where
    Both : ℕ → ℕ → Type 0
    Both n m = LimitsOk (batch_of edition jobs delays further) × (batch_file (batch_of edition jobs delays further) ≡ header_line edition n m ++ (joined job_line jobs ++ (joined delay_line delays ++ further_text further)))

-- ---- reading what was written

-- a batch has n jobs
pub jobs_length : (b : Batch) → length (jobs_of b) ≡ b.n
unfolding jobs_of
jobs_length b = length-map (count 0 b.n) (job_of b) ∙ count_length 0 b.n

-- and m delays
pub delays_length : (b : Batch) → length (delays_of b) ≡ b.m
unfolding delays_of
delays_length b = length-map (count 0 b.m) (delay_of b) ∙ count_length 0 b.m

-- an edition that is known passes 3
known_edition : (b : Batch) → Edition b → edition_ok b.edition ≡ true
unfolding Edition
known_edition b (inl e) = (edition_iff b.edition).1 (inl e.0)
known_edition b (inr e) = (edition_iff b.edition).1 (inr e)

-- the text of a batch within the limits is read as that batch, its unused places blank
pub file_read : (b : Batch) → Within b → read_file (batch_file b) ≡ accept (blanked b)
unfolding read_file batch_file header_line job_line delay_line blanked Edition
file_read b w =
    let l = within_limits b w in
    let few : b.n ≤ most_jobs = w.jobs.1 in
    let further = further_text (further_of b) in
    let after_jobs = joined delay_line (delays_of b) ++ further in
    accepts_bind _ (one_forth _ _ _ _ _ header_framing (b.edition, b.n, b.m) (joined job_line (jobs_of b) ++ after_jobs) (known_edition b w.edition_known, l.counts))
    ∙ accepts_bind _ (all_forth _ _ _ _ _ job_framing b.n (jobs_of b) after_jobs (jobs_length b) (limits_jobs b l))
    ∙ accepts_bind _ (all_forth _ _ _ _ _ (delay_framing b.n few) b.m (delays_of b) further (delays_length b) (limits_delays b l) ∙ ap (λ (l : List Delay). accept (l, further)) (map-id (delays_of b)))
    ∙ accepts_bind _ (rest_forth b.n few b.edition (further_of b) w.edition_known (limits_further b few l))

-- ---- writing what was read

-- a batch that was read is in limits, and its text is the file: each step's answer was a frame's
read_both : (file : List ℕ) (b : Batch) → read_file file ≡ accept b → LimitsOk b × (batch_file b ≡ file)
unfolding read_file header_line job_line delay_line
read_both file b e =
    let r = bind_accepts (read_one header file) _ b e in
    let (edition, n, m) = r.0.0 in
    let s = bind_accepts (read_all job n r.0.1) _ b r.2 in
    let t = bind_accepts (read_all (delay n) m s.0.1) _ b s.2 in
    let u = bind_accepts (read_rest edition n t.0.1) _ b t.2 in
    let jobs = s.0.0 in
    let delays = t.0.0 in
    let h = one_back _ _ _ _ _ header_framing file r.0.0 r.0.1 r.1 in
    let few : n ≤ most_jobs = ((counts_iff n m).0 h.1.1).0.1 in
    let j = all_back _ _ _ _ _ job_framing n r.0.1 jobs s.0.1 s.1 in
    let d = all_back _ _ _ _ _ (delay_framing n few) m s.0.1 delays t.0.1 t.1 in
    let f = rest_back n few edition t.0.1 u.0 u.1 in
    let made : LimitsOk (batch_of edition jobs delays u.0) × (batch_file (batch_of edition jobs delays u.0) ≡ header_line edition n m ++ (joined job_line jobs ++ (joined delay_line delays ++ further_text u.0))) =
    by_numbers edition jobs delays u.0 n m j.0 d.0 few f.1 h.1 f.2 j.2 d.2 in
    subst (λ (x : Batch). LimitsOk x × (batch_file x ≡ file)) (accept_eq u.2) (
      made.0,
      made.1
          ∙ ap (λ (l : List ℕ). header_line edition n m ++ (joined job_line jobs ++ (joined delay_line delays ++ l))) f.0
          ∙ ap (λ (l : List ℕ). header_line edition n m ++ (joined job_line jobs ++ l)) d.1 ∙ ap (λ (l : List ℕ). header_line edition n m ++ l) j.1 ∙ h.0,
    )

-- a batch that was read passes its limits
pub read_limits : (file : List ℕ) (b : Batch) → read_file file ≡ accept b → LimitsOk b
read_limits file b e = (read_both file b e).0

-- its text is the file
pub read_text : (file : List ℕ) (b : Batch) → read_file file ≡ accept b → batch_file b ≡ file
read_text file b e = (read_both file b e).1

-- ---- the format: what is read is exactly the text of a batch within the limits, its unused places blank

pub read_format : (file : List ℕ) (b : Batch) → (read_file file ≡ accept b) ↔ (Within b × (file ≡ batch_file b) × (b ≡ blanked b))
read_format file b = (
  λ e.
      let w = limits_within b (read_limits file b e) in
      let t = read_text file b e in
      (w, sym t, accept_eq (sym e ∙ ap read_file (sym t) ∙ file_read b w)),
  λ h. ap read_file h.1 ∙ file_read b h.0 ∙ ap accept (sym h.2),
)

-- a file is opened exactly when it is read and its batch passes 9 and 10
pub open_read : (file : List ℕ) (b : Batch) → (open_file file ≡ accept b) ↔ ((read_file file ≡ accept b) × (few_clashes b ≡ true) × (delays_met b ≡ true))
unfolding open_file
open_read file b = (
  λ e.
      let r = bind_accepts (read_file file) _ b e in
      let s = require_accepts 9 _ _ b r.2 in
      let t = require_accepts 10 _ _ b s.1 in
      let z = accept_eq t.1 in
      (r.1 ∙ ap accept z, ap few_clashes (sym z) ∙ s.0, ap delays_met (sym z) ∙ t.0),
  λ h. accepts_bind _ h.0 ∙ accepts_require 9 _ h.1 ∙ accepts_require 10 _ h.2,
)
