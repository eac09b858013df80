-- The frames of a batch file both ways: header, job and delay. A frame that was read is written back byte for byte and what it says is
-- in limits; what is in limits is written as a frame that is read again.
use Rattle.std.specs.Prelude.{if◌then◌else◌}
use Prim.Native.Nat.{ℕ, zero, suc, ◌+◌, ◌-◌, ◌*◌, ◌/◌, ◌%◌, ◌≤◌, ◌<◌}
use mathlib.Core.Path.{◌≡◌, refl, ap, ap₂, sym, ◌∙◌, subst}
use mathlib.Core.Logic.{◌↔◌}
use mathlib.Core.Bool.{Bool, true, false}
use mathlib.Core.List.{List, [], ◌∷◌, ◌++◌, map, append-nil, Memᴰ}
use native.Mathlib.Omega.{arith}
use lib.ListN.{length, get_or, drop, replicate, length-map}
use lib.IntN.{ℤ, pos, negsuc}
use lib.Signed.{◌≤ℤ◌, mag}
use lib.Dec.{ltb, eqb, leb→le}
use borrow.Author.Tests.{lt-ltb, le-ltb, eqb-true, eq-eqb}
use Rattle.model.specs.declared.Delay.{Delay}
use Rattle.model.specs.declared.Job.{Job}
use Rattle.model.specs.Common.{count, pad, joined, accept, ◌>>=◌, require}
use Rattle.model.specs.Limits.{most_jobs, most_ticks, most_weight}
use Rattle.model.specs.Line.{at, wide, frame_is, two}
use Rattle.model.specs.Format.{unsigned, masks_of, pad_job}
use Rattle.model.specs.Open.{edition_ok, counts_ok, ticks_ok, jobs_ok, weight_ok, signed, header, wides, job_in, job, delay_in, delay}
use Rattle.model.proofs.BoolLaws.{both, and}
use Rattle.model.proofs.ListLaws.{each_nil, each_cons, each_head, each_tail, count_length, by_index}
use Rattle.model.proofs.OutcomeLaws.{accept_eq, require_accepts, accepts_require}
use Rattle.model.proofs.LineLaws.{IsByte, Bytes}
use Rattle.model.proofs.LimitLaws.{edition_small, counts_iff, ticks_iff, jobs_iff, weight_iff}
use Rattle.model.proofs.ReadLaws.{Framing}

-- ---- weights: two's complement both ways

-- two bytes as a weight are these two bytes again
pub unsigned_signed : (v : ℕ) → v < 65536 → unsigned (signed v) ≡ v
unfolding unsigned signed
unsigned_signed v h = go (ltb v 32768)
  where
    go : (p : Bool) → unsigned (if p then pos v else negsuc (65535 - v)) ≡ v
    go true = refl
    go false = omega arith

-- a weight of 16 bits comes back from its two bytes
pub signed_unsigned : (w : ℤ) → mag w < 32768 → signed (unsigned w) ≡ w
unfolding unsigned signed
signed_unsigned (pos k) h = rw (lt-ltb k 32768 h) refl
signed_unsigned (negsuc k) h = rw (le-ltb (65535 - k) 32768 (omega arith)) (ap negsuc (omega arith))

-- and fits them
pub unsigned_small : (w : ℤ) → mag w < 32768 → unsigned w < 65536
unfolding unsigned
unsigned_small (pos k) h = omega arith
unsigned_small (negsuc k) h = omega arith

-- 01's limits on w are well within 16 bits
weight_small : (w : ℤ) → negsuc (most_weight - 1) ≤ℤ w → w ≤ℤ pos most_weight → mag w < 32768
weight_small (pos k) lo hi = omega (arith, leb→le k 1000 hi.le)
weight_small (negsuc k) lo hi = omega (arith, leb→le k 999 lo.le)

-- ---- two-byte numbers both ways

-- sixteen bits
abbrev pub IsWide : ℕ → Type 0
IsWide v = v < 65536

-- the two bytes of a number made of two bytes
pub two_back : (h l : ℕ) → h < 256 → l < 256 → two (h * 256 + l) ≡ h ∷ l ∷ []
unfolding two
two_back h l hh hl = ap₂ (λ (x y : ℕ). x ∷ y ∷ []) (omega arith) (omega arith)

-- bytes that were read as p numbers are the bytes of these numbers
wides_back : (p : ℕ) (bs : List ℕ) → Bytes bs → length bs ≡ 2 * p → (joined two (wides bs) ≡ bs) × (length (wides bs) ≡ p) × ((v : ℕ) → Memᴰ v (wides bs) → IsWide v)
unfolding wides joined
wides_back zero [] h e = (refl, refl, each_nil IsWide)
wides_back zero (x ∷ bs) h e = absurd (omega arith)
wides_back (suc p) [] h e = absurd (omega arith)
wides_back (suc p) (x ∷ []) h e = absurd (omega arith)
wides_back (suc p) (x ∷ y ∷ bs) h e =
    let hx : x < 256 = each_head IsByte h in
    let hy : y < 256 = each_head IsByte (each_tail IsByte h) in
    let r = wides_back p bs (each_tail IsByte (each_tail IsByte h)) (omega arith) in
    (ap₂ (λ (a c : List ℕ). a ++ c) (two_back x y hx hy) r.0, ap suc r.1, each_cons IsWide (omega arith) r.2)

-- numbers that were written as bytes are read again
wides_two : (vs : List ℕ) → ((v : ℕ) → Memᴰ v vs → IsWide v) → Bytes (joined two vs) × (length (joined two vs) ≡ 2 * length vs) × (wides (joined two vs) ≡ vs)
unfolding two wides joined
wides_two [] h = (each_nil IsByte, refl, refl)
wides_two (v ∷ vs) h =
    let small : v < 65536 = each_head IsWide h in
    let r = wides_two vs (each_tail IsWide h) in
    (each_cons IsByte (omega arith) (each_cons IsByte (omega arith) r.0), omega (arith, r.1), ap₂ (λ (x : ℕ) (l : List ℕ). x ∷ l) (omega arith) r.2)

-- ---- the bytes of a frame

-- the test of a frame's kind and length
pub frame_iff : (kind size : ℕ) (f : List ℕ) → frame_is kind size f ≡ true ↔ ((at f 0 ≡ kind) × (length f ≡ size))
unfolding frame_is
frame_iff kind size f = (
  λ e. let r = both (eqb (at f 0) kind) (eqb (length f) size) e in (eqb-true (at f 0) kind r.0, eqb-true (length f) size r.1),
  λ h. and (eq-eqb (at f 0) kind h.0) (eq-eqb (length f) size h.1),
)

-- a frame of known length is its bytes
pub at_each : (f : List ℕ) (k : ℕ) → length f ≡ k → map (at f) (count 0 k) ≡ f
unfolding at
at_each f k e =
    ap₂ (λ (g : List ℕ) (n : ℕ). map (λ i. get_or g i 0) (count 0 n)) (sym (append-nil f)) (sym e) ∙ by_index f [] 0

-- each place of a frame holds a byte
pub at_byte : (f : List ℕ) (k : ℕ) → Bytes f → at f k < 256
unfolding at
at_byte [] k h = omega arith
at_byte (x ∷ f) zero h = each_head IsByte h
at_byte (x ∷ f) (suc k) h = at_byte f k (each_tail IsByte h)

-- ---- the header: edition, n and m

-- edition (3) and counts (4) in limits
abbrev pub HeaderOk : ℕ × ℕ × ℕ → Type 0
HeaderOk c = (edition_ok c.0 ≡ true) × (counts_ok c.1 c.2 ≡ true)

-- what follows A0
abbrev pub header_body : ℕ × ℕ × ℕ → List ℕ
header_body c = c.0 ∷ c.1 ∷ c.2 ∷ []

-- the header both ways
pub header_framing : Framing header 0xA0 header_body (λ c. c) HeaderOk
unfolding header frame_is at require ◌>>=◌ count
header_framing = record { back = back; forth = forth }
  where
    back : (f : List ℕ) (c : ℕ × ℕ × ℕ) → Bytes f → header f ≡ accept c → (0xA0 ∷ header_body c ≡ f) × HeaderOk c
    back f c small e =
        let s = require_accepts 2 _ _ c e in
        let t = require_accepts 3 _ _ c s.1 in
        let u = require_accepts 4 _ _ c t.1 in
        let k = (frame_iff 0xA0 4 f).0 s.0 in
        subst (λ (p : ℕ × ℕ × ℕ). (0xA0 ∷ header_body p ≡ f) × HeaderOk p) (accept_eq u.1) (
          ap (λ (x : ℕ). x ∷ at f 1 ∷ at f 2 ∷ at f 3 ∷ []) (sym k.0) ∙ at_each f 4 k.1,
          (t.0, u.0),
        )

    forth : (c : ℕ × ℕ × ℕ) → HeaderOk c → Bytes (0xA0 ∷ header_body c) × (header (0xA0 ∷ header_body c) ≡ accept c)
    forth c h =
        let k = (counts_iff c.1 c.2).0 h.1 in
        let small : c.0 < 256 = edition_small c.0 h.0 in (
          each_cons IsByte (omega arith) (each_cons IsByte small (each_cons IsByte (omega arith) (each_cons IsByte (omega arith) (each_nil IsByte)))),
          accepts_require 3 _ h.0 ∙ accepts_require 4 _ h.1,
        )

-- ---- a job

-- ticks in limits (4), and masks of two bytes
abbrev pub JobOk : Job → Type 0
JobOk j = (ticks_ok j.ticks ≡ true) × ((v : ℕ) → Memᴰ v (masks_of j) → IsWide v)

-- what follows A1
abbrev pub job_body : Job → List ℕ
job_body j = j.ticks ∷ joined two (masks_of j)

-- a job has as many masks as ticks
masks_length : (j : Job) → length (masks_of j) ≡ j.ticks
unfolding masks_of
masks_length j = length-map (count 0 j.ticks) _ ∙ count_length 0 j.ticks

-- the masks of a job that was read
masks_in : (f : List ℕ) → length (wides (drop 2 f)) ≡ at f 1 → masks_of (job_in f) ≡ wides (drop 2 f)
unfolding masks_of job_in pad
masks_in f e =
    let ws = wides (drop 2 f) in
    ap (λ (p : ℕ). map (λ a. get_or (pad most_ticks 0 ws) a 0) (count 0 p)) (sym e) ∙ by_index ws (replicate (most_ticks - length ws) 0) 0

-- the parts of a job's frame
job_split : (p : ℕ) (f : List ℕ) → Bytes f → length f ≡ 2 + 2 * p → (at f 0 ∷ at f 1 ∷ drop 2 f ≡ f) × (length (drop 2 f) ≡ 2 * p) × Bytes (drop 2 f)
unfolding at
job_split p [] h e = absurd (omega arith)
job_split p (a ∷ []) h e = absurd (omega arith)
job_split p (a ∷ b ∷ f) h e = (refl, omega arith, each_tail IsByte (each_tail IsByte h))

-- a job both ways; reading it back blanks the places past p
pub job_framing : Framing job 0xA1 job_body pad_job JobOk
unfolding job job_in pad_job at
job_framing = record { back = back; forth = forth }
  where
    back : (f : List ℕ) (j : Job) → Bytes f → job f ≡ accept j → (0xA1 ∷ job_body j ≡ f) × JobOk j
    back f j small e =
        let s = require_accepts 2 _ _ j e in
        let t = require_accepts 4 _ _ j s.1 in
        let k = (frame_iff 0xA1 (2 + 2 * at f 1) f).0 s.0 in
        let d = job_split (at f 1) f small k.1 in
        let w = wides_back (at f 1) (drop 2 f) d.2 d.1 in
        let m = masks_in f w.1 in
        subst (λ (x : Job). (0xA1 ∷ job_body x ≡ f) × JobOk x) (accept_eq t.1) (
          ap₂ (λ (x : ℕ) (l : List ℕ). x ∷ at f 1 ∷ l) (sym k.0) (ap (joined two) m ∙ w.0) ∙ d.0,
          (t.0, λ v n. w.2 v (subst (λ (l : List ℕ). Memᴰ v l) m n)),
        )

    forth : (j : Job) → JobOk j → Bytes (0xA1 ∷ job_body j) × (job (0xA1 ∷ job_body j) ≡ accept (pad_job j))
    forth j h =
        let f : List ℕ = 0xA1 ∷ job_body j in
        let p = (ticks_iff j.ticks).0 h.0 in
        let w = wides_two (masks_of j) h.1 in
        let size : length f ≡ 2 + 2 * j.ticks = omega (arith, w.1, masks_length j) in (
          each_cons IsByte (omega arith) (each_cons IsByte (omega arith) w.0),
          accepts_require 2 _ ((frame_iff 0xA1 (2 + 2 * j.ticks) f).1 (refl, size))
              ∙ accepts_require 4 _ h.0
              ∙ ap (λ (ms : List ℕ). accept (record { ticks = j.ticks; masks = pad most_ticks 0 ms })) w.2,
        )

-- ---- a delay, between n jobs

-- jobs (5) and weight (6) in limits
abbrev pub DelayOk : ℕ → Delay → Type 0
DelayOk n q = (jobs_ok n q ≡ true) × (weight_ok q ≡ true)

-- what follows A2
abbrev pub delay_body : Delay → List ℕ
delay_body q = q.from ∷ q.to ∷ two (unsigned q.weight)

-- a weight in limits comes back from its two bytes
weight_in : (q : Delay) → mag q.weight < 32768 → delay_in (0xA2 ∷ delay_body q) ≡ q
unfolding delay_in wide at two
weight_in q h =
    let u = unsigned q.weight in
    let whole : u / 256 * 256 + u % 256 ≡ u = omega arith in
    ap (λ (w : ℤ). record { from = q.from; to = q.to; weight = w }) (ap signed whole ∙ signed_unsigned q.weight h)

-- a delay both ways; with at most 24 jobs their numbers are bytes
pub delay_framing : (n : ℕ) → n ≤ most_jobs → Framing (delay n) 0xA2 delay_body (λ q. q) (DelayOk n)
unfolding delay delay_in wide count two frame_is at
delay_framing n few = record { back = back; forth = forth }
  where
    back : (f : List ℕ) (q : Delay) → Bytes f → delay n f ≡ accept q → (0xA2 ∷ delay_body q ≡ f) × DelayOk n q
    back f q small e =
        let s = require_accepts 2 _ _ q e in
        let t = require_accepts 5 _ _ q s.1 in
        let u = require_accepts 6 _ _ q t.1 in
        let k = (frame_iff 0xA2 5 f).0 s.0 in
        let high : at f 3 < 256 = at_byte f 3 small in
        let low : at f 4 < 256 = at_byte f 4 small in
        let weight : two (unsigned (signed (wide f 3))) ≡ at f 3 ∷ at f 4 ∷ [] = ap two (unsigned_signed (wide f 3) (omega arith)) ∙ two_back (at f 3) (at f 4) high low in
        subst (λ (x : Delay). (0xA2 ∷ delay_body x ≡ f) × DelayOk n x) (accept_eq u.1) (
          ap₂ (λ (x : ℕ) (l : List ℕ). x ∷ at f 1 ∷ at f 2 ∷ l) (sym k.0) weight ∙ at_each f 5 k.1,
          (t.0, u.0),
        )

    forth : (q : Delay) → DelayOk n q → Bytes (0xA2 ∷ delay_body q) × (delay n (0xA2 ∷ delay_body q) ≡ accept q)
    forth q h =
        let j = (jobs_iff n q).0 h.0 in
        let w = (weight_iff q).0 h.1 in
        let small = weight_small q.weight w.0 w.1 in
        let same = weight_in q small in
        let wide : unsigned q.weight < 65536 = unsigned_small q.weight small in (
          each_cons IsByte (omega arith) (each_cons IsByte (omega arith) (each_cons IsByte (omega arith) (each_cons IsByte (omega arith) (each_cons IsByte (omega arith) (each_nil IsByte))))),
          accepts_require 2 _ refl ∙ accepts_require 5 _ (ap (jobs_ok n) same ∙ h.0) ∙ accepts_require 6 _ (ap weight_ok same ∙ h.1) ∙ ap accept same,
        )
