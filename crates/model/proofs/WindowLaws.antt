-- Kind A3: its frame both ways, and its lines and the record's places for them to each other.
use Rattle.std.specs.Prelude.{if◌then◌else◌}
use Prim.Native.Nat.{ℕ, ◌+◌, ◌*◌, ◌/◌, ◌%◌, ◌≤◌, ◌<◌}
use mathlib.Core.Path.{◌≡◌, refl, ap, ap₂, sym, ◌∙◌, subst}
use mathlib.Core.Bool.{Bool, true, false, not, ◌&&◌}
use mathlib.Core.List.{List, [], ◌∷◌, ◌++◌}
use native.Mathlib.Omega.{arith}
use lib.ListN.{get_or}
use lib.Dec.{leb, eqb}
use borrow.Author.Tests.{leb-true, le-leb, eqb-true, eq-eqb}
use Rattle.model.specs.declared.Batch.{Batch}
use Rattle.model.specs.declared.Window.{Window}
use Rattle.model.specs.Common.{count, accept, ◌>>=◌, require}
use Rattle.model.specs.Limits.{most_jobs, most_earliest, no_latest}
use Rattle.model.specs.Batch.{blank_window, window_of, lined, earliest, latest}
use Rattle.model.specs.Line.{at, wide, frame_is, two}
use Rattle.model.specs.Window.{WindowLine, window_line, window_lines, window_place, window_in, windows_of, WithinWindows, ends_ok, window_ok, job_rises, window}
use Rattle.model.proofs.BoolLaws.{apart, both, and}
use Rattle.model.proofs.ListLaws.{each_cons, each_nil}
use Rattle.model.proofs.SeqLaws.{listed_at}
use Rattle.model.proofs.OutcomeLaws.{accept_eq, require_accepts, accepts_require}
use Rattle.model.proofs.LineLaws.{IsByte, Bytes}
use Rattle.model.proofs.ReadLaws.{Framing}
use Rattle.model.proofs.FrameLaws.{frame_iff, at_each, at_byte, two_back}
use Rattle.model.proofs.KindLaws.{Each, each_of}
use Rattle.model.proofs.NumberedLaws.{Numbering, place_each, own_place, Above, above_below, lines_of_lem, lines_each}

-- ---- its numbered lines

pub blank_none : not (eqb blank_window.lined 0) ≡ false
unfolding blank_window
blank_none = refl

pub place_line : (w : WindowLine) → record { job = w.job; earliest = (window_place w).earliest; latest = (window_place w).latest } ≡ w
unfolding window_place
place_line w = refl

abbrev window_numbering : Numbering WindowLine Window
window_numbering =
    record {
      number = λ w. w.job;
      place = window_place;
      blank = blank_window;
      has = λ p. not (eqb p.lined 0);
      line = λ i p. record { job = i; earliest = p.earliest; latest = p.latest };
      numbered = λ i p. refl;
      whole = place_line;
      none = blank_none;
    }

-- ends in limits (20), and two bytes each
abbrev WindowOwn : WindowLine → Type 0
WindowOwn w = (ends_ok w.earliest w.latest ≡ true) × (w.earliest < 65536) × (w.latest < 65536)

-- the same, and a job below n and above those before it
abbrev pub WindowIn : ℕ → List WindowLine → WindowLine → Type 0
WindowIn n = Above window_numbering n WindowOwn

abbrev pub EachWindow : ℕ → List WindowLine → List WindowLine → Type 0
EachWindow n = Each (WindowIn n)

-- ---- the frame

-- what follows A3
abbrev pub window_body : WindowLine → List ℕ
window_body w = w.job ∷ (two w.earliest ++ two w.latest)

pub window_framing : (n : ℕ) → n ≤ most_jobs → (before : List WindowLine) → Framing (window n before) 0xA3 window_body (λ w. w) (WindowIn n before)
unfolding window wide count two frame_is at job_rises ◌>>=◌ require
window_framing n few before = record { back = back; forth = forth }
  where
    back : (f : List ℕ) (w : WindowLine) → Bytes f → window n before f ≡ accept w → (0xA3 ∷ window_body w ≡ f) × WindowIn n before w
    back f w small e =
        let s = require_accepts 2 _ _ w e in
        let t = require_accepts 20 _ _ w s.1 in
        let k = (frame_iff 0xA3 6 f).0 s.0 in
        let l = both (job_rises n before (at f 1)) (ends_ok (wide f 2) (wide f 4)) t.0 in
        let b2 : at f 2 < 256 = at_byte f 2 small in
        let b3 : at f 3 < 256 = at_byte f 3 small in
        let b4 : at f 4 < 256 = at_byte f 4 small in
        let b5 : at f 5 < 256 = at_byte f 5 small in
        subst (λ (x : WindowLine). (0xA3 ∷ window_body x ≡ f) × WindowIn n before x) (accept_eq t.1) (
          ap₂ (λ (x : ℕ) (l : List ℕ). x ∷ at f 1 ∷ l) (sym k.0) (ap₂ (λ (x y : List ℕ). x ++ y) (two_back (at f 2) (at f 3) b2 b3) (two_back (at f 4) (at f 5) b4 b5)) ∙ at_each f 6 k.1,
          (l.0, (l.1, omega arith, omega arith)),
        )

    forth : (w : WindowLine) → WindowIn n before w → Bytes (0xA3 ∷ window_body w) × (window n before (0xA3 ∷ window_body w) ≡ accept w)
    forth w h =
        let j = above_below window_numbering n WindowOwn before w h in
        let (ends, early, late) = h.1 in
        let e : w.earliest / 256 * 256 + w.earliest % 256 ≡ w.earliest = omega arith in
        let l : w.latest / 256 * 256 + w.latest % 256 ≡ w.latest = omega arith in (
          each_cons IsByte (omega arith) (each_cons IsByte (omega arith) (each_cons IsByte (omega arith) (each_cons IsByte (omega arith) (each_cons IsByte (omega arith) (each_cons IsByte (omega arith) (each_nil IsByte)))))),
          accepts_require 20 _ (ap₂ (λ (x y : ℕ). job_rises n before w.job && ends_ok x y) e l ∙ and h.0 ends)
              ∙ ap₂ (λ (x y : ℕ). accept (record { job = w.job; earliest = x; latest = y })) e l,
        )

-- ---- the places for lines

place_at : (b : Batch) (ws : List WindowLine) → b.windows ≡ windows_of ws → (i : ℕ) → i < most_jobs → window_of b i ≡ window_in ws i
unfolding window_of windows_of
place_at b ws places i h = ap (λ (l : List Window). get_or l i blank_window) places ∙ listed_at (window_in ws) blank_window most_jobs i h

module _ (b : Batch) (few : b.n ≤ most_jobs) where
  module _ (ws : List WindowLine) (places : b.windows ≡ windows_of ws) (each : EachWindow b.n [] ws) where
    -- a batch with the places of lines has these lines
    pub windows_of_lem : window_lines b ≡ ws
    unfolding window_lines window_line lined earliest latest window_in window_place
    windows_of_lem = lines_of_lem window_numbering b.n WindowOwn (λ w h. refl) (window_of b) ws each (λ i h. place_at b ws places i (omega arith))

    -- and keeps the limits
    pub windows_within : WithinWindows b
    unfolding lined earliest latest blank_window ends_ok window_in window_place
    windows_within = record { with_line = λ i h. (at i h).0; without = λ i h. (at i h).1 }
      where
        Kept : Window → Type 0
        Kept p = (not (eqb p.lined 0) ≡ true → (p.earliest ≤ most_earliest) × (p.earliest ≤ p.latest) × (p.latest < 65536)) × (not (eqb p.lined 0) ≡ false → (p.earliest ≡ 0) × (p.latest ≡ no_latest))

        line_kept : (before : List WindowLine) (w : WindowLine) → WindowIn b.n before w → Kept (window_place w)
        line_kept before w h = let k = both (leb w.earliest most_earliest) _ h.1.0 in (λ e. (leb-true w.earliest most_earliest k.0, leb-true w.earliest w.latest k.1, h.1.2), λ e. apart (sym e))

        at : (i : ℕ) → i < b.n → Kept (window_of b i)
        at i h = subst Kept (sym (place_at b ws places i (omega arith))) (place_each window_numbering Kept ws (λ e. apart e, λ e. (refl, refl)) (each_of (WindowIn b.n) (λ (w : WindowLine). Kept (window_place w)) line_kept [] ws each) i)

  -- the lines of a batch within the limits keep them, one after the other
  pub windows_each : WithinWindows b → EachWindow b.n [] (window_lines b)
  unfolding window_lines window_line lined earliest latest ends_ok
  windows_each w =
      lines_each window_numbering b.n WindowOwn (window_of b) (λ i h e.
      let l = w.with_line i h e in
      (and (le-leb (earliest b i) most_earliest l.0) (le-leb (earliest b i) (latest b i) l.1), omega (arith, l.0), l.2))

-- a batch with the places for another's lines has its ends
pub own_ends : (b : Batch) → WithinWindows b → (c : Batch) → c.windows ≡ windows_of (window_lines b) → (i : ℕ) → i < b.n → i < most_jobs → (lined c i ≡ lined b i) × (earliest c i ≡ earliest b i) × (latest c i ≡ latest b i)
unfolding window_lines window_line lined earliest latest window_in window_place blank_window
own_ends b w c e i h m = go (lined b i) refl (place_at c (window_lines b) e i m ∙ own_place window_numbering (window_of b) b.n i h)
  where
    go : (t : Bool) → lined b i ≡ t → window_of c i ≡ (if t then record { lined = 1; earliest = earliest b i; latest = latest b i } else blank_window) → (lined c i ≡ lined b i) × (earliest c i ≡ earliest b i) × (latest c i ≡ latest b i)
    go true z at = (ap (λ (x : Window). not (eqb x.lined 0)) at ∙ sym z, ap (λ (x : Window). x.earliest) at, ap (λ (x : Window). x.latest) at)
    go false z at =
        let k = w.without i h z in
        (ap (λ (x : Window). not (eqb x.lined 0)) at ∙ sym z, ap (λ (x : Window). x.earliest) at ∙ sym k.0, ap (λ (x : Window). x.latest) at ∙ sym k.1)

-- ---- the limits as tests

pub window_ok_lem : (b : Batch) → WithinWindows b → (i : ℕ) → i < b.n → window_ok b i ≡ true
unfolding window_ok ends_ok
window_ok_lem b w i h = go (lined b i) refl
  where
    go : (t : Bool) → lined b i ≡ t → (if t then ends_ok (earliest b i) (latest b i) else eqb (earliest b i) 0 && eqb (latest b i) no_latest) ≡ true
    go true e = let l = w.with_line i h e in and (le-leb (earliest b i) most_earliest l.0) (le-leb (earliest b i) (latest b i) l.1)
    go false e = let l = w.without i h e in and (eq-eqb (earliest b i) 0 l.0) (eq-eqb (latest b i) no_latest l.1)

-- no earliest start above 20,000
pub window_soon : (b : Batch) (i : ℕ) → window_ok b i ≡ true → earliest b i ≤ most_earliest
unfolding window_ok ends_ok
window_soon b i h = go (lined b i) h
  where
    go : (t : Bool) → (if t then ends_ok (earliest b i) (latest b i) else eqb (earliest b i) 0 && eqb (latest b i) no_latest) ≡ true → earliest b i ≤ most_earliest
    go true e = leb-true (earliest b i) most_earliest (both (leb (earliest b i) most_earliest) _ e).0
    go false e = omega (arith, eqb-true (earliest b i) 0 (both (eqb (earliest b i) 0) _ e).0)
