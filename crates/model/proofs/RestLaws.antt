-- Kind A4: its frame both ways, and its lines and the record's places for them to each other.
use Rattle.std.specs.Prelude.{if◌then◌else◌}
use Prim.Native.Nat.{ℕ, ◌≤◌, ◌<◌}
use mathlib.Core.Path.{◌≡◌, refl, ap, sym, ◌∙◌, subst}
use mathlib.Core.Bool.{Bool, true, false, not}
use mathlib.Core.List.{List, [], ◌∷◌}
use native.Mathlib.Omega.{arith}
use lib.ListN.{get_or}
use lib.Dec.{eqb}
use borrow.Author.Tests.{leb-true, le-leb, eqb-true, eqb-false, ne_eqb, not-true}
use Rattle.model.specs.declared.Batch.{Batch}
use Rattle.model.specs.Common.{between, count, accept, ◌>>=◌, require}
use Rattle.model.specs.Limits.{stations, most_rest}
use Rattle.model.specs.Batch.{rest_of}
use Rattle.model.specs.Line.{at, frame_is}
use Rattle.model.specs.Rest.{RestLine, rested, rest_line, rest_lines, rest_in, rests_of, WithinRests, rest_ok, station_rises, rest}
use Rattle.model.proofs.BoolLaws.{both, and}
use Rattle.model.proofs.ListLaws.{each_cons, each_nil}
use Rattle.model.proofs.SeqLaws.{listed_at}
use Rattle.model.proofs.OutcomeLaws.{accept_eq, require_accepts, accepts_require}
use Rattle.model.proofs.LineLaws.{IsByte, Bytes}
use Rattle.model.proofs.LimitLaws.{between_iff}
use Rattle.model.proofs.ReadLaws.{Framing}
use Rattle.model.proofs.FrameLaws.{frame_iff, at_each}
use Rattle.model.proofs.KindLaws.{Each, each_of}
use Rattle.model.proofs.NumberedLaws.{Numbering, place_each, own_place, Above, above_below, lines_of_lem, lines_each}

-- ---- its numbered lines

abbrev rest_numbering : Numbering RestLine ℕ
rest_numbering =
    record {
      number = λ l. l.station;
      place = λ l. l.ticks;
      blank = 0;
      has = λ r. not (eqb r 0);
      line = λ s r. record { station = s; ticks = r };
      numbered = λ s r. refl;
      whole = λ l. refl;
      none = refl;
    }

-- 1 to 7 ticks (21)
abbrev RestOwn : RestLine → Type 0
RestOwn l = (1 ≤ l.ticks) × (l.ticks ≤ most_rest)

-- the same, and a station up to 15 and above those before it
abbrev pub RestIn : List RestLine → RestLine → Type 0
RestIn = Above rest_numbering stations RestOwn

abbrev pub EachRest : List RestLine → List RestLine → Type 0
EachRest = Each RestIn

-- ---- the frame

-- what follows A4
abbrev pub rest_body : RestLine → List ℕ
rest_body l = l.station ∷ l.ticks ∷ []

pub rest_framing : (before : List RestLine) → Framing (rest before) 0xA4 rest_body (λ l. l) (RestIn before)
unfolding rest count frame_is at station_rises ◌>>=◌ require
rest_framing before = record { back = back; forth = forth }
  where
    back : (f : List ℕ) (l : RestLine) → Bytes f → rest before f ≡ accept l → (0xA4 ∷ rest_body l ≡ f) × RestIn before l
    back f l small e =
        let s = require_accepts 2 _ _ l e in
        let t = require_accepts 21 _ _ l s.1 in
        let k = (frame_iff 0xA4 3 f).0 s.0 in
        let r = both (station_rises before (at f 1)) (between 1 (at f 2) most_rest) t.0 in
        subst (λ (x : RestLine). (0xA4 ∷ rest_body x ≡ f) × RestIn before x) (accept_eq t.1) (
          ap (λ (x : ℕ). x ∷ at f 1 ∷ at f 2 ∷ []) (sym k.0) ∙ at_each f 3 k.1,
          (r.0, (between_iff 1 (at f 2) most_rest).0 r.1),
        )

    forth : (l : RestLine) → RestIn before l → Bytes (0xA4 ∷ rest_body l) × (rest before (0xA4 ∷ rest_body l) ≡ accept l)
    forth l h =
        let s = above_below rest_numbering stations RestOwn before l h in
        let (low, high) = h.1 in (
          each_cons IsByte (omega arith) (each_cons IsByte (omega arith) (each_cons IsByte (omega arith) (each_nil IsByte))),
          accepts_require 21 _ (and h.0 ((between_iff 1 l.ticks most_rest).1 h.1)),
        )

-- ---- the places for lines

place_at : (b : Batch) (ls : List RestLine) → b.rests ≡ rests_of ls → (s : ℕ) → s < stations → rest_of b s ≡ rest_in ls s
unfolding rest_of rests_of
place_at b ls places s h = ap (λ (l : List ℕ). get_or l s 0) places ∙ listed_at (rest_in ls) 0 stations s h

module _ (b : Batch) where
  module _ (ls : List RestLine) (places : b.rests ≡ rests_of ls) (each : EachRest [] ls) where
    -- a batch with the places of lines has these lines
    pub rests_of_lem : rest_lines b ≡ ls
    unfolding rest_lines rest_line rested rest_in
    rests_of_lem = lines_of_lem rest_numbering stations RestOwn (λ l h. ap not (ne_eqb l.ticks 0 (λ z. omega (arith, h.0)))) (rest_of b) ls each (place_at b ls places)

    -- and keeps the limits
    pub rests_within : WithinRests b
    unfolding WithinRests rest_in
    rests_within s h =
        omega (arith, place_at b ls places s h, place_each rest_numbering (λ (r : ℕ). r ≤ most_rest) ls (omega arith) (each_of RestIn (λ (l : RestLine). l.ticks ≤ most_rest) (λ before l h. h.1.1) [] ls each) s)

  -- the lines of a batch within the limits keep them, one after the other
  pub rests_each : WithinRests b → EachRest [] (rest_lines b)
  unfolding rest_lines rest_line rested WithinRests
  rests_each w =
      lines_each rest_numbering stations RestOwn (rest_of b) (λ s h e. let z = eqb-false (rest_of b s) 0 (not-true (eqb (rest_of b s) 0) e) in (omega arith, w s h))

  -- a batch with the places for its lines has its rests
  pub own_rests : (c : Batch) → c.rests ≡ rests_of (rest_lines b) → (s : ℕ) → s < stations → rest_of c s ≡ rest_of b s
  unfolding rest_lines rest_line rested rest_in
  own_rests c e s h = place_at c (rest_lines b) e s h ∙ own_place rest_numbering (rest_of b) stations s h ∙ go (eqb (rest_of b s) 0) refl
    where
      go : (t : Bool) → eqb (rest_of b s) 0 ≡ t → (if not t then rest_of b s else 0) ≡ rest_of b s
      go true z = sym (eqb-true (rest_of b s) 0 z)
      go false z = refl

  -- ---- the limits as tests

  pub rest_ok_lem : WithinRests b → (s : ℕ) → s < stations → rest_ok b s ≡ true
  unfolding rest_ok WithinRests
  rest_ok_lem w s h = le-leb (rest_of b s) most_rest (w s h)

  pub rest_low : (s : ℕ) → rest_ok b s ≡ true → rest_of b s ≤ most_rest
  unfolding rest_ok
  rest_low s h = leb-true (rest_of b s) most_rest h
