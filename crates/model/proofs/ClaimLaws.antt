-- Plan texts both ways: what is read as a claim is exactly the text of that claim, each number fitting its bytes.
use Prim.Native.Nat.{ℕ, zero, suc, ◌+◌, ◌*◌, ◌/◌, ◌%◌, ◌<◌}
use mathlib.Core.Path.{◌≡◌, refl, ap, ap₂, sym, ◌∙◌, subst}
use mathlib.Core.Logic.{◌↔◌}
use mathlib.Core.Bool.{Bool, true, false, not}
use mathlib.Core.List.{List, [], ◌∷◌, ◌++◌, map-id, append-nil, Memᴰ}
use native.Mathlib.Omega.{arith}
use lib.ListN.{length}
use lib.Dec.{eqb}
use borrow.Author.Tests.{eqb-true, not-true}
use Rattle.model.specs.Common.{count, keep, joined, is_empty, Outcome, refuse, accept, ◌>>=◌, require}
use Rattle.model.specs.Line.{at, wide, frame_is, digit_of, digits_of, line, two, four}
use Rattle.model.specs.Open.{read_one, read_all}
use Rattle.model.specs.Judge.{Claim, claim_text, Claims, claim_head, claim_line, read_lines, read_claim}
use Rattle.model.proofs.BoolLaws.{both}
use Rattle.model.proofs.ListLaws.{each_nil, each_cons, each_head, each_tail}
use Rattle.model.proofs.OutcomeLaws.{accept_eq, bind_accepts, accepts_bind, require_accepts, accepts_require}
use Rattle.model.proofs.LineLaws.{IsByte, Bytes, digit_of_lem}
use Rattle.model.proofs.ReadLaws.{Framing, text, one_back, one_forth, all_back, all_forth}
use Rattle.model.proofs.FrameLaws.{two_back, frame_iff, at_each, at_byte}
use Rattle.model.proofs.FileLaws.{no_more}
use Rattle.model.proofs.RightLaws.{LineOk}

-- ---- the B0 line

-- the four bytes of a number made of four bytes
four_back : (a b c d : ℕ) → a < 256 → b < 256 → c < 256 → d < 256 → four ((a * 256 + b) * 65536 + (c * 256 + d)) ≡ a ∷ b ∷ c ∷ d ∷ []
unfolding four
four_back a b c d ha hb hc hd =
    let high : ((a * 256 + b) * 65536 + (c * 256 + d)) / 65536 ≡ a * 256 + b = omega arith in
    let low : ((a * 256 + b) * 65536 + (c * 256 + d)) % 65536 ≡ c * 256 + d = omega arith in
    rw (high, low) (ap₂ (λ (x y : List ℕ). x ++ y) (two_back a b ha hb) (two_back c d hc hd))

-- n, latency and total in their bytes
abbrev HeadOk : ℕ × ℕ × ℕ → Type 0
HeadOk h = (h.0 < 256) × (h.1 < 65536) × (h.2 < 4294967296)

-- what follows B0
abbrev head_body : ℕ × ℕ × ℕ → List ℕ
head_body h = 0x01 ∷ h.0 ∷ (two h.1 ++ four h.2)

-- the B0 line both ways
head_framing : Framing claim_head 0xB0 head_body (λ h. h) HeadOk
unfolding claim_head frame_is at wide require ◌>>=◌ count two four
head_framing = record { back = back; forth = forth }
  where
    back : (f : List ℕ) (h : ℕ × ℕ × ℕ) → Bytes f → claim_head f ≡ accept h → (0xB0 ∷ head_body h ≡ f) × HeadOk h
    back f h small e =
        let s = require_accepts 17 _ _ h e in
        let t = both (frame_is 0xB0 9 f) (eqb (at f 1) 1) s.0 in
        let k = (frame_iff 0xB0 9 f).0 t.0 in
        let b : (i : ℕ) → at f i < 256 = λ i. at_byte f i small in
        subst (λ (p : ℕ × ℕ × ℕ). (0xB0 ∷ head_body p ≡ f) × HeadOk p) (accept_eq s.1) (
          ap₂ (λ (x y : ℕ). x ∷ y ∷ at f 2 ∷ (two (wide f 3) ++ four (wide f 5 * 65536 + wide f 7))) (sym k.0) (sym (eqb-true (at f 1) 1 t.1))
              ∙ ap₂ (λ (x y : List ℕ). at f 0 ∷ at f 1 ∷ at f 2 ∷ (x ++ y)) (two_back (at f 3) (at f 4) (b 3) (b 4)) (four_back (at f 5) (at f 6) (at f 7) (at f 8) (b 5) (b 6) (b 7) (b 8))
              ∙ at_each f 9 k.1,
          (b 2, omega (arith, b 3, b 4), omega (arith, b 5, b 6, b 7, b 8)),
        )

    forth : (h : ℕ × ℕ × ℕ) → HeadOk h → Bytes (0xB0 ∷ head_body h) × (claim_head (0xB0 ∷ head_body h) ≡ accept h)
    forth h ok =
        let l : h.1 / 256 * 256 + h.1 % 256 ≡ h.1 = omega arith in
        let t : (h.2 / 65536 / 256 * 256 + h.2 / 65536 % 256) * 65536 + (h.2 % 65536 / 256 * 256 + h.2 % 65536 % 256) ≡ h.2 = omega arith in (
          each_cons IsByte (omega arith) (each_cons IsByte (omega arith) (each_cons IsByte ok.0
              (each_cons IsByte (omega (arith, ok.1)) (each_cons IsByte (omega arith)
              (each_cons IsByte (omega (arith, ok.2)) (each_cons IsByte (omega arith) (each_cons IsByte (omega arith) (each_cons IsByte (omega arith) (each_nil IsByte))))))))),
          ap₂ (λ (x y : ℕ). accept (h.0, x, y)) l t,
        )

-- ---- a B1 line

-- what follows B1
abbrev line_body : ℕ × ℕ → List ℕ
line_body q = q.0 ∷ two q.1

-- a B1 line both ways
line_framing : Framing claim_line 0xB1 line_body (λ q. q) LineOk
unfolding claim_line frame_is at wide require ◌>>=◌ count two
line_framing = record { back = back; forth = forth }
  where
    back : (f : List ℕ) (q : ℕ × ℕ) → Bytes f → claim_line f ≡ accept q → (0xB1 ∷ line_body q ≡ f) × LineOk q
    back f q small e =
        let s = require_accepts 17 _ _ q e in
        let k = (frame_iff 0xB1 4 f).0 s.0 in
        let b : (i : ℕ) → at f i < 256 = λ i. at_byte f i small in
        subst (λ (p : ℕ × ℕ). (0xB1 ∷ line_body p ≡ f) × LineOk p) (accept_eq s.1) (
          ap₂ (λ (x : ℕ) (l : List ℕ). x ∷ at f 1 ∷ l) (sym k.0) (two_back (at f 2) (at f 3) (b 2) (b 3)) ∙ at_each f 4 k.1,
          (b 1, omega (arith, b 2, b 3)),
        )

    forth : (q : ℕ × ℕ) → LineOk q → Bytes (0xB1 ∷ line_body q) × (claim_line (0xB1 ∷ line_body q) ≡ accept q)
    forth q ok =
        let whole : q.1 / 256 * 256 + q.1 % 256 ≡ q.1 = omega arith in (
          each_cons IsByte (omega arith) (each_cons IsByte ok.0 (each_cons IsByte (omega (arith, ok.1)) (each_cons IsByte (omega arith) (each_nil IsByte)))),
          ap (λ (s : ℕ). accept (q.0, s)) whole,
        )

-- ---- lines to the end of a text

-- the number of its 0A
abbrev pub ends : List ℕ → ℕ
ends cs = length (keep (λ c. eqb c 10) cs)

-- a character other than 0A ends no line
ends_on : (c : ℕ) (cs : List ℕ) → not (eqb c 10) ≡ true → ends (c ∷ cs) ≡ ends cs
unfolding keep
ends_on c cs e = rw (not-true (eqb c 10) e)

-- a written line has one 0A
pub ends_line : (bs rest : List ℕ) → Bytes bs → ends (line bs ++ rest) ≡ suc (ends rest)
unfolding line digits_of joined keep
ends_line [] rest h = refl
ends_line (b ∷ bs) rest h =
    let small : b < 256 = each_head IsByte h in
    ends_on (digit_of (b / 16)) (digit_of (b % 16) ∷ (line bs ++ rest)) (digit_of_lem (b / 16) (omega arith)).1
    ∙ ends_on (digit_of (b % 16)) (line bs ++ rest) (digit_of_lem (b % 16) (omega arith)).1
    ∙ ends_line bs rest (each_tail IsByte h)

-- and written lines have as many as they are
ends_lines : (qs : List (ℕ × ℕ)) → ((q : ℕ × ℕ) → Memᴰ q qs → LineOk q) → ends (joined (text 0xB1 line_body) qs) ≡ length qs
unfolding joined keep
ends_lines [] h = refl
ends_lines (q ∷ qs) h = ends_line (0xB1 ∷ line_body q) _ (line_framing.forth q (each_head LineOk h)).0 ∙ ap suc (ends_lines qs (each_tail LineOk h))

-- nothing left: no line
pub lines_none : read_lines [] ≡ accept []
unfolding read_lines read_all keep is_empty require ◌>>=◌
lines_none = refl

-- where something is left that is no B1 line, all is refused
pub lines_stop : (c : ℕ) (cs : List ℕ) (k : ℕ) → read_one claim_line (c ∷ cs) ≡ refuse k → (j : ℕ) × (read_lines (c ∷ cs) ≡ refuse j)
unfolding read_lines read_all is_empty require ◌>>=◌
lines_stop c cs k e = go _
  where
    go : (n : ℕ) → (j : ℕ) × ((read_all claim_line n (c ∷ cs) >>= λ p. require 17 (is_empty p.1) >>= λ u. accept p.0) ≡ refuse j)
    go zero = (17, refl)
    go (suc n) = (k, rw e)

-- a B1 line, and then the others
pub lines_more : (cs rest : List ℕ) (q : ℕ × ℕ) → read_one claim_line cs ≡ accept (q, rest) → read_lines cs ≡ (read_lines rest >>= λ qs. accept (q ∷ qs))
unfolding read_lines read_all require ◌>>=◌
lines_more cs rest q e =
    let back = one_back _ _ _ _ _ line_framing cs q rest e in
    let one : ends cs ≡ suc (ends rest) = ap ends (sym back.0) ∙ ends_line (0xB1 ∷ line_body q) rest (line_framing.forth q back.1).0 in
    rw (one, read_all, e) (go (read_all claim_line (ends rest) rest))
  where
    put : Bool → List (ℕ × ℕ) → Outcome (List (ℕ × ℕ))
    put t qs = require 17 t >>= λ u. accept qs

    ends_too : (t : Bool) (qs : List (ℕ × ℕ)) → put t (q ∷ qs) ≡ (put t qs >>= λ qs. accept (q ∷ qs))
    ends_too true qs = refl
    ends_too false qs = refl

    before : List (ℕ × ℕ) × List ℕ → Outcome (List (ℕ × ℕ) × List ℕ)
    before p = accept (q ∷ p.0, p.1)

    go : (o : Outcome (List (ℕ × ℕ) × List ℕ)) → (o >>= before >>= λ p. put (is_empty p.1) p.0) ≡ (o >>= (λ p. put (is_empty p.1) p.0) >>= λ qs. accept (q ∷ qs))
    go (refuse k) = refl
    go (accept p) = ends_too (is_empty p.1) p.0

-- lines that were read are the ones that are written, and the other way
lines_back : (cs : List ℕ) (qs : List (ℕ × ℕ)) → read_lines cs ≡ accept qs → (joined (text 0xB1 line_body) qs ≡ cs) × ((q : ℕ × ℕ) → Memᴰ q qs → LineOk q)
unfolding read_lines
lines_back cs qs e =
    let r = bind_accepts (read_all claim_line (ends cs) cs) _ qs e in
    let s = require_accepts 17 _ _ qs r.2 in
    let g = all_back _ _ _ _ _ line_framing (ends cs) cs r.0.0 r.0.1 r.1 in
    let same : r.0.0 ≡ qs = accept_eq s.1 in
    subst (λ (qs : List (ℕ × ℕ)). (joined (text 0xB1 line_body) qs ≡ cs) × ((q : ℕ × ℕ) → Memᴰ q qs → LineOk q)) same
    (sym (append-nil _) ∙ ap (λ (l : List ℕ). joined (text 0xB1 line_body) r.0.0 ++ l) (sym (no_more r.0.1 s.0)) ∙ g.1, g.2)

lines_forth : (qs : List (ℕ × ℕ)) → ((q : ℕ × ℕ) → Memᴰ q qs → LineOk q) → read_lines (joined (text 0xB1 line_body) qs) ≡ accept qs
unfolding read_lines is_empty
lines_forth qs h =
    let cs = joined (text 0xB1 line_body) qs in
    let all = all_forth _ _ _ _ _ line_framing (ends cs) qs [] (sym (ends_lines qs h)) h in
    accepts_bind _ (ap (read_all claim_line (ends cs)) (sym (append-nil cs)) ∙ all ∙ ap (λ (l : List (ℕ × ℕ)). accept (l, [])) (map-id qs)) ∙ accepts_require 17 _ refl

-- ---- a whole text

-- a text is read as a claim exactly when it is that claim's
pub claim_iff : (cs : List ℕ) (c : Claim) → (read_claim cs ≡ accept c) ↔ Claims cs c
unfolding read_claim claim_text
claim_iff cs c = (back, forth)
  where
    back : read_claim cs ≡ accept c → Claims cs c
    back e =
        let r = bind_accepts (read_one claim_head cs) _ c e in
        let s = bind_accepts (read_lines r.0.1) _ c r.2 in
        let h = one_back _ _ _ _ _ head_framing cs r.0.0 r.0.1 r.1 in
        let l = lines_back r.0.1 s.0 s.1 in
        subst (Claims cs) (accept_eq s.2)
        (record {
          is = sym (ap (λ (rest : List ℕ). text 0xB0 head_body r.0.0 ++ rest) l.0 ∙ h.0);
          n_fits = h.1.0;
          latency_fits = h.1.1;
          total_fits = h.1.2;
          lines_fit = l.1;
        })

    forth : Claims cs c → read_claim cs ≡ accept c
    forth h =
        ap read_claim h.is
        ∙ accepts_bind _ (one_forth _ _ _ _ _ head_framing (c.n, c.latency, c.total) _ (h.n_fits, h.latency_fits, h.total_fits))
        ∙ accepts_bind _ (lines_forth c.lines h.lines_fit)
