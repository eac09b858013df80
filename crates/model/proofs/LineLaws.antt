-- Lines both ways: a line that was read is written back character by character, and a line that was written is read. So reading a
-- line and writing one are inverse to each other, on bytes.
use Rattle.std.specs.Prelude.{if◌then◌else◌}
use Prim.Native.Nat.{ℕ, ◌+◌, ◌-◌, ◌*◌, ◌/◌, ◌%◌, ◌≤◌, ◌<◌}
use mathlib.Core.Path.{◌≡◌, refl, ap, ap₂, sym, ◌∙◌, subst}
use mathlib.Core.Bool.{Bool, true, false, not}
use mathlib.Core.Option.{Option, none, some}
use mathlib.Core.List.{List, [], ◌∷◌, ◌++◌, append_assoc, Memᴰ}
use native.Mathlib.Omega.{arith}
use lib.ListN.{length, drop}
use lib.Seq.{drop_at}
use lib.Dec.{leb, ltb, eqb}
use borrow.Author.Tests.{leb-true, le-leb, lt-leb, ltb-true, ltb-false, lt-ltb, le-ltb, eqb-true, ne_eqb, not-false}
use Rattle.model.specs.Common.{between, up_to, joined}
use Rattle.model.specs.Line.{digit, byte, bytes_of, line_of, frame_bytes, read_line, digit_of, digits_of, line}
use Rattle.model.proofs.BoolLaws.{both}
use Rattle.model.proofs.ListLaws.{each_nil, each_cons, each_head, each_tail}
use Rattle.model.proofs.SeqLaws.{up_to_drop}

-- eight bits
abbrev pub IsByte : ℕ → Type 0
IsByte x = x < 256

-- each item is a byte
abbrev pub Bytes : List ℕ → Type 0
Bytes bs = (x : ℕ) → Memᴰ x bs → IsByte x

-- nothing is no value
nothing : {A X : Type 0} {a : A} → none ≡ some a → X
nothing e = let z : ◌≡◌ {A = ℕ} 0 1 = cc in absurd (omega arith)

-- ---- digits

-- a digit that was read is the digit of its value
pub digit_back : (c v : ℕ) → digit c ≡ some v → (v < 16) × (digit_of v ≡ c)
unfolding digit between digit_of
digit_back c v e = go (between 48 c 57) refl (between 65 c 70) refl e
  where
    go : (p : Bool) → between 48 c 57 ≡ p → (q : Bool) → between 65 c 70 ≡ q → (if p then some (c - 48) else if q then some (c - 55) else none) ≡ some v → (v < 16) × (digit_of v ≡ c)
    go true hp q hq e =
        let h = both (leb 48 c) (leb c 57) hp in
        let lo : 48 ≤ c = leb-true 48 c h.0 in
        let hi : c ≤ 57 = leb-true c 57 h.1 in
        let z : c - 48 ≡ v = cc in
        (omega arith, rw (lt-ltb v 10 (omega arith)) (omega arith))
    go false hp true hq e =
        let h = both (leb 65 c) (leb c 70) hq in
        let lo : 65 ≤ c = leb-true 65 c h.0 in
        let hi : c ≤ 70 = leb-true c 70 h.1 in
        let z : c - 55 ≡ v = cc in
        (omega arith, rw (le-ltb v 10 (omega arith)) (omega arith))
    go false hp false hq e = nothing e

-- the digit of a value has that value, and is no 0A
pub digit_of_lem : (v : ℕ) → v < 16 → (digit (digit_of v) ≡ some v) × (not (eqb (digit_of v) 10) ≡ true)
unfolding digit between digit_of
digit_of_lem v h = go (ltb v 10) refl
  where
    go : (p : Bool) → ltb v 10 ≡ p → (digit (if p then v + 48 else v + 55) ≡ some v) × (not (eqb (if p then v + 48 else v + 55) 10) ≡ true)
    go true e =
        let low : v < 10 = ltb-true v 10 e in (
          rw (le-leb 48 (v + 48) (omega arith), le-leb (v + 48) 57 (omega arith)) (ap some (omega arith)),
          rw (ne_eqb (v + 48) 10 (λ q. absurd (omega arith))) refl,
        )
    go false e =
        let high : 10 ≤ v = ltb-false v 10 e in (
          rw (le-leb 48 (v + 55) (omega arith), lt-leb (v + 55) 57 (omega arith), le-leb 65 (v + 55) (omega arith), le-leb (v + 55) 70 (omega arith)) (ap some (omega arith)),
          rw (ne_eqb (v + 55) 10 (λ q. absurd (omega arith))) refl,
        )

-- ---- the digits of a line

-- two digits are those of the byte that they make
pair_back : (h l x y : ℕ) → x < 16 → y < 16 → digit_of x ≡ h → digit_of y ≡ l → ◌≡◌ {A = List ℕ} (digit_of ((x * 16 + y) / 16) ∷ digit_of ((x * 16 + y) % 16) ∷ []) (h ∷ l ∷ [])
pair_back h l x y hx hy p q =
    let a : (x * 16 + y) / 16 ≡ x = omega arith in
    let b : (x * 16 + y) % 16 ≡ y = omega arith in
    rw (a, b, p, q)

-- and so are they before other digits
byte_back : (h l : ℕ) (cs : List ℕ) (x : Option ℕ) → digit h ≡ x → (y : Option ℕ) → digit l ≡ y → (r : Option (List ℕ)) → ((rs : List ℕ) → r ≡ some rs → (digits_of rs ≡ cs) × Bytes rs) → (bs : List ℕ) → byte x y r ≡ some bs → (digits_of bs ≡ h ∷ l ∷ cs) × Bytes bs
unfolding byte digits_of joined
byte_back h l cs (some x) hx (some y) hy (some r) back bs e =
    let z : ((x * 16 + y) ∷ r) ≡ bs = cc in
    let a = digit_back h x hx in
    let b = digit_back l y hy in
    let k = back r refl in
    subst (λ (bs : List ℕ). (digits_of bs ≡ h ∷ l ∷ cs) × Bytes bs) z
    (ap₂ (λ (p q : List ℕ). p ++ q) (pair_back h l x y a.0 b.0 a.1 b.1) k.0, each_cons IsByte (omega arith) k.1)
byte_back h l cs (some x) hx (some y) hy none back bs e = nothing e
byte_back h l cs (some x) hx none hy r back bs e = nothing e
byte_back h l cs none hx y hy r back bs e = nothing e

-- digits that were read are the digits of their bytes
pub bytes_back : (cs bs : List ℕ) → bytes_of cs ≡ some bs → (digits_of bs ≡ cs) × Bytes bs
unfolding bytes_of digits_of joined
bytes_back [] bs e = let z : [] ≡ bs = cc in subst (λ (bs : List ℕ). (digits_of bs ≡ []) × Bytes bs) z (refl, each_nil IsByte)
bytes_back (h ∷ []) bs e = nothing e
bytes_back (h ∷ l ∷ cs) bs e = byte_back h l cs (digit h) refl (digit l) refl (bytes_of cs) (λ rs q. bytes_back cs rs q) bs e

-- the digits of bytes are read as these bytes
pub bytes_of_lem : (bs : List ℕ) → Bytes bs → bytes_of (digits_of bs) ≡ some bs
unfolding bytes_of byte digits_of joined
bytes_of_lem [] h = refl
bytes_of_lem (b ∷ bs) h =
    let small : b < 256 = each_head IsByte h in
    rw ((digit_of_lem (b / 16) (omega arith)).0, (digit_of_lem (b % 16) (omega arith)).0, bytes_of_lem bs (each_tail IsByte h))
    (ap (λ (x : ℕ). some (x ∷ bs)) (omega arith))

-- ---- the first line of a file

-- what follows the characters before the first that fails begins with one that fails
up_to_next : (f : ℕ → Bool) (xs : List ℕ) (y : ℕ) (ys : List ℕ) → drop (length (up_to f xs)) xs ≡ y ∷ ys → f y ≡ false
unfolding up_to
up_to_next f [] y ys e = let z : ◌≡◌ {A = ℕ} 0 1 = cc in absurd (omega arith)
up_to_next f (x ∷ xs) y ys e = go (f x) refl (up_to_next f xs y ys) e
  where
    part : Bool → List ℕ
    part p = elim p [ true ↦ x ∷ up_to f xs | false ↦ [] ]

    go : (p : Bool) → f x ≡ p → (drop (length (up_to f xs)) xs ≡ y ∷ ys → f y ≡ false) → drop (length (part p)) (x ∷ xs) ≡ y ∷ ys → f y ≡ false
    go true h rec e = rec e
    go false h rec e = let z : x ≡ y = cc in rw (← z) h

-- a line that was read had digits and was closed
frame_back : (r : Option (List ℕ)) (after bs rest : List ℕ) → frame_bytes r after ≡ some (bs, rest) → (r ≡ some bs) × ((nl : ℕ) × (after ≡ nl ∷ rest))
unfolding frame_bytes
frame_back none after bs rest e = nothing e
frame_back (some []) after bs rest e = nothing e
frame_back (some (b ∷ r)) [] bs rest e = nothing e
frame_back (some (b ∷ r)) (nl ∷ a) bs rest e =
    let z : ◌≡◌ {A = List ℕ × List ℕ} (b ∷ r, a) (bs, rest) = cc in
    (ap (λ (p : List ℕ × List ℕ). some p.0) z, (nl, ap (λ (p : List ℕ × List ℕ). nl ∷ p.1) z))

-- a line that was read is the one that is written, and holds bytes
pub read_back : (file bs rest : List ℕ) → read_line file ≡ some (bs, rest) → (line bs ++ rest ≡ file) × Bytes bs
unfolding read_line line line_of
read_back file bs rest e =
    let o = frame_back (bytes_of (line_of file)) (drop (length (line_of file)) file) bs rest e in
    let back = bytes_back (line_of file) bs o.0 in
    let newline : o.1.0 ≡ 10 = eqb-true o.1.0 10 (not-false (eqb o.1.0 10) (up_to_next (λ x. not (eqb x 10)) file o.1.0 rest o.1.1)) in (
      append_assoc (digits_of bs) (10 ∷ []) rest
          ∙ ap₂ (λ (x y : List ℕ). x ++ y) back.0 (ap (λ (n : ℕ). n ∷ rest) (sym newline) ∙ sym o.1.1)
          ∙ up_to_drop (λ x. not (eqb x 10)) file,
      back.1,
    )

-- a character other than 0A belongs to the line
line_on : (c : ℕ) (cs : List ℕ) → not (eqb c 10) ≡ true → line_of (c ∷ cs) ≡ c ∷ line_of cs
unfolding line_of up_to
line_on c cs e = rw (e, up_to)

-- the first line of written digits is these digits
pub line_of_lem : (bs rest : List ℕ) → Bytes bs → line_of (digits_of bs ++ (10 ∷ rest)) ≡ digits_of bs
unfolding line_of digits_of joined up_to
line_of_lem [] rest h = refl
line_of_lem (b ∷ bs) rest h =
    let small : b < 256 = each_head IsByte h in
    let high = (digit_of_lem (b / 16) (omega arith)).1 in
    let low = (digit_of_lem (b % 16) (omega arith)).1 in
    line_on (digit_of (b / 16)) (digit_of (b % 16) ∷ (digits_of bs ++ (10 ∷ rest))) high
    ∙ ap (λ (l : List ℕ). digit_of (b / 16) ∷ l)
    (line_on (digit_of (b % 16)) (digits_of bs ++ (10 ∷ rest)) low ∙ ap (λ (l : List ℕ). digit_of (b % 16) ∷ l) (line_of_lem bs rest (each_tail IsByte h)))

-- a line that was written is read
pub line_read : (b : ℕ) (bs rest : List ℕ) → Bytes (b ∷ bs) → read_line (line (b ∷ bs) ++ rest) ≡ some (b ∷ bs, rest)
unfolding read_line line frame_bytes
line_read b bs rest h =
    let file = digits_of (b ∷ bs) ++ (10 ∷ rest) in
    let whole = line_of_lem (b ∷ bs) rest h in
    ap read_line (append_assoc (digits_of (b ∷ bs)) (10 ∷ []) rest)
    ∙ ap₂ frame_bytes (ap bytes_of whole ∙ bytes_of_lem (b ∷ bs) h)
    (ap (λ (l : List ℕ). drop (length l) file) whole ∙ drop_at (digits_of (b ∷ bs)) (10 ∷ rest) (length (digits_of (b ∷ bs))) refl)
