-- Texts that a loop puts piece by piece: after k turns the buffer holds the first k pieces, one behind the other.
use Prim.Native.Nat.{ℕ, zero, suc, ◌+◌, ◌*◌, ◌≤◌, ◌<◌}
use mathlib.Core.Path.{◌≡◌, refl, ap, ap₂, sym, ◌∙◌}
use mathlib.Core.List.{List, [], ◌∷◌, ◌++◌, append-nil, append_assoc, map}
use native.Mathlib.Nat.{zero-add}
use native.Mathlib.Numerals.{add-one}
use native.Mathlib.Omega.{arith}
use lib.ListN.{length, length-append}
use Rattle.model.specs.Common.{count, joined}
use Rattle.model.specs.Line.{digits_of}
use Rattle.model.proofs.SeqLaws.{count_snoc}
use Rattle.lines.specs.Write.{overwritten}
use Rattle.lines.proofs.Puts.{put_nothing, put_length, put_then, digits_append}

-- the first k pieces
unfoldable pub pieces : (ℕ → List ℕ) → ℕ → List ℕ
pieces f k = joined f (count 0 k)

joined_append : {A : Type 0} (f : A → List ℕ) (xs ys : List A) → joined f (xs ++ ys) ≡ joined f xs ++ joined f ys
unfolding joined
joined_append f [] ys = refl
joined_append f (x ∷ xs) ys = ap (λ (l : List ℕ). f x ++ l) (joined_append f xs ys) ∙ sym (append_assoc (f x) (joined f xs) (joined f ys))

-- one piece more
pub pieces_more : (f : ℕ → List ℕ) (k : ℕ) → pieces f (k + 1) ≡ pieces f k ++ f k
unfolding pieces joined
pieces_more f k =
    ap (λ (n : ℕ). joined f (count 0 n)) (add-one k)
    ∙ ap (joined f) (count_snoc 0 k)
    ∙ joined_append f (count 0 k) ((0 + k) ∷ [])
    ∙ ap (λ (l : List ℕ). joined f (count 0 k) ++ l) (append-nil (f (0 + k)) ∙ ap f (zero-add k))

pub pieces_length : (f : ℕ → List ℕ) (k : ℕ) → length (pieces f (k + 1)) ≡ length (pieces f k) + length (f k)
pieces_length f k = ap length (pieces_more f k) ∙ length-append (pieces f k) (f k)

-- pieces of one length
pub pieces_even : (f : ℕ → List ℕ) (c : ℕ) → ((i : ℕ) → length (f i) ≡ c) → (k : ℕ) → length (pieces f k) ≡ c * k
unfolding pieces joined count
pieces_even f c h k = go 0 k
  where
    go : (a k : ℕ) → length (joined f (count a k)) ≡ c * k
    go a zero = omega arith
    go a (suc k) = length-append (f a) (joined f (count (suc a) k)) ∙ ap₂ ◌+◌ (h a) (go (suc a) k) ∙ omega arith

-- the pieces are not shorter than fewer of them
pub pieces_grow : (f : ℕ → List ℕ) (k n : ℕ) → k ≤ n → length (pieces f k) ≤ length (pieces f n)
unfolding pieces joined count
pieces_grow f k n h = go 0 k n h
  where
    go : (a k n : ℕ) → k ≤ n → length (joined f (count a k)) ≤ length (joined f (count a n))
    go a zero n h = omega arith
    go a (suc k) zero h = absurd (omega arith)
    go a (suc k) (suc n) h =
        omega (
          arith,
          length-append (f a) (joined f (count (suc a) k)),
          length-append (f a) (joined f (count (suc a) n)),
          go (suc a) k n (omega arith),
        )

-- ---- a loop that puts them

-- after k turns: the next place, and the buffer
pub record Filled (f : ℕ → List ℕ) (before : List ℕ) (at k next : ℕ) (after : List ℕ) : Type 0 where
  pub place : next ≡ at + length (pieces f k)
  pub buffer : after ≡ overwritten before at (pieces f k)
  pub same_length : length after ≡ length before

-- before the first
pub filled_none : (f : ℕ → List ℕ) (before : List ℕ) (at : ℕ) → Filled f before at 0 at before
unfolding pieces joined count
filled_none f before at =
    record { place = omega arith; buffer = sym (put_nothing before at); same_length = refl }

module _ (f : ℕ → List ℕ) (before : List ℕ) (at n : ℕ) (fits : at + length (pieces f n) ≤ length before) where
  grown : (k : ℕ) → k < n → (length (pieces f k) + length (f k)) ≤ length (pieces f n)
  grown k h =
      omega (arith, pieces_grow f (k + 1) n (omega arith), pieces_length f k)

  -- there is room for the next piece
  pub filled_room : {k next : ℕ} {after : List ℕ} → Filled f before at k next after → k < n → next + length (f k) ≤ length after
  filled_room {k} p h = omega (arith, p.place, p.same_length, grown k h)

  -- one turn more
  pub filled_more : {k next place size : ℕ} {after last : List ℕ} → Filled f before at k next after → k < n → length (f k) ≡ size → place ≡ next + size → last ≡ overwritten after next (f k) → Filled f before at (k + 1) place last
  filled_more {k} {next} {after = after} p h s e g =
      let room = grown k h in
      record {
        place = omega (arith, p.place, pieces_length f k);
        buffer =
            put_then before at (pieces f k) (f k) (omega arith) p.place p.buffer g
            ∙ ap (overwritten before at) (sym (pieces_more f k));
        same_length = ap length g ∙ put_length after next (f k) (filled_room p h) ∙ p.same_length;
      }

-- after the last, the whole text is there
pub filled_all : (f : ℕ → List ℕ) (before : List ℕ) (at n : ℕ) (text : List ℕ) {k next : ℕ} {after : List ℕ} → Filled f before at k next after → k ≡ n → text ≡ pieces f n → (next ≡ at + length text) × (after ≡ overwritten before at text)
filled_all f before at n text {k} p h e =
    let all : pieces f k ≡ text = ap (pieces f) h ∙ sym e in
    (p.place ∙ ap (λ (l : List ℕ). at + length l) all, p.buffer ∙ ap (overwritten before at) all)

-- ---- what is made of pieces

-- items of a list by number are pieces
pub joined_pieces : {A : Type 0} (f : A → List ℕ) (g : ℕ → A) (k : ℕ) → joined f (map g (count 0 k)) ≡ pieces (λ i. f (g i)) k
unfolding pieces joined
joined_pieces f g k = go (count 0 k)
  where
    go : (xs : List ℕ) → joined f (map g xs) ≡ joined (λ i. f (g i)) xs
    go [] = refl
    go (x ∷ xs) = ap (λ (l : List ℕ). f (g x) ++ l) (go xs)

-- the digits of pieces are pieces
pub digits_pieces : (f : ℕ → List ℕ) (k : ℕ) → digits_of (pieces f k) ≡ pieces (λ i. digits_of (f i)) k
unfolding pieces joined digits_of
digits_pieces f k = go (count 0 k)
  where
    go : (xs : List ℕ) → digits_of (joined f xs) ≡ joined (λ i. digits_of (f i)) xs
    go [] = refl
    go (x ∷ xs) = digits_append (f x) (joined f xs) ∙ ap (λ (l : List ℕ). digits_of (f x) ++ l) (go xs)
