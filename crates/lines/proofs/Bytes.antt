-- The bytes of a line's characters: there are some exactly where the count is even and all are digits, half as many, each the value of two.
use Prim.Native.Nat.{ℕ, zero, suc, ◌+◌, ◌*◌, ◌%◌}
use mathlib.Core.Path.{◌≡◌, refl, ap₂, sym, ◌∙◌}
use mathlib.Core.Bool.{true, false}
use mathlib.Core.Option.{Option, none, some}
use mathlib.Core.List.{List, [], ◌∷◌}
use native.Mathlib.Omega.{arith}
use lib.ListN.{length, get_or}
use Rattle.model.specs.Common.{between, all, is_some}
use Rattle.model.specs.Line.{digit, byte, bytes_of}
use Rattle.lines.specs.Read.{value, is_digit, byte_at}
use Rattle.lines.proofs.Digit.{value_by, test_by}
use Rattle.lines.proofs.UpTo.{all_cons, all_uncons}

-- the bytes of characters that are all digits
pub record Whole (cs bs : List ℕ) : Type 0 where
  pub size : length cs ≡ 2 * length bs
  pub digits : all is_digit cs ≡ true
  pub each : (k : ℕ) → get_or bs k 0 ≡ byte_at cs (2 * k)

-- what is known of characters by their bytes
abbrev pub Known : List ℕ → Option (List ℕ) → Type 0
Known cs none = all is_digit cs ≡ true → length cs % 2 ≡ 0 → ⊥
Known cs (some bs) = Whole cs bs

-- a byte behind the first two characters stands two places further on
byte_skip : (h l : ℕ) (cs : List ℕ) (n : ℕ) → byte_at (h ∷ l ∷ cs) (2 * suc n) ≡ byte_at cs (2 * n)
unfolding byte_at
byte_skip h l cs n =
    let a : 2 * suc n ≡ suc (suc (2 * n)) = omega arith in
    let b : 2 * suc n + 1 ≡ suc (suc (2 * n + 1)) = omega arith in
    ap₂ (λ (x y : ℕ). value (get_or (h ∷ l ∷ cs) x 0) * 16 + value (get_or (h ∷ l ∷ cs) y 0)) a b

-- a digit passes the test and has its value
digit_is : (c v : ℕ) → digit c ≡ some v → (is_digit c ≡ true) × (v ≡ value c)
unfolding is_some
digit_is c v e = (sym (test_by c e), value_by c e)

-- another character does not pass
digit_not : (c : ℕ) → digit c ≡ none → is_digit c ≡ true → ⊥
unfolding is_some
digit_not c e h = let z : is_digit c ≡ false = sym (test_by c e) in let y : ◌≡◌ {A = ℕ} 0 1 = cc in omega arith

-- two characters more
known_more : (h l : ℕ) (cs : List ℕ) (x : Option ℕ) → digit h ≡ x → (y : Option ℕ) → digit l ≡ y → (r : Option (List ℕ)) → Known cs r → Known (h ∷ l ∷ cs) (byte x y r)
unfolding byte byte_at
known_more h l cs (some x) hx (some y) hy (some r) w =
    let a = digit_is h x hx in
    let b = digit_is l y hy in
    record {
      size = omega (arith, w.size);
      digits = all_cons is_digit h (l ∷ cs) a.0 (all_cons is_digit l cs b.0 w.digits);
      each = first a.1 b.1;
    }
  where
    first : x ≡ value h → y ≡ value l → (k : ℕ) → get_or ((x * 16 + y) ∷ r) k 0 ≡ byte_at (h ∷ l ∷ cs) (2 * k)
    first p q zero = ap₂ (λ (a b : ℕ). a * 16 + b) p q
    first p q (suc k) = w.each k ∙ sym (byte_skip h l cs k)
known_more h l cs (some x) hx (some y) hy none w = λ a e.
    w (all_uncons is_digit l cs (all_uncons is_digit h (l ∷ cs) a).1).1 (omega arith)
known_more h l cs (some x) hx none hy r w = λ a e. digit_not l hy (all_uncons is_digit l cs (all_uncons is_digit h (l ∷ cs) a).1).0
known_more h l cs none hx y hy r w = λ a e. digit_not h hx (all_uncons is_digit h (l ∷ cs) a).0

-- the bytes of characters are known so
pub known : (cs : List ℕ) → Known cs (bytes_of cs)
unfolding bytes_of all byte_at value digit between
known [] = record { size = refl; digits = refl; each = λ k. refl }
known (h ∷ []) = λ a e. omega arith
known (h ∷ l ∷ cs) = known_more h l cs (digit h) refl (digit l) refl (bytes_of cs) (known cs)
