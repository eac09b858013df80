-- Codes put one after the other count them all and leave the first 1,024 in their places.
use Prim.Native.Nat.{ℕ, ◌+◌, ◌≤◌, ◌<◌}
use mathlib.Core.Path.{◌≡◌, refl, sym, ap, ◌∙◌}
use mathlib.Core.List.{List, [], ◌∷◌, ◌++◌, append_assoc, append-nil}
use native.Mathlib.Omega.{arith}
use native.Mathlib.Decide.{dec_lt}
use lib.ListN.{length, take, set, replicate, length-append}
use lib.Seq.{take_all, take-append-le}
use borrow.Author.Tests.{lt-ltb, le-ltb}
use Rattle.model.specs.Common.{pad}
use Rattle.model.proofs.SeqLaws.{pad_put}
use Rattle.clashes.specs.declared.Clashes.{Clashes}
use Rattle.clashes.specs.List.{listing, put, add_all}

-- the list that holds these codes
unfoldable pub full : List ℕ → Clashes
full xs = record { count = length xs; codes = pad 1024 0 (take 1024 xs) }

-- one code more, as the code stores it
pub put_in : (n x : ℕ) (codes codes' : List ℕ) → n < 1024 → codes' ≡ set codes n x → listing (n + 1) codes' ≡ put (listing n codes) x
unfolding put
put_in n x codes codes' h e = rw (lt-ltb n 1024 h, e)

pub put_out : (n x : ℕ) (codes codes' : List ℕ) → 1024 ≤ n → codes' ≡ codes → listing (n + 1) codes' ≡ put (listing n codes) x
unfolding put
put_out n x codes codes' h e = rw (le-ltb n 1024 h, e)

-- codes in two parts
pub add_append : (l : Clashes) (xs ys : List ℕ) → add_all l (xs ++ ys) ≡ add_all (add_all l xs) ys
unfolding add_all
add_append l [] ys = refl
add_append l (x ∷ xs) ys = add_append (put l x) xs ys

-- so a list that holds some codes holds one more
put_full : (xs : List ℕ) (x : ℕ) → put (full xs) x ≡ full (xs ++ (x ∷ []))
unfolding full
put_full xs x = go (dec_lt (length xs) 1024)
  where
    n : length (xs ++ (x ∷ [])) ≡ length xs + 1
    n = length-append xs (x ∷ [])

    go : Dec (length xs < 1024) → put (full xs) x ≡ full (xs ++ (x ∷ []))
    go (yes h) =
        sym (put_in (length xs) x (pad 1024 0 (take 1024 xs)) (set (pad 1024 0 (take 1024 xs)) (length xs) x) h refl)
        ∙ rw (take_all 1024 xs (omega arith), pad_put 1024 0 xs (length xs) x refl h, take_all 1024 (xs ++ (x ∷ [])) (omega (arith, n)), n)
    go (no h) =
        sym (put_out (length xs) x (pad 1024 0 (take 1024 xs)) (pad 1024 0 (take 1024 xs)) (omega arith) refl)
        ∙ rw (take-append-le 1024 xs (x ∷ []) (omega arith), n)

-- or any number more
add_full : (xs ys : List ℕ) → add_all (full xs) ys ≡ full (xs ++ ys)
unfolding add_all
add_full xs [] = ap full (sym (append-nil xs))
add_full xs (y ∷ ys) =
    ap (λ (l : Clashes). add_all l ys) (put_full xs y) ∙ add_full (xs ++ (y ∷ [])) ys ∙ ap full (append_assoc xs (y ∷ []) ys)

-- from the empty list
pub add_empty : (ys : List ℕ) → add_all (listing 0 (replicate 1024 0)) ys ≡ full ys
unfolding full pad
add_empty ys = add_full [] ys
