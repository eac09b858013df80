-- Starts held to pairs, as unmet holds them: starts that meet a code of a pair have its bit, so a pair without that bit has no code that is met.
use Prim.Native.Nat.{ℕ, ◌+◌, ◌-◌, ◌/◌, ◌%◌, ◌^◌, ◌≤◌, ◌<◌}
use mathlib.Core.Path.{◌≡◌, refl, ◌∙◌}
use mathlib.Core.Logic.{◌≢◌}
use mathlib.Core.Bool.{false}
use mathlib.Core.List.{List}
use native.Mathlib.Omega.{arith}
use native.Mathlib.Decide.{ℕ_discrete, dec_lt}
use lib.ListN.{get_or}
use borrow.Author.Tests.{eqb-true, lt-ltb, le-ltb}
use Rattle.model.specs.Search.{met}
use Rattle.model.proofs.BoolLaws.{decide}
use Rattle.clashes.specs.Code.{clash_of}
use Rattle.clashes.specs.First.{Unmet}
use Rattle.clashes.proofs.FirstLaws.{code_met, unmet_none}
use Rattle.pairs.specs.declared.pairs.Pairs.{Pairs}
use Rattle.pairs.specs.Pairs.{bit_of, In, Paired, NoneMet}

-- the bit that is asked is one of 64
pub bit_small : (at later earlier : ℕ) → at ≡ bit_of later earlier → at < 64
bit_small at later earlier e = go (dec_lt 63 (later - earlier))
  where
    go : Dec (63 < later - earlier) → at < 64
    go (yes h) = rw (e, lt-ltb 63 (later - earlier) h) (omega arith)
    go (no h) = rw (e, le-ltb 63 (later - earlier) (omega arith)) (omega arith)

-- starts that meet a code of pair q have its bit: x is the pair, t and u are the starts of j and i, and at is the bit asked
pub not_in : (codes : List ℕ) (p : Pairs) (ts : List ℕ) (c q x t u at : ℕ) → x ≡ get_or p.pair q 0 → t ≡ get_or ts (x % 32) 0 → u ≡ get_or ts (x / 32) 0 → at ≡ bit_of (t + 23) u
    → get_or p.held q 0 / 2 ^ at % 2 ≢ 1 → In codes p c q → met ts (clash_of (get_or codes c 0)) ≡ false
not_in codes p ts c q x t u at ex et eu ea ne i = decide (met ts (clash_of (get_or codes c 0))) λ m.
    let y = get_or codes c 0 in
    let j : y / 64 % 32 ≡ x % 32 = rw (i.same, ex) refl in
    let l : y / 2048 ≡ x / 32 = omega (arith, i.same) in
    let s : t + 22 ≡ u + y % 64 = eqb-true (t + 22) (u + y % 64) (code_met ts y y t u refl (rw j et) (rw l eu) ∙ m) in
    let d : t + 23 - u ≡ y % 64 + 1 = omega arith in
    let a : at ≡ y % 64 + 1 = ea ∙ rw (d, le-ltb 63 (y % 64 + 1) (omega (arith, i.near))) in
    ne (rw a i.has)

-- the starts meet no code of the pairs before q, and none of the first low
pub record Passed (codes : List ℕ) (p : Pairs) (ts : List ℕ) (q low n : ℕ) : Type 0 where
  pub none : Unmet codes ts low
  pub within : low ≤ n
  pub clear : (c r : ℕ) → r < q → In codes p c r → met ts (clash_of (get_or codes c 0)) ≡ false

-- whatever codes these are the pairs of
abbrev pub Passing : Pairs → List ℕ → ℕ → ℕ → Type 0
Passing p ts q low = (codes : List ℕ) (n : ℕ) → Paired codes p n → Passed codes p ts q low n

module _ (p : Pairs) (ts : List ℕ) where
  -- no pair yet
  pub passed_none : Passing p ts 0 0
  passed_none codes n w =
      record { none = unmet_none codes ts; within = omega arith; clear = λ c r h. absurd (omega arith) }

  -- one pair more, which has not the bit of its starts
  pub passed_more : (q low x t u at low' : ℕ) → Passing p ts q low → q < p.count → x ≡ get_or p.pair q 0 → t ≡ get_or ts (x % 32) 0 → u ≡ get_or ts (x / 32) 0
      → at ≡ bit_of (t + 23) u → get_or p.held q 0 / 2 ^ at % 2 ≢ 1 → low' ≡ get_or p.end q 0 → Passing p ts (q + 1) low'
  passed_more q low x t u at low' g h ex et eu ea ne el codes n w =
      record {
        none = record { each = λ c m. let i = w.each q c h (omega arith) in clear c i.0 (omega (arith, i.1.0)) i.1.1 (ℕ_discrete i.0 q) };
        within = omega (arith, w.within q h);
        clear = λ c r m i. clear c r m i (ℕ_discrete r q);
      }
    where
      clear : (c r : ℕ) → r < q + 1 → In codes p c r → Dec (r ≡ q) → met ts (clash_of (get_or codes c 0)) ≡ false
      clear c r m i (yes e) = not_in codes p ts c q x t u at ex et eu ea ne (rw e at i)
      clear c r m i (no e) = (g codes n w).clear c r (omega arith) i

  -- what is passed is met by no start
  pub passed_end : (q low : ℕ) → Passing p ts q low → NoneMet p ts low
  passed_end q low g codes n w = ((g codes n w).none, (g codes n w).within)
