-- What a caller learns from the clash list: the code at each place, that first_met and find_pairs may read it, and that its answer is the model's.
-- The laws take the result r of list_clashes with what its contract says of it.
use Prim.Native.Nat.{ℕ, suc, ◌+◌, ◌-◌, ◌≤◌, ◌<◌}
use mathlib.Core.Path.{◌≡◌, refl, ap, ◌∙◌}
use mathlib.Core.List.{List, [], ◌∷◌, map, Memᴰ}
use native.Mathlib.Nat.{add-zero, zero-add, add-suc, suc-add}
use native.Mathlib.Omega.{arith}
use lib.ListN.{length, get_or, replicate, length-map, get_or-append, get_or-map}
use lib.Seq.{take_all}
use Rattle.model.specs.declared.Batch.{Batch}
use Rattle.model.specs.Common.{count, pad}
use Rattle.model.specs.Plan.{start}
use Rattle.model.specs.Clash.{Clash, clashes}
use Rattle.model.specs.Search.{no_clash, met, first_met}
use Rattle.model.proofs.SeqLaws.{get_d_same, get_d_in}
use Rattle.model.proofs.ClashLaws.{Listed, clash_listed}
use Rattle.clashes.specs.declared.Clashes.{Clashes}
use Rattle.clashes.specs.Code.{code_of, clash_of}
use Rattle.clashes.specs.List.{Tabled, list_of}
use Rattle.clashes.specs.First.{Known, Near, clashes_in, met_of, first_code}
use Rattle.clashes.proofs.CodeLaws.{Ranged, listed_ranged, code_back, code_named, code_near}
use Rattle.clashes.proofs.FirstLaws.{first_agree}

-- ---- the listed clash at a place

module _ (b : Batch) (k : ℕ) (h : k < length (clashes b)) where
  -- it is a clash of two jobs that share a station
  pub listed_at : Listed b (get_or (clashes b) k no_clash)
  listed_at = clash_listed b (get_or (clashes b) k no_clash) (get_d_in (clashes b) k no_clash h)

  -- and in range
  pub ranged_at : Tabled b → Ranged (get_or (clashes b) k no_clash)
  ranged_at t = listed_ranged b t (get_or (clashes b) k no_clash) (get_d_in (clashes b) k no_clash h)

  -- its code stands at its place
  code_at : length (clashes b) ≤ 1024 → get_or (list_of b).codes k 0 ≡ code_of (get_or (clashes b) k no_clash)
  unfolding list_of pad
  code_at few =
      let m : length (map code_of (clashes b)) ≡ length (clashes b) = length-map (clashes b) code_of in
      rw (take_all 1024 (map code_of (clashes b)) (omega arith))
      (get_or-append (map code_of (clashes b)) (replicate (1024 - length (map code_of (clashes b))) 0) 0 k (omega arith)
      ∙ get_d_same (map code_of (clashes b)) k 0 (code_of no_clash) (omega arith) ∙ get_or-map code_of (clashes b) k no_clash)

-- ---- codes that are those of a list of clashes

-- the clashes of codes, from place a on
in_from : (codes : List ℕ) (cs : List Clash) (a : ℕ) → ((k : ℕ) → k < length cs → clash_of (get_or codes (a + k) 0) ≡ get_or cs k no_clash)
    → map (λ k. clash_of (get_or codes k 0)) (count a (length cs)) ≡ cs
unfolding count
in_from codes [] a h = refl
in_from codes (c ∷ cs) a h =
    let e : clash_of (get_or codes a 0) ≡ c = rw add-zero at (h 0 (omega arith)) in
    let r : map (λ k. clash_of (get_or codes k 0)) (count (suc a) (length cs)) ≡ cs = in_from codes cs (suc a) (λ k g. rw (add-suc, ← suc-add) at (h (suc k) (omega arith))) in
    rw (e, r)

module _ (codes : List ℕ) (cs : List Clash) (ranged : (c : Clash) → Memᴰ c cs → Ranged c)
    (coded : (k : ℕ) → k < length cs → get_or codes k 0 ≡ code_of (get_or cs k no_clash)) where
  -- the codes stand for these clashes
  pub codes_in : clashes_in codes (length cs) ≡ cs
  unfolding clashes_in
  codes_in =
      in_from codes cs 0
      (λ k h.
      rw (zero-add, coded k h) (code_back (get_or cs k no_clash) (ranged (get_or cs k no_clash) (get_d_in cs k no_clash h))))

  -- and name jobs
  pub codes_known : Known codes (length cs)
  codes_known = record { each = λ k h. rw (coded k h) (code_named (get_or cs k no_clash) (ranged (get_or cs k no_clash) (get_d_in cs k no_clash h))) }

  -- at distances that find_pairs has bits for
  pub codes_near : Near codes (length cs)
  codes_near = record { each = λ k h. rw (coded k h) (code_near (get_or cs k no_clash) (ranged (get_or cs k no_clash) (get_d_in cs k no_clash h))) }

-- ---- what list_clashes returns

-- the count is D
pub list_count : (b : Batch) (r : Clashes) → r ≡ list_of b → r.count ≡ length (clashes b)
unfolding list_of
list_count b r e = ap (λ (l : Clashes). l.count) e

module _ (b : Batch) (r : Clashes) (e : r ≡ list_of b) (few : length (clashes b) ≤ 1024) where
  -- the code at a place
  pub list_code : (k : ℕ) → k < length (clashes b) → get_or r.codes k 0 ≡ code_of (get_or (clashes b) k no_clash)
  list_code k h = ap (λ (l : Clashes). get_or l.codes k 0) e ∙ code_at b k h few

  -- what first_met and find_pairs require of the count
  pub list_fits : r.count ≤ 1024
  list_fits = rw (list_count b r e) few

  module _ (t : Tabled b) where
    -- the codes stand for the batch's clashes
    pub list_in : clashes_in r.codes r.count ≡ clashes b
    list_in = rw (list_count b r e) (codes_in r.codes (clashes b) (listed_ranged b t) list_code)

    -- what first_met and find_pairs require
    pub list_known : Known r.codes r.count
    list_known = rw (list_count b r e) (codes_known r.codes (clashes b) (listed_ranged b t) list_code)

    -- what find_pairs requires besides
    pub list_near : Near r.codes r.count
    list_near = rw (list_count b r e) (codes_near r.codes (clashes b) (listed_ranged b t) list_code)

    -- first_met's answer is the model's, for starts that agree on the batch's jobs
    pub first_listed : (us ts : List ℕ) → ((i : ℕ) → i < b.n → get_or us i 0 ≡ get_or ts i 0)
        → first_code r.codes r.count us ≡ met_of (first_met (clashes b) ts 0)
    unfolding first_code met start
    first_listed us ts same =
        ap (λ (cs : List Clash). met_of (first_met cs us 0)) list_in
        ∙ ap met_of (first_agree (clashes b) us ts 0 (λ c m. agree c (clash_listed b c m)))
      where
        agree : (c : Clash) → Listed b c → met us c ≡ met ts c
        agree c l = rw (same c.j l.known, same c.i (omega (arith, l.rising, l.known)))
