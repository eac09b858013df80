-- The codes by pairs, as find_pairs reads them: each code adds its bit to the last pair, or begins a pair.
use Prim.Native.Nat.{ℕ, suc, ◌+◌, ◌-◌, ◌*◌, ◌/◌, ◌%◌, ◌^◌, ◌≤◌, ◌<◌}
use mathlib.Core.Path.{◌≡◌, refl, sym}
use mathlib.Core.Logic.{◌≢◌}
use mathlib.Core.List.{List}
use native.Mathlib.Numerals.{add-one}
use native.Mathlib.Nat.{pow-succ', div_self}
use native.Mathlib.Omega.{arith}
use native.Mathlib.Decide.{ℕ_discrete, dec_lt}
use lib.ListN.{get_or, set, replicate, length-set, length-replicate}
use lib.Seq.{get_or-set_same, get_or-set_other}
use lib.Bits.{bit_or, or_step, or_shr}
use lib.Pow.{pow_pos, shl_exact}
use Rattle.clashes.specs.First.{Named}
use Rattle.pairs.specs.declared.pairs.Pairs.{Pairs}
use Rattle.pairs.specs.Pairs.{Room, In, OfJobs}

-- ---- bits

-- a bit of either number is a bit of their or
or_left : (a b s : ℕ) → a / 2 ^ s % 2 ≡ 1 → bit_or a b / 2 ^ s % 2 ≡ 1
or_left a b s h = rw (or_shr a b s) (omega (arith, or_step (a / 2 ^ s) (b / 2 ^ s)))

or_right : (a b s : ℕ) → b / 2 ^ s % 2 ≡ 1 → bit_or a b / 2 ^ s % 2 ≡ 1
or_right a b s h = rw (or_shr a b s) (omega (arith, or_step (a / 2 ^ s) (b / 2 ^ s)))

-- the bit of a distance, as the code sets it
bit_set : (d : ℕ) → d < 45 → 2 * 2 ^ d % 2 ^ 64 / 2 ^ (d + 1) % 2 ≡ 1
bit_set d h =
    let e : 2 * 2 ^ d % 2 ^ 64 ≡ 2 * 2 ^ d = shl_exact 2 d 64 (omega arith) (omega arith) in
    rw (e, add-one, ← pow-succ' 2 d, div_self (pow_pos (suc d)))

-- ---- the pairs of the first k codes, while they are read

-- new arrays have room
pub room_new : (n : ℕ) → Room (record { pair = replicate 276 0; held = replicate 276 0; end = replicate 276 0; count = n })
room_new n = let e = length-replicate {A = ℕ} 276 0 in record { of_pair = e; of_held = e; of_end = e }

-- the k codes so far are those before the last pair's end
pub record Pairing (codes : List ℕ) (p : Pairs) (k : ℕ) : Type 0 where
  pub room : Room p
  pub of_jobs : OfJobs p
  pub within : (q : ℕ) → q < p.count → get_or p.end q 0 ≤ k
  pub each : (q c : ℕ) → q < p.count → c < get_or p.end q 0 → (r : ℕ) × ((r ≤ q) × In codes p c r)
  pub none : p.count ≡ 0 → k ≡ 0
  pub end_last : 0 < p.count → get_or p.end (p.count - 1) 0 ≡ k

-- no pair yet
pub pairing_none : (codes : List ℕ) (p : Pairs) → Room p → Pairing codes (record p { count = 0 }) 0
pairing_none codes p r =
    record {
      room = record { of_pair = r.of_pair; of_held = r.of_held; of_end = r.of_end };
      of_jobs = record { few = omega arith; first = λ q h. absurd (omega arith); second = λ q h. absurd (omega arith) };
      within = λ q h. absurd (omega arith);
      each = λ q c h g. absurd (omega arith);
      none = λ e. refl;
      end_last = λ h. absurd (omega arith);
    }

-- code k is of the last pair, which has its place: its bit is not set yet, and it is not counted
pub record Opened (codes : List ℕ) (p : Pairs) (k : ℕ) : Type 0 where
  pub room : Room p
  pub of_jobs : OfJobs p
  pub some : 0 < p.count
  pub of_last : get_or codes k 0 / 64 ≡ get_or p.pair (p.count - 1) 0
  pub within : (q : ℕ) → q < p.count - 1 → get_or p.end q 0 ≤ k
  pub each : (q c : ℕ) → q < p.count - 1 → c < get_or p.end q 0 → (r : ℕ) × ((r ≤ q) × In codes p c r)
  pub before : (c : ℕ) → c < k → (r : ℕ) × ((r ≤ p.count - 1) × In codes p c r)

module _ (codes : List ℕ) (p : Pairs) (k : ℕ) (g : Pairing codes p k) where
  -- it is of the last pair already
  pub open_same : {p' : Pairs} → 0 < p.count → get_or p.pair (p.count - 1) 0 ≡ get_or codes k 0 / 64 → p' ≡ p → Opened codes p' k
  open_same h e n =
      rw n
      (record {
        room = g.room;
        of_jobs = g.of_jobs;
        some = h;
        of_last = sym e;
        within = λ q lt. g.within q (omega arith);
        each = λ q c lt. g.each q c (omega arith);
        before = λ c lt. g.each (p.count - 1) c (omega arith) (omega (arith, g.end_last h));
      })

  -- the arrays with the pair of code k in the next place, which has no bit
  abbrev more : Pairs
  more = record p { pair = set p.pair p.count (get_or codes k 0 / 64); held = set p.held p.count 0; count = p.count + 1 }

  -- it is of a pair of its own
  pub open_new : {p' : Pairs} → Named (get_or codes k 0) → p.count ≢ 276 → p' ≡ more → Opened codes p' k
  open_new j ne n =
      rw n
      (let e : p.count + 1 - 1 ≡ p.count = omega arith in
      record {
        room = record { of_pair = simp length-set g.room.of_pair; of_held = simp length-set g.room.of_held; of_end = g.room.of_end };
        of_jobs = record { few = omega (arith, g.of_jobs.few); first = λ q h. (jobs q h).0; second = λ q h. (jobs q h).1 };
        some = omega arith;
        of_last = rw e (sym new);
        within = λ q lt. g.within q (omega arith);
        each = λ q c lt m. older q (omega arith) c (g.each q c (omega arith) m);
        before = λ c lt. rw e (earlier c lt (dec_lt 0 p.count));
      })
    where
      new : get_or more.pair p.count 0 ≡ get_or codes k 0 / 64
      new = get_or-set_same p.pair p.count (get_or codes k 0 / 64) 0 (omega (arith, g.room.of_pair, g.of_jobs.few))

      old : (q : ℕ) → q < p.count → get_or more.pair q 0 ≡ get_or p.pair q 0
      old q h = get_or-set_other p.pair p.count q (get_or codes k 0 / 64) 0 (omega arith)

      jobs : (q : ℕ) → q < p.count + 1 → (get_or more.pair q 0 / 32 < 24) × (get_or more.pair q 0 % 32 < 24)
      jobs q h = side (ℕ_discrete q p.count)
        where
          side : Dec (q ≡ p.count) → (get_or more.pair q 0 / 32 < 24) × (get_or more.pair q 0 % 32 < 24)
          side (yes e) = rw (e, new) (omega (arith, j.first), j.second)
          side (no e) = rw (old q (omega arith)) (g.of_jobs.first q (omega arith), g.of_jobs.second q (omega arith))

      older : (q : ℕ) → q < p.count → (c : ℕ) → (r : ℕ) × ((r ≤ q) × In codes p c r) → (r : ℕ) × ((r ≤ q) × In codes more c r)
      older q h c (r, (le, i)) =
          (r, (le, record { same = rw (old r (omega arith)) i.same; near = i.near; has = rw (get_or-set_other p.held p.count r 0 0 (omega arith)) i.has }))

      earlier : (c : ℕ) → c < k → Dec (0 < p.count) → (r : ℕ) × ((r ≤ p.count) × In codes more c r)
      earlier c lt (no h) = absurd (let z = g.none (omega arith) in omega arith)
      earlier c lt (yes h) =
          let o = older (p.count - 1) (omega arith) c (g.each (p.count - 1) c (omega arith) (omega (arith, g.end_last h))) in
          (o.0, (omega (arith, o.1.0), o.1.1))

-- its bit is set, and it is counted
module _ (codes : List ℕ) (p : Pairs) (k z : ℕ) where
  abbrev at : ℕ
  at = p.count - 1

  abbrev bits : ℕ
  bits = bit_or (get_or p.held at 0) z

  abbrev counted : Pairs
  counted = record p { held = set p.held at bits; end = set p.end at (k + 1) }

  pub stored : Opened codes p k → get_or codes k 0 % 64 < 45 → z ≡ 2 * 2 ^ (get_or codes k 0 % 64) % 2 ^ 64 → Pairing codes counted (k + 1)
  stored o near e =
      record {
        room =
            record {
              of_pair = o.room.of_pair;
              of_held = simp length-set o.room.of_held;
              of_end = simp length-set o.room.of_end;
            };
        of_jobs = record { few = o.of_jobs.few; first = o.of_jobs.first; second = o.of_jobs.second };
        within = λ q h. within q h (ℕ_discrete q at);
        each = λ q c h m. each q c h m (ℕ_discrete q at);
        none = λ n. absurd (omega (arith, o.some));
        end_last = λ h. last_end;
      }
    where
      last_bits : get_or counted.held at 0 ≡ bits
      last_bits = get_or-set_same p.held at bits 0 (omega (arith, o.room.of_held, o.of_jobs.few, o.some))

      last_end : get_or counted.end at 0 ≡ k + 1
      last_end = get_or-set_same p.end at (k + 1) 0 (omega (arith, o.room.of_end, o.of_jobs.few, o.some))

      within : (q : ℕ) → q < p.count → Dec (q ≡ at) → get_or counted.end q 0 ≤ k + 1
      within q h (yes e) = rw (e, last_end) (omega arith)
      within q h (no ne) = rw (get_or-set_other p.end at q (k + 1) 0 ne) (omega (arith, o.within q (omega arith)))

      this : In codes counted k at
      this =
          record {
            same = o.of_last;
            near = near;
            has = rw last_bits (or_right (get_or p.held at 0) z (get_or codes k 0 % 64 + 1) (rw e (bit_set (get_or codes k 0 % 64) near)));
          }

      -- the bits of the other pairs stay, and the last pair's grow
      kept : (q c : ℕ) → (r : ℕ) × ((r ≤ q) × In codes p c r) → (r : ℕ) × ((r ≤ q) × In codes counted c r)
      kept q c (r, (le, i)) = (r, (le, record { same = i.same; near = i.near; has = side (ℕ_discrete r at) }))
        where
          side : Dec (r ≡ at) → get_or counted.held r 0 / 2 ^ (get_or codes c 0 % 64 + 1) % 2 ≡ 1
          side (no ne) = rw (get_or-set_other p.held at r bits 0 ne) i.has
          side (yes e) = rw (e, last_bits) (or_left (get_or p.held at 0) z (get_or codes c 0 % 64 + 1) (rw e at i.has))

      up_to : (c : ℕ) → Dec (c ≡ k) → c < k + 1 → (r : ℕ) × ((r ≤ at) × In codes counted c r)
      up_to c (yes e) h = (at, (omega arith, rw e this))
      up_to c (no ne) h = kept at c (o.before c (omega arith))

      each : (q c : ℕ) → q < p.count → c < get_or counted.end q 0 → Dec (q ≡ at) → (r : ℕ) × ((r ≤ q) × In codes counted c r)
      each q c h m (yes e) = rw e (up_to c (ℕ_discrete c k) (rw (e, last_end) at m))
      each q c h m (no ne) = kept q c (o.each q c (omega arith) (rw (get_or-set_other p.end at q (k + 1) 0 ne) at m))
