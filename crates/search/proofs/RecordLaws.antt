-- A sound record and the arrays that a run works on: the path's turns as numbers stand for the record's place, and the record can be put
-- together again from its place.
use Prim.Native.Nat.{ℕ, ◌+◌, ◌-◌, ◌*◌, ◌/◌, ◌%◌, ◌≤◌, ◌<◌}
use mathlib.Core.Path.{◌≡◌, refl, ap, ap₂, sym, ◌∙◌}
use mathlib.Core.Bool.{Bool, true, false, not, ◌&&◌}
use mathlib.Core.List.{List, [], ◌∷◌, ◌++◌, map, Memᴰ}
use native.Mathlib.Omega.{arith}
use lib.ListN.{length, get_or, drop, replicate, length-append}
use lib.Seq.{ext_get_or}
use lib.Dec.{eqb, leb}
use borrow.Author.Tests.{eqb-true}
use Rattle.model.specs.declared.Turn.{Turn}
use Rattle.model.specs.declared.Search.{Search}
use Rattle.model.specs.Common.{all, pad}
use Rattle.model.specs.Clash.{clashes}
use Rattle.model.specs.Search.{empty, is_turn, turns_of, place_of, search_of}
use Rattle.model.specs.Sound.{sound_turns, sound_path, sound_best, sound_batch, sound}
use Rattle.model.specs.Limits.{most_total, most_clashes}
use Rattle.model.proofs.BoolLaws.{apart, both}
use Rattle.model.proofs.ListLaws.{all_each}
use Rattle.model.proofs.SeqLaws.{listed_at, listed_length, get_d_in, up_to_drop}
use Rattle.model.proofs.NodeLaws.{Named}
use Rattle.model.proofs.GoodLaws.{GoodTurns, good_named, good_length}
use Rattle.model.proofs.SoundLaws.{record_passes, fits, sound_at, place_sound}
use Rattle.node.specs.Walk.{turn_of, turns_in, Path, place_at}

-- ---- the path of a sound record is its turns and then empty places

not_turn : (t : Turn) → not (is_turn t) ≡ true → t ≡ empty
unfolding is_turn empty
not_turn t e = go (eqb t.clash 65535) refl (eqb t.side 0) refl e
  where
    go : (p : Bool) → eqb t.clash 65535 ≡ p → (q : Bool) → eqb t.side 0 ≡ q → not (not (p && q)) ≡ true → t ≡ record { clash = 65535; side = 0 }
    go true h true g e = ap₂ (λ (x y : ℕ). record { clash = x; side = y }) (eqb-true t.clash 65535 h) (eqb-true t.side 0 g)
    go true h false g e = apart e
    go false h q g e = apart e

all_empty : (ts : List Turn) → all (λ t. not (is_turn t)) ts ≡ true → ts ≡ replicate (length ts) empty
all_empty [] e = refl
all_empty (t ∷ ts) e =
    ap₂ (λ (x : Turn) (l : List Turn). x ∷ l) (not_turn t (all_each (λ t. not (is_turn t)) (t ∷ ts) e (Memᴰ.head refl))) (all_empty ts (rest e))
  where
    rest : all (λ t. not (is_turn t)) (t ∷ ts) ≡ true → all (λ t. not (is_turn t)) ts ≡ true
    rest e = Rattle.model.proofs.ListLaws.each_all (λ t. not (is_turn t)) ts (λ u m. all_each (λ t. not (is_turn t)) (t ∷ ts) e (Memᴰ.tail m))

rest_empty_lem : (s : Search) → sound s ≡ true → all (λ t. not (is_turn t)) (drop (length (turns_of s.path)) s.path) ≡ true
unfolding sound sound_path
rest_empty_lem s e =
    let f = (both _ (sound_best s.batch.n s.best s.starts) e).0 in
    let g = (both _ (leb s.total most_total) f).0 in
    let h = (both (sound_batch s.batch) (sound_path s) g).1 in
    (both (sound_turns (length (clashes s.batch)) (turns_of s.path)) _ (both _ _ h).0).1

path_back : (s : Search) → sound s ≡ true → length s.path ≡ 1024 → pad most_clashes empty (turns_of s.path) ≡ s.path
unfolding pad turns_of
path_back s e l =
    let r = drop (length (turns_of s.path)) s.path in
    let k = all_empty r (rest_empty_lem s e) in
    let w = up_to_drop is_turn s.path in
    let n : length r ≡ 1024 - length (turns_of s.path) = omega (arith, l, ap length w, length-append (turns_of s.path) r) in
    ap (λ (m : ℕ). turns_of s.path ++ replicate m empty) (sym n) ∙ ap (λ (x : List Turn). turns_of s.path ++ x) (sym k) ∙ w

-- the record put together from its place is the record
pub record_back : (s : Search) → sound s ≡ true → length s.path ≡ 1024 → search_of s.batch s.total (place_of s) ≡ s
unfolding search_of place_of
record_back s e l =
    ap (λ (p : List Turn). record { batch = s.batch; path = p; best = s.best; starts = s.starts; total = s.total; ended = s.ended }) (path_back s e l)

-- ---- the turns as numbers

turn_back : (t : Turn) → t.side ≤ 1 → turn_of (2 * t.clash + t.side) ≡ t
unfolding turn_of
turn_back t h =
    let a : (2 * t.clash + t.side) / 2 ≡ t.clash = omega arith in
    let b : (2 * t.clash + t.side) % 2 ≡ t.side = omega arith in
    ap₂ (λ (x y : ℕ). record { clash = x; side = y }) a b

module _ (s : Search) (e : sound s ≡ true) (turns : List ℕ) (depth : ℕ) (all : depth ≡ length (turns_of s.path)) (each : (k : ℕ) → k < depth → get_or turns k 0 ≡ 2 * (get_or (turns_of s.path) k empty).clash + (get_or (turns_of s.path) k empty).side) where
  abbrev ts : List Turn
  ts = turns_of s.path

  good : GoodTurns s.batch ts
  unfolding place_of
  good = (sound_at s.batch (record_passes s e) s refl e).0.good.turns

  at : (k : ℕ) → k < depth → Memᴰ (get_or ts k empty) ts
  at k h = get_d_in ts k empty (omega arith)

  pub turns_held : turns_in turns depth ≡ ts
  unfolding turns_in
  turns_held =
      ext_get_or empty (map (λ k. turn_of (get_or turns k 0)) (Rattle.model.specs.Common.count 0 depth)) ts (listed_length (λ k. turn_of (get_or turns k 0)) depth ∙ all)
      (λ k h.
      let p : k < depth = omega (arith, listed_length (λ k. turn_of (get_or turns k 0)) depth) in
      listed_at (λ k. turn_of (get_or turns k 0)) empty depth k p ∙ ap turn_of (each k p) ∙ turn_back (get_or ts k empty) (good.sides (get_or ts k empty) (at k p)))

  pub path_held : length turns ≡ 1024 → Path turns depth
  unfolding Named
  path_held l =
      record {
        full = l;
        deep = omega (arith, good_length s.batch ts good, (fits s.batch (record_passes s e)).few);
        small = λ k h. omega (arith, each k h, good_named s.batch ts good (get_or ts k empty) (at k h), good.sides (get_or ts k empty) (at k h), (fits s.batch (record_passes s e)).few);
      }

  -- the place of the arrays is the record's
  pub place_held : place_at turns (record { depth = depth; best = s.best; starts = s.starts; ended = s.ended }) ≡ place_of s
  unfolding place_at place_of
  place_held = ap (λ (l : List Turn). record { turns = l; incumbent = record { best = s.best; starts = s.starts }; ended = s.ended }) turns_held

-- a sound record's place is sound with any total within its limit
pub place_is_sound : (s : Search) → sound s ≡ true → sound (search_of s.batch 0 (place_of s)) ≡ true
place_is_sound s e =
    let p = record_passes s e in
    place_sound s.batch p 0 (place_of s) (omega arith) (sound_at s.batch p s refl e).0.good
