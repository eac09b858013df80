-- A path read from its front: what is known after k places, what one more place adds, and what the turns are where the reading stops.
use Prim.Native.Nat.{ℕ, suc, ◌+◌, ◌≤◌, ◌<◌}
use mathlib.Core.Path.{◌≡◌, refl, ap, sym, ◌∙◌}
use mathlib.Core.Bool.{Bool, true, false, not}
use mathlib.Core.List.{List, [], ◌∷◌, ◌++◌, append-nil}
use native.Mathlib.Numerals.{add-one}
use native.Mathlib.Decide.{ℕ_discrete}
use native.Mathlib.Omega.{arith}
use lib.ListN.{length, get_or, take, drop, set, replicate, length-set, length-replicate}
use lib.Seq.{append_snoc, take-suc, drop-cons, drop-length, get_or-take, get_or-set_same, get_or-set_other, length-take-le}
use borrow.Author.Tests.{not-true, not-false}
use Rattle.model.specs.declared.Turn.{Turn}
use Rattle.model.specs.Common.{up_to}
use Rattle.model.specs.Search.{empty, is_turn, turns_of}
use Rattle.model.specs.Sound.{sound_turns}
use Rattle.model.proofs.BoolLaws.{and}
use Rattle.model.proofs.SeqLaws.{get_d_same}
use Rattle.soundness.specs.Path.{turn_code, turn_new, Routed}
use Rattle.soundness.proofs.TurnLaws.{sound_none, sound_snoc, sound_spoilt}
use Rattle.soundness.proofs.MarkLaws.{Marked, new_clash, new_follows, none_marked, one_marked}

-- the first k places are turns and sound; the marks are on their clashes, and they stand as numbers
pub record Read (path : List Turn) (D : ℕ) (turns : List ℕ) (marks : List Bool) (k : ℕ) : Type 0 where
  pub long : length path ≡ 1024
  pub turns_long : length turns ≡ 1024
  pub marks_long : length marks ≡ 1024
  pub whole : turns_of path ≡ take k path ++ turns_of (drop k path)
  pub sound : sound_turns D (take k path) ≡ true
  pub marked : Marked marks (take k path)
  pub coded : (i : ℕ) → i < k → get_or turns i 0 ≡ turn_code (get_or path i empty)

pub read_none : (path : List Turn) (D : ℕ) → length path ≡ 1024 → Read path D (replicate 1024 0) (replicate 1024 false) 0
read_none path D l =
    record {
      long = l;
      turns_long = length-replicate {A = ℕ} 1024 0;
      marks_long = length-replicate 1024 false;
      whole = refl;
      sound = sound_none D;
      marked = none_marked;
      coded = λ i h. absurd (omega arith);
    }

module _ (path : List Turn) (D : ℕ) (turns : List ℕ) (marks : List Bool) (k : ℕ) (few : D ≤ 1024) (r : Read path D turns marks k) where
  -- nothing is left
  none_left : turns_of (drop k path) ≡ [] → turns_of path ≡ take k path
  none_left e = r.whole ∙ ap (λ (l : List Turn). take k path ++ l) e ∙ append-nil (take k path)

  -- where the reading stops, the turns are those that are read
  stopped : (n : ℕ) → n ≡ k → k ≤ 1024 → turns_of (drop k path) ≡ [] → Routed path D (record { depth = n; turns = turns })
  stopped n q h e =
      let w = none_left e in
      record {
        sound = ap (sound_turns D) w ∙ r.sound;
        short = omega arith;
        coded =
            record {
              whole = q ∙ sym (ap length w ∙ length-take-le k path (omega (arith, r.long)));
              each = λ i g. let g' : i < k = omega (arith, g, q) in r.coded i g' ∙ ap turn_code (sym (get_or-take k path i empty g') ∙ ap (λ (l : List Turn). get_or l i empty) (sym w));
            };
      }

  -- at the end of the path
  pub read_end_lem : k ≤ 1024 → 1024 ≤ k → Routed path D (record { depth = 1024; turns = turns })
  unfolding turns_of up_to
  read_end_lem h g =
      let e : k ≡ length path = omega (arith, r.long) in
      stopped 1024 (omega arith) h (ap (λ (j : ℕ). turns_of (drop j path)) e ∙ ap turns_of (drop-length path))

  module _ (d t : Turn) (here : k < 1024) (at : t ≡ get_or path k d) where
    next_left : drop k path ≡ t ∷ drop (suc k) path
    next_left = drop-cons path k d (omega (arith, r.long)) ∙ ap (λ (u : Turn). u ∷ drop (suc k) path) (sym at)

    -- at an empty place
    pub read_empty : (x : Bool) → x ≡ not (is_turn t) → x ≡ true → Routed path D (record { depth = k; turns = turns })
    unfolding turns_of up_to
    read_empty x p q =
        stopped k refl (omega arith) (ap turns_of next_left ∙ rw (not-true (is_turn t) (sym p ∙ q), up_to))

    -- at a turn
    turn_left : is_turn t ≡ true → turns_of (drop k path) ≡ t ∷ turns_of (drop (suc k) path)
    unfolding turns_of up_to
    turn_left e = ap turns_of next_left ∙ rw (e, up_to)

    -- at a turn that may not follow
    pub read_bad : (x y : Bool) → x ≡ not (is_turn t) → x ≡ false → y ≡ turn_new D marks t → y ≡ false → sound_turns D (turns_of path) ≡ false
    read_bad x y p q u v =
        ap (sound_turns D) (r.whole ∙ ap (λ (l : List Turn). take k path ++ l) (turn_left (not-false (is_turn t) (sym p ∙ q))))
        ∙ sound_spoilt D (take k path) (turns_of (drop (suc k) path)) t (sym (new_follows D marks (take k path) t few r.marked) ∙ sym u ∙ v)

    -- at a turn that may follow
    pub read_more : (x y : Bool) (c z : ℕ) → x ≡ not (is_turn t) → x ≡ false → y ≡ turn_new D marks t → y ≡ true → c ≡ t.clash → z ≡ turn_code t
        → Read path D (set turns k z) (set marks c true) (k + 1)
    read_more x y c z p q u v e f =
        record {
          long = r.long;
          turns_long = length-set turns k z ∙ r.turns_long;
          marks_long = length-set marks c true ∙ r.marks_long;
          whole =
              r.whole
              ∙ ap (λ (l : List Turn). take k path ++ l) (turn_left (not-false (is_turn t) (sym p ∙ q)))
              ∙ sym (append_snoc (take k path) t (turns_of (drop (suc k) path)))
              ∙ ap (λ (l : List Turn). l ++ turns_of (drop (suc k) path)) (sym more)
              ∙ ap (λ (j : ℕ). take (k + 1) path ++ turns_of (drop j path)) (sym (add-one k));
          sound = ap (sound_turns D) more ∙ sound_snoc D (take k path) t ∙ and r.sound (sym (new_follows D marks (take k path) t few r.marked) ∙ new);
          marked = rw (e, more) (one_marked marks (take k path) t r.marks_long (omega (arith, new_clash D marks t new)) r.marked);
          coded = λ i g. code i g (ℕ_discrete i k);
        }
      where
        new : turn_new D marks t ≡ true
        new = sym u ∙ v

        more : take (k + 1) path ≡ take k path ++ (t ∷ [])
        more =
            ap (λ (j : ℕ). take j path) (add-one k)
            ∙ take-suc path k d (omega (arith, r.long))
            ∙ ap (λ (a : Turn). take k path ++ (a ∷ [])) (sym at)

        code : (i : ℕ) → i < k + 1 → Dec (i ≡ k) → get_or (set turns k z) i 0 ≡ turn_code (get_or path i empty)
        code i g (yes h) =
            rw h
            (get_or-set_same turns k z 0 (omega (arith, r.turns_long)) ∙ f ∙ ap turn_code (at ∙ get_d_same path k d empty (omega (arith, r.long))))
        code i g (no h) = get_or-set_other turns k i z 0 h ∙ r.coded i (omega arith)
