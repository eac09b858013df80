-- Further lines of one kind, as a loop reads them: what is still to be read from a place, after the lines so far, is what the whole reading gives.
use Prim.Native.Nat.{ℕ, zero, suc, ◌+◌, ◌≤◌, ◌<◌}
use mathlib.Core.Path.{◌≡◌, refl, ap, sym, ◌∙◌}
use mathlib.Core.Bool.{true, false}
use mathlib.Core.Option.{none}
use mathlib.Core.List.{List, [], ◌∷◌, ◌++◌}
use native.Mathlib.Omega.{arith}
use lib.ListN.{length, drop, length-drop, drop_of_length-le}
use lib.Dec.{eqb}
use Rattle.model.specs.Common.{Outcome, refuse, accept, ◌>>=◌, given}
use Rattle.model.specs.Line.{read_line, at as byte_of}
use Rattle.model.specs.Open.{read_kind}
use Rattle.model.proofs.OutcomeLaws.{accepts_bind}
use Rattle.lines.proofs.Framed.{Framed}

module _ {A : Type 0} (kind : ℕ) (frame : List A → List ℕ → Outcome A) where
  -- the lines so far, and enough turns for what is left
  pub record Kind (file : List ℕ) (whole : Outcome (List A × List ℕ)) (at : ℕ) (items : List A) : Type 0 where
    pub turns : ℕ
    pub enough : length (drop at file) ≤ turns
    pub same : read_kind kind frame turns items (drop at file) ≡ whole

  -- nothing is read yet
  pub kind_start : (file : List ℕ) (at : ℕ) → Kind file (read_kind kind frame (length (drop at file)) [] (drop at file)) at []
  kind_start file at = record { turns = length (drop at file); enough = omega arith; same = refl }

  -- one step of the definition, by what is left: nothing, no line, a line of another kind, a line that is refused, one that is accepted
  step_nothing : (k : ℕ) (items : List A) → read_kind kind frame k items [] ≡ accept (items, [])
  unfolding read_kind
  step_nothing zero items = refl
  step_nothing (suc k) items = refl

  module _ (k : ℕ) (items : List A) where
    step_broken : (rest : List ℕ) → 0 < length rest → read_line rest ≡ none → read_kind kind frame (suc k) items rest ≡ refuse 1
    unfolding read_kind given ◌>>=◌
    step_broken [] l e = absurd (omega arith)
    step_broken (c ∷ cs) l e = rw e

    module _ (f after : List ℕ) where
      step_other : (rest : List ℕ) → 0 < length rest → given 1 (read_line rest) ≡ accept (f, after) → eqb (byte_of f 0) kind ≡ false
          → read_kind kind frame (suc k) items rest ≡ accept (items, rest)
      unfolding read_kind
      step_other [] l e t = absurd (omega arith)
      step_other (c ∷ cs) l e t = accepts_bind _ e ∙ rw t

      step_line : (rest : List ℕ) → 0 < length rest → given 1 (read_line rest) ≡ accept (f, after) → eqb (byte_of f 0) kind ≡ true
          → read_kind kind frame (suc k) items rest ≡ (frame items f >>= λ x. read_kind kind frame k (items ++ (x ∷ [])) after)
      unfolding read_kind
      step_line [] l e t = absurd (omega arith)
      step_line (c ∷ cs) l e t = accepts_bind _ e ∙ rw t

  module _ {file : List ℕ} {whole : Outcome (List A × List ℕ)} {at : ℕ} {items : List A} (r : Kind file whole at items) where
    -- the file ends
    pub kind_over : length file ≤ at → whole ≡ accept (items, drop at file)
    kind_over l =
        let e = drop_of_length-le file l in
        sym r.same ∙ ap (read_kind kind frame r.turns items) e ∙ step_nothing r.turns items ∙ ap (λ (s : List ℕ). accept (items, s)) (sym e)

    module _ (more : at < length file) where
      some_left : 0 < length (drop at file)
      some_left = omega (arith, length-drop at file)

      -- one turn is there
      turn : (k : ℕ) × (r.turns ≡ suc k)
      turn = go r.turns r.enough
        where
          go : (t : ℕ) → length (drop at file) ≤ t → (k : ℕ) × (t ≡ suc k)
          go zero h = absurd (omega (arith, some_left))
          go (suc k) h = (k, refl)

      by_turn : {o : Outcome (List A × List ℕ)} → read_kind kind frame (suc turn.0) items (drop at file) ≡ o → whole ≡ o
      by_turn e = sym r.same ∙ ap (λ (t : ℕ). read_kind kind frame t items (drop at file)) turn.1 ∙ e

      -- no line
      pub kind_broken : read_line (drop at file) ≡ none → whole ≡ refuse 1
      kind_broken e = by_turn (step_broken turn.0 items (drop at file) some_left e)

      module _ {end : ℕ} (f : Framed file at end) where
        is_line : given 1 (read_line (drop at file)) ≡ accept (f.bytes, f.rest)
        unfolding given
        is_line = ap (given 1) f.is

        -- a line of another kind
        pub kind_other : eqb (byte_of f.bytes 0) kind ≡ false → whole ≡ accept (items, drop at file)
        kind_other t = by_turn (step_other turn.0 items f.bytes f.rest (drop at file) some_left is_line t)

        module _ (right : eqb (byte_of f.bytes 0) kind ≡ true) where
          -- a line that is refused
          pub kind_refused : (k : ℕ) → frame items f.bytes ≡ refuse k → whole ≡ refuse k
          unfolding ◌>>=◌
          kind_refused k e = by_turn (step_line turn.0 items f.bytes f.rest (drop at file) some_left is_line right ∙ rw e)

          -- a line more
          pub kind_more : (x : A) → frame items f.bytes ≡ accept x → Kind file whole (end + 1) (items ++ (x ∷ []))
          unfolding ◌>>=◌
          kind_more x e =
              record {
                turns = turn.0;
                enough = omega (arith, turn.1, r.enough, length-drop at file, length-drop (end + 1) file, f.size, f.inside);
                same = sym (by_turn (step_line turn.0 items f.bytes f.rest (drop at file) some_left is_line right ∙ rw (e, f.after)));
              }
