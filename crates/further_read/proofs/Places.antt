-- Lines of a kind whose numbers rise, as the loop reads them: the places that it fills are those of lines of a kind (Kind), so that what is still to be
-- read from a place, after the places so far, is what the whole reading gives.
use Prim.Native.Nat.{ℕ, zero, suc, ◌+◌, ◌≤◌, ◌<◌}
use mathlib.Core.Path.{◌≡◌, refl, ap, sym, ◌∙◌}
use mathlib.Core.Bool.{Bool, true, false}
use mathlib.Core.Option.{some}
use mathlib.Core.List.{List, [], ◌∷◌, ◌++◌}
use native.Mathlib.Numerals.{add-one}
use native.Mathlib.Omega.{arith}
use lib.ListN.{length, drop, set}
use lib.Dec.{eqb}
use borrow.Author.Tests.{eq-eqb, ne_eqb}
use Rattle.std.specs.Prelude.{Some, None}
use Rattle.std.specs.List.{fold}
use Rattle.std.proofs.lemmas.List.Sums.{fold-append}
use Rattle.model.specs.Common.{Outcome, refuse, accept, ◌>>=◌, given}
use Rattle.model.specs.Line.{read_line, at as byte_of}
use Rattle.model.specs.Open.{read_kind}
use Rattle.lines.specs.Read.{line_at}
use Rattle.lines.proofs.Framed.{Framed, line_frame, line_broken}
use Rattle.frame_read.proofs.FileRest.{place_drop}
use Rattle.further_read.specs.Kind.{places, places_told}
use Rattle.further_read.proofs.Kind.{Kind, kind_start, kind_over, kind_broken, kind_other, kind_refused, kind_more}

-- ---- lines of any kind, read into places

-- an answer is told as it is
told_so : {X : Type 0} (o : Outcome X) → o ≡ (o >>= λ x. accept x)
unfolding ◌>>=◌
told_so (refuse k) = refl
told_so (accept x) = refl

module _ {A P : Type 0} (array_of : List A → List P) where
  -- the places of what is read
  abbrev pub filled : Outcome (List A × List ℕ) → Outcome (List P × List ℕ)
  filled o = o >>= λ (lines, rest). accept (array_of lines, rest)

  -- a step, told otherwise, and what follows it
  by_step : {X Y : Type 0} (o : Outcome X) (told : X → Y) {t : Outcome Y} (g : Y → Outcome (List P × List ℕ)) (h : X → Outcome (List A × List ℕ)) → t ≡ (o >>= λ x. accept (told x))
      → ((x : X) → o ≡ accept x → g (told x) ≡ filled (h x)) → (t >>= g) ≡ filled (o >>= h)
  unfolding ◌>>=◌
  by_step (refuse k) told g h e w = rw e
  by_step (accept x) told g h e w = rw e (w x refl)

  -- the test of the kind
  by_test : (t : Bool) (a c : Outcome (List P × List ℕ)) (b d : Outcome (List A × List ℕ)) → a ≡ filled b → c ≡ filled d
      → ◌≡◌ {A = Outcome (List P × List ℕ)} (elim t [ true ↦ a | false ↦ c ]) (filled (elim t [ true ↦ b | false ↦ d ]))
  by_test true a c b d p q = p
  by_test false a c b d p q = q

  -- lines that are told as a number and a place each; Low is what the lowest number that is left says of the lines before
  module _
      (kind : ℕ) (frame : List A → List ℕ → Outcome A) (one : ℕ → List ℕ → Outcome (ℕ × P)) (told : A → ℕ × P) (Low : ℕ → List A → Type 0)
      (same : (low : ℕ) (before : List A) (f : List ℕ) → Low low before → one low f ≡ (frame before f >>= λ x. accept (told x)))
      (more : (low : ℕ) (before : List A) (f : List ℕ) (x : A) → Low low before → frame before f ≡ accept x
      → Low (suc (told x).0) (before ++ (x ∷ [])) × (set (array_of before) (told x).0 (told x).1 ≡ array_of (before ++ (x ∷ []))))
    where
      pub places_filled : (k low : ℕ) (before : List A) (file : List ℕ) → Low low before → places kind one k low (array_of before) file ≡ filled (read_kind kind frame k before file)
      unfolding places read_kind ◌>>=◌
      places_filled zero low before file l = refl
      places_filled (suc k) low before [] l = refl
      places_filled (suc k) low before (c ∷ cs) l =
          by_step (given 1 (read_line (c ∷ cs))) (λ p. p) _ _ (told_so _) (λ (f, rest) e.
          by_test (eqb (byte_of f 0) kind) _ _ _ _
          (by_step (frame before f) told _ _ (same low before f l) (λ x is.
          let m = more low before f x l is in
          ap (λ (a : List P). places kind one k (suc (told x).0) a rest) m.1 ∙ places_filled k (suc (told x).0) (before ++ (x ∷ [])) rest m.0))
          refl)

-- ---- the loop

-- the lowest number that is left and the places, after some lines
abbrev after : {P : Type 0} → ℕ × List P → List (ℕ × P) → ℕ × List P
after s lines = fold (λ s x. (suc x.0, set s.1 x.0 x.1)) s lines

module _ {P : Type 0} (kind : ℕ) (one : ℕ → List ℕ → Outcome (ℕ × P)) where
  -- a frame after some lines
  abbrev one_after : ℕ × List P → List (ℕ × P) → List ℕ → Outcome (ℕ × P)
  one_after s lines f = one (after s lines).0 f

  -- the places that are still to be filled after some lines are those of the lines that are still to be read by such frames
  places_lines : (s : ℕ × List P) (lines : List (ℕ × P)) (k : ℕ) (file : List ℕ)
      → places kind one k (after s lines).0 (after s lines).1 file ≡ filled (λ lines. (after s lines).1) (read_kind kind (one_after s) k lines file)
  places_lines s lines k file =
      places_filled (λ lines. (after s lines).1) kind (one_after s) one (λ x. x) (λ low lines. low ≡ (after s lines).0)
      (λ low lines f e. rw e (told_so _))
      (λ low lines f x e is. rw fold-append (refl, refl))
      k _ lines file refl

  -- the lines so far, what all of them are read as, and the lowest number and the places after those so far
  pub record Reading (file : List ℕ) (whole : Outcome (List P × List ℕ)) (at low : ℕ) (array : List P) : Type 0 where
    pub start : ℕ × List P
    pub lines : List (ℕ × P)
    pub read : Outcome (List (ℕ × P) × List ℕ)
    pub kind_so : Kind kind (one_after start) file read at lines
    pub same : whole ≡ filled (λ lines. (after start lines).1) read
    pub state : (low, array) ≡ after start lines

  -- nothing is read yet
  pub reading_start : (file : List ℕ) (at low : ℕ) (array : List P) → Reading file (places kind one (length (drop at file)) low array (drop at file)) at low array
  reading_start file at low array =
      record { start = (low, array); lines = []; read = _; kind_so = kind_start kind (one_after (low, array)) file at; same = places_lines (low, array) [] (length (drop at file)) (drop at file); state = refl }

  module _ {file : List ℕ} {whole : Outcome (List P × List ℕ)} {at low : ℕ} {array : List P} (r : Reading file whole at low array) where
    -- the answer for a reading that ends by a refusal, or at a place
    ended : {k : ℕ} → r.read ≡ refuse k → refuse k ≡ places_told file whole
    unfolding places_told ◌>>=◌
    ended e = rw (r.same, e)

    all_read : at ≤ length file → r.read ≡ accept (r.lines, drop at file) → accept (array, at) ≡ places_told file whole
    unfolding places_told ◌>>=◌
    all_read l e = rw (r.same, e, ← r.state, place_drop file at l)

    -- the file ends
    pub reading_over : at ≤ length file → length file ≤ at → accept (array, at) ≡ places_told file whole
    reading_over l h = all_read l (kind_over _ _ r.kind_so h)

    module _ (more : at < length file) where
      -- no line
      pub reading_broken : None ≡ line_at file at → refuse 1 ≡ places_told file whole
      reading_broken b = ended (kind_broken _ _ r.kind_so more (line_broken None file at b refl))

      module _ {end : ℕ} (framed : Some end ≡ line_at file at) {f : List ℕ} (is : read_line (drop at file) ≡ some (f, drop (end + 1) file)) {k : ℕ} (first : k ≡ byte_of f 0) where
        g : Framed file at end
        g = line_frame (Some end) file at end framed refl

        bytes_are : g.bytes ≡ f
        bytes_are =
            let e = sym g.is ∙ is in
            let v : ◌≡◌ {A = List ℕ × List ℕ} (g.bytes, g.rest) (f, drop (end + 1) file) = cc in
            ap (λ (p : List ℕ × List ℕ). p.0) v

        -- a line of another kind
        pub reading_other : (k ≡ kind → ⊥) → accept (array, at) ≡ places_told file whole
        reading_other h = all_read (omega arith) (kind_other _ _ r.kind_so more g (rw (bytes_are, ← first) (ne_eqb _ _ h)))

        module _ (right : k ≡ kind) where
          right_byte : eqb (byte_of g.bytes 0) kind ≡ true
          right_byte = rw (bytes_are, ← first) (eq-eqb _ _ right)

          -- a line that is refused
          pub reading_refused : {j : ℕ} → refuse j ≡ one low f → refuse j ≡ places_told file whole
          reading_refused e = ended (kind_refused _ _ r.kind_so more g right_byte _ (rw (bytes_are, ← r.state) (sym e)))

          -- a line more
          pub reading_more : {i j : ℕ} {p : P} → accept (i, p) ≡ one low f → j ≡ i → Reading file whole (end + 1) (i + 1) (set array j p)
          reading_more {i} {j} {p} e same =
              record {
                start = r.start;
                lines = r.lines ++ ((i, p) ∷ []);
                read = r.read;
                kind_so = kind_more _ _ r.kind_so more g right_byte (i, p) (rw (bytes_are, ← r.state) (sym e));
                same = r.same;
                state = rw (add-one, same, fold-append, ← r.state);
              }
