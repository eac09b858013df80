-- The lines of one kind whose numbers rise, as the code reads them: it keeps the lowest number that is left and the places so far in place of
-- the lines.
use Rattle.std.specs.Prelude.{ℕ, zero, suc, List, [], ◌∷◌, set, eqb, true, false}
use Rattle.model.specs.Common.{Outcome, accept, ◌>>=◌, given}
use Rattle.model.specs.Line.{read_line, at}
use Rattle.frame_read.specs.Answer.{place_of}

module _ {P : Type 0} where
  unfoldable pub places : ℕ → (ℕ → List ℕ → Outcome (ℕ × P)) → ℕ → ℕ → List P → List ℕ → Outcome (List P × List ℕ)
  places kind one zero low array file = accept (array, file)
  places kind one (suc k) low array [] = accept (array, [])
  places kind one (suc k) low array (c ∷ cs) = do
    (f, rest) ← given 1 (read_line (c ∷ cs))
    elim (eqb (at f 0) kind) [ true ↦ (one low f >>= λ (i, p). places kind one k (suc i) (set array i p) rest) | false ↦ accept (array, c ∷ cs) ]

  -- the places and the place behind the lines
  unfoldable pub places_told : List ℕ → Outcome (List P × List ℕ) → Outcome (List P × ℕ)
  places_told file o = o >>= λ (array, rest). accept (array, place_of file rest)

  -- the places beside the place behind the lines, which is what a reading answers
  unfoldable pub beside : List P → Outcome ℕ → Outcome (List P × ℕ)
  beside array o = o >>= λ end. accept (array, end)
