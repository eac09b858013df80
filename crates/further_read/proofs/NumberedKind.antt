-- Further lines of a kind whose numbers rise: the places that the code fills, one line after the other, are those of the lines that the definition reads.
use Prim.Native.Nat.{ℕ, ◌≤◌, ◌<◌}
use mathlib.Core.Path.{◌≡◌, refl, ap, ◌∙◌}
use mathlib.Core.List.{List, []}
use native.Mathlib.Omega.{arith}
use lib.ListN.{length, drop}
use Rattle.model.specs.Common.{Outcome, refuse, accept, ◌>>=◌}
use Rattle.model.specs.Open.{read_kind}
use Rattle.frame_read.specs.Answer.{place_of}
use Rattle.frame_read.specs.Numbered.{Lowest}
use Rattle.further_read.specs.Kind.{places, places_told}
use Rattle.further_read.proofs.Places.{filled, places_filled}
use Rattle.further_read.proofs.NumberedLaws.{places_of, lowest_none, lowest_more, places_more}

-- such a kind: its lines A with their numbers and the places P that they fill, its frame, and the frame as the code reads it, by the lowest number that is left
pub record Numbers (A P : Type 0) : Type 0 where
  pub kind : ℕ
  pub limit : ℕ
  pub size : ℕ
  pub number : A → ℕ
  pub place : A → P
  pub blank : P
  pub frame : List A → List ℕ → Outcome A
  pub one : ℕ → List ℕ → Outcome (ℕ × P)
  pub room : limit ≤ size
  pub limits : (low : ℕ) (before : List A) (f : List ℕ) (x : A) → Lowest number low before → frame before f ≡ accept x → (number x < limit) × (low ≤ number x)
  pub same : (low : ℕ) (before : List A) (f : List ℕ) → Lowest number low before → one low f ≡ (frame before f >>= λ x. accept (number x, place x))

module _ {A P : Type 0} (K : Numbers A P) where
  -- all places for lines
  abbrev array_of : List A → List P
  array_of xs = places_of K.number K.place K.blank K.size xs

  -- what is read of a file after some lines, as places
  pub fills : (k low : ℕ) (before : List A) (file : List ℕ) → Lowest K.number low before → places K.kind K.one k low (array_of before) file ≡ filled array_of (read_kind K.kind K.frame k before file)
  fills =
      places_filled array_of K.kind K.frame K.one (λ x. (K.number x, K.place x)) (Lowest K.number) K.same (λ low before f x lowest e.
      let l = K.limits low before f x lowest e in
      (lowest_more K.number low before x lowest l.1, places_more K.number K.place K.blank K.size low before x lowest l.1 (omega (arith, l.0, K.room))))

  -- and so does the answer
  pub places_kind : (file : List ℕ) (at : ℕ) → places_told file (places K.kind K.one (length (drop at file)) 0 (array_of []) (drop at file)) ≡ (read_kind K.kind K.frame (length (drop at file)) [] (drop at file) >>= λ (lines, rest). accept (array_of lines, place_of file rest))
  unfolding places_told ◌>>=◌
  places_kind file at = ap (places_told file) (fills (length (drop at file)) 0 [] (drop at file) (lowest_none K.number)) ∙ go (read_kind K.kind K.frame (length (drop at file)) [] (drop at file))
    where
      go : (o : Outcome (List A × List ℕ)) → places_told file (filled array_of o) ≡ (o >>= λ (lines, rest). accept (array_of lines, place_of file rest))
      go (refuse k) = refl
      go (accept p) = refl
