-- The further lines: what is read of them kind after kind, and the end of the file.
use Prim.Native.Nat.{ℕ, ◌≤◌, ◌<◌}
use mathlib.Core.Path.{◌≡◌, refl, ap, ap₂, sym, ◌∙◌}
use mathlib.Core.Option.{none, some}
use mathlib.Core.List.{List, [], ◌∷◌}
use native.Mathlib.Omega.{arith}
use lib.ListN.{length, drop, length-drop, drop_of_length-le}
use Rattle.model.specs.declared.Window.{Window}
use Rattle.model.specs.Common.{Outcome, refuse, accept, ◌>>=◌, given}
use Rattle.model.specs.Line.{read_line}
use Rattle.model.specs.Window.{windows_of, window}
use Rattle.model.specs.Rest.{rests_of, rest}
use Rattle.model.specs.Open.{read_kind, nothing_left, read_further}
use Rattle.model.proofs.OutcomeLaws.{accept_eq, accepts_bind, bind_accepts}
use Rattle.frame_read.specs.Answer.{place_of}
use Rattle.frame_read.proofs.Tests.{refuses_bind, bind_refuses}
use Rattle.further_read.specs.Windows.{read_windows, windows_told}
use Rattle.further_read.specs.Rests.{read_rests, rests_told}
use Rattle.further_read.specs.Further.{further_told}
use Rattle.further_read.proofs.KindRest.{kind_rest}

-- ---- the lines of one kind, by the answer of the function that reads them

-- the lines that were read, the place behind them, and the array that they fill
pub record Behind {A P : Type 0} (read : Outcome (List A × List ℕ)) (array_of : List A → List P) (file : List ℕ) (place : ℕ) (array : List P) : Type 0 where
  pub lines : List A
  pub is : read ≡ accept (lines, drop place file)
  pub inside : place ≤ length file
  pub filled : array ≡ array_of lines

module _ {A P : Type 0} (kind : ℕ) (frame : List A → List ℕ → Outcome A) (array_of : List A → List P) (file : List ℕ) (at : ℕ) where
  abbrev lines_from : Outcome (List A × List ℕ)
  lines_from = read_kind kind frame (length (drop at file)) [] (drop at file)

  abbrev answer : List A × List ℕ → List P × ℕ
  answer p = (array_of p.0, place_of file p.1)

  behind_at : (array : List P) (place : ℕ) → at ≤ length file → accept (array, place) ≡ (lines_from >>= λ p. accept (answer p)) → Behind lines_from array_of file place array
  behind_at array place l h =
      let g = bind_accepts lines_from (λ p. accept (answer p)) (array, place) (sym h) in
      let z : ◌≡◌ {A = List P × ℕ} (answer g.0) (array, place) = accept_eq g.2 in
      let p : place_of file g.0.1 ≡ place = ap (λ (q : List P × ℕ). q.1) z in
      let s = kind_rest kind frame file (length (drop at file)) [] at l g.0 g.1 in
      record {
        lines = g.0.0;
        is = g.1 ∙ ap (λ (t : List ℕ). accept (g.0.0, t)) (s.is ∙ ap (λ (i : ℕ). drop i file) p);
        inside = omega (arith, s.inside, p);
        filled = sym (ap (λ (q : List P × ℕ). q.0) z);
      }

-- windows
module _ (file : List ℕ) (n at : ℕ) where
  pub windows_refused : (k : ℕ) → refuse k ≡ windows_told file (read_windows n (drop at file)) → read_windows n (drop at file) ≡ refuse k
  unfolding windows_told
  windows_refused k h = bind_refuses (λ p. (windows_of p.0, place_of file p.1)) (sym h)

  pub windows_at : {windows : List Window} {place : ℕ} → at ≤ length file → accept (windows, place) ≡ windows_told file (read_windows n (drop at file)) → Behind (read_windows n (drop at file)) windows_of file place windows
  unfolding windows_told read_windows
  windows_at {windows} {place} = behind_at 0xA3 (window n) windows_of file at windows place

-- rests
module _ (file : List ℕ) (at : ℕ) where
  pub rests_refused : (k : ℕ) → refuse k ≡ rests_told file (read_rests (drop at file)) → read_rests (drop at file) ≡ refuse k
  unfolding rests_told
  rests_refused k h = bind_refuses (λ p. (rests_of p.0, place_of file p.1)) (sym h)

  pub rests_at : {rests : List ℕ} {place : ℕ} → at ≤ length file → accept (rests, place) ≡ rests_told file (read_rests (drop at file)) → Behind (read_rests (drop at file)) rests_of file place rests
  unfolding rests_told read_rests
  rests_at {rests} {place} = behind_at 0xA4 rest rests_of file at rests place

-- ---- the end of the file

pub left_none : (file : List ℕ) (at : ℕ) → length file ≤ at → accept tt ≡ nothing_left (drop at file)
unfolding nothing_left
left_none file at l = ap nothing_left (sym (drop_of_length-le file l))

left_by : (rest : List ℕ) → 0 < length rest → nothing_left rest ≡ (given 1 (read_line rest) >>= λ u. refuse 2)
unfolding nothing_left
left_by [] l = absurd (omega arith)
left_by (c ∷ cs) l = refl

pub left_broken : (file : List ℕ) (at : ℕ) → at < length file → read_line (drop at file) ≡ none → refuse 1 ≡ nothing_left (drop at file)
unfolding given
left_broken file at l e = sym (left_by (drop at file) (omega (arith, length-drop at file)) ∙ refuses_bind _ (ap (given 1) e))

pub left_line : (file : List ℕ) (at : ℕ) (p : List ℕ × List ℕ) → at < length file → read_line (drop at file) ≡ some p → refuse 2 ≡ nothing_left (drop at file)
unfolding given
left_line file at p l e = sym (left_by (drop at file) (omega (arith, length-drop at file)) ∙ accepts_bind _ (ap (given 1) e))

-- ---- kind after kind

module _ (file : List ℕ) (n at : ℕ) where
  -- a window is refused
  pub further_windows : (k : ℕ) → read_windows n (drop at file) ≡ refuse k → refuse k ≡ further_told (read_further n (drop at file))
  unfolding read_further read_windows further_told ◌>>=◌
  further_windows k e = sym (ap further_told (refuses_bind _ e))

  module _ {next : ℕ} {windows : List Window} (w : Behind (read_windows n (drop at file)) windows_of file next windows) where
    -- a rest is refused
    pub further_rests : (k : ℕ) → read_rests (drop next file) ≡ refuse k → refuse k ≡ further_told (read_further n (drop at file))
    unfolding read_further read_windows read_rests further_told ◌>>=◌
    further_rests k e = sym (ap further_told (accepts_bind _ w.is ∙ refuses_bind _ e))

    module _ {end : ℕ} {rests : List ℕ} (v : Behind (read_rests (drop next file)) rests_of file end rests) where
      -- something is left
      pub further_left : (k : ℕ) → nothing_left (drop end file) ≡ refuse k → refuse k ≡ further_told (read_further n (drop at file))
      unfolding read_further read_windows read_rests further_told ◌>>=◌
      further_left k e = sym (ap further_told (accepts_bind _ w.is ∙ accepts_bind _ v.is ∙ refuses_bind _ e))

      -- the lines of every kind
      pub further_read : nothing_left (drop end file) ≡ accept tt → accept (record { windows = windows; rests = rests }) ≡ further_told (read_further n (drop at file))
      unfolding read_further read_windows read_rests further_told ◌>>=◌
      further_read e =
          ap₂ (λ (x : List Window) (y : List ℕ). accept (record { windows = x; rests = y })) w.filled v.filled
          ∙ sym (ap further_told (accepts_bind _ w.is ∙ accepts_bind _ v.is ∙ accepts_bind _ e))
