-- What was read of a file's further lines of one kind: the rest of the file starts at a place of it.
use Prim.Native.Nat.{ℕ, zero, suc, ◌+◌, ◌*◌, ◌≤◌}
use mathlib.Core.Path.{◌≡◌, refl, ap, sym, ◌∙◌, subst}
use mathlib.Core.Bool.{Bool, true, false}
use mathlib.Core.Option.{Option, some}
use mathlib.Core.List.{List, [], ◌∷◌, ◌++◌}
use native.Mathlib.Omega.{arith}
use lib.ListN.{length, drop}
use lib.Dec.{eqb}
use Rattle.model.specs.Common.{Outcome, accept, ◌>>=◌, given}
use Rattle.model.specs.Line.{read_line, at as byte_of}
use Rattle.model.specs.Open.{read_kind}
use Rattle.model.proofs.OutcomeLaws.{accept_eq, bind_accepts, given_accepts}
use Rattle.lines.proofs.Framed.{frame}
use Rattle.frame_read.proofs.FileRest.{Rest, rest_drop}

module _ {A : Type 0} (kind : ℕ) (f : List A → List ℕ → Outcome A) (file : List ℕ) where
  -- nothing more of the kind
  here : (before : List A) (at : ℕ) → at ≤ length file → (rest : List ℕ) → drop at file ≡ rest → (p : List A × List ℕ) → accept (before, rest) ≡ accept p → Rest file p.1
  here before at l rest d p e =
      let z : ◌≡◌ {A = List A × List ℕ} (before, rest) p = accept_eq e in
      subst (λ (q : List A × List ℕ). Rest file q.1) z (subst (Rest file) d (rest_drop file at l))

  pub kind_rest : (k : ℕ) (before : List A) (at : ℕ) → at ≤ length file → (p : List A × List ℕ) → read_kind kind f k before (drop at file) ≡ accept p → Rest file p.1
  unfolding read_kind
  kind_rest zero before at l p e = here before at l (drop at file) refl p e
  kind_rest (suc k) before at l p e = go (drop at file) refl e (kind_rest k)
    where
      line : (c : ℕ) (cs bytes rest : List ℕ) → drop at file ≡ c ∷ cs → read_line (c ∷ cs) ≡ some (bytes, rest) → (t : Bool)
          → ◌≡◌ {A = Outcome (List A × List ℕ)} (elim t [ true ↦ (f before bytes >>= λ x. read_kind kind f k (before ++ (x ∷ [])) rest) | false ↦ accept (before, c ∷ cs) ]) (accept p)
          → ((before : List A) (at : ℕ) → at ≤ length file → (p : List A × List ℕ) → read_kind kind f k before (drop at file) ≡ accept p → Rest file p.1) → Rest file p.1
      line c cs bytes rest d r false e rec = here before at l (c ∷ cs) d p e
      line c cs bytes rest d r true e rec =
          let s = bind_accepts (f before bytes) _ p e in
          let g = frame file at bytes rest (ap read_line d ∙ r) in
          let w : ◌≡◌ {A = Option (List ℕ × List ℕ)} (some (g.bytes, g.rest)) (some (bytes, rest)) = sym g.is ∙ ap read_line d ∙ r in
          let v : ◌≡◌ {A = List ℕ × List ℕ} (g.bytes, g.rest) (bytes, rest) = cc in
          rec (before ++ (s.0 ∷ [])) (at + 2 * length bytes + 1) (omega (arith, g.inside)) p (ap (read_kind kind f k (before ++ (s.0 ∷ []))) (sym g.after ∙ ap (λ (q : List ℕ × List ℕ). q.1) v) ∙ s.2)

      go : (rest : List ℕ) → drop at file ≡ rest → read_kind kind f (suc k) before rest ≡ accept p
          → ((before : List A) (at : ℕ) → at ≤ length file → (p : List A × List ℕ) → read_kind kind f k before (drop at file) ≡ accept p → Rest file p.1) → Rest file p.1
      go [] d e rec = here before at l [] d p e
      go (c ∷ cs) d e rec =
          let r = bind_accepts (given 1 (read_line (c ∷ cs))) _ p e in
          line c cs r.0.0 r.0.1 d (given_accepts 1 (read_line (c ∷ cs)) r.0 r.1) (eqb (byte_of r.0.0 0) kind) r.2 rec
