-- What was read of a file: as many items as were asked for, and the rest of the file from a place of it.
use Prim.Native.Nat.{ℕ, zero, suc, ◌+◌, ◌-◌, ◌*◌, ◌≤◌}
use mathlib.Core.Path.{◌≡◌, refl, ap, sym, ◌∙◌, subst}
use mathlib.Core.Option.{some}
use mathlib.Core.List.{List, [], ◌∷◌}
use native.Mathlib.Omega.{arith}
use lib.ListN.{length, drop, length-drop}
use Rattle.model.specs.Common.{Outcome, accept}
use Rattle.model.specs.Line.{read_line}
use Rattle.model.specs.Open.{due, read_one, read_all}
use Rattle.model.proofs.OutcomeLaws.{accept_eq, bind_accepts, require_accepts, given_accepts}
use Rattle.lines.proofs.Framed.{frame}
use Rattle.frame_read.specs.Answer.{place_of}

-- the place of the rest from a place
pub place_drop : (file : List ℕ) (at : ℕ) → at ≤ length file → place_of file (drop at file) ≡ at
unfolding place_of
place_drop file at l = omega (arith, length-drop at file)

-- a rest of the file starts at a place of it
pub record Rest (file rest : List ℕ) : Type 0 where
  pub inside : place_of file rest ≤ length file
  pub is : rest ≡ drop (place_of file rest) file

pub rest_drop : (file : List ℕ) (at : ℕ) → at ≤ length file → Rest file (drop at file)
unfolding place_of
rest_drop file at l =
    let e : length file - length (drop at file) ≡ at = omega (arith, length-drop at file) in
    record { inside = omega arith; is = ap (λ (p : ℕ). drop p file) (sym e) }

module _ {A : Type 0} (f : List ℕ → Outcome A) (file : List ℕ) where
  -- behind one frame
  pub one_rest : (at : ℕ) (x : A) (rest : List ℕ) → read_one f (drop at file) ≡ accept (x, rest) → Rest file rest
  unfolding read_one due
  one_rest at x rest e =
      let r = bind_accepts (due (drop at file)) _ (x, rest) e in
      let s = bind_accepts (f r.0.0) _ (x, rest) r.2 in
      let z : ◌≡◌ {A = A × List ℕ} (s.0, r.0.1) (x, rest) = accept_eq s.2 in
      let l = given_accepts 1 (read_line (drop at file)) r.0 (require_accepts 7 _ _ r.0 r.1).1 in
      let g = frame file at r.0.0 r.0.1 l in
      let w : some (g.bytes, g.rest) ≡ some r.0 = sym g.is ∙ l in
      let v : ◌≡◌ {A = List ℕ × List ℕ} (g.bytes, g.rest) r.0 = cc in
      let same = sym g.after ∙ ap (λ (p : List ℕ × List ℕ). p.1) v ∙ ap (λ (p : A × List ℕ). p.1) z in
      subst (Rest file) same (rest_drop file (at + 2 * length r.0.0 + 1) (omega (arith, g.inside)))

  -- behind as many as were asked for
  pub all_rest : (k at : ℕ) → at ≤ length file → (xs : List A) (rest : List ℕ) → read_all f k (drop at file) ≡ accept (xs, rest) → (length xs ≡ k) × Rest file rest
  unfolding read_all
  all_rest zero at l xs rest e =
      let z : ◌≡◌ {A = List A × List ℕ} ([], drop at file) (xs, rest) = accept_eq e in
      subst (λ (p : List A × List ℕ). (length p.0 ≡ 0) × Rest file p.1) z (refl, rest_drop file at l)
  all_rest (suc k) at l xs rest e =
      let r = bind_accepts (read_one f (drop at file)) _ (xs, rest) e in
      let s = bind_accepts (read_all f k r.0.1) _ (xs, rest) r.2 in
      let z : ◌≡◌ {A = List A × List ℕ} (r.0.0 ∷ s.0.0, s.0.1) (xs, rest) = accept_eq s.2 in
      let o = one_rest at r.0.0 r.0.1 r.1 in
      let g = all_rest k (place_of file r.0.1) o.inside s.0.0 s.0.1 (sym (ap (read_all f k) o.is) ∙ s.1) in
      subst (λ (p : List A × List ℕ). (length p.0 ≡ suc k) × Rest file p.1) z (ap suc g.0, g.1)
