-- Frames one after the other, both ways. A framing says that a frame and what it stands for are read and written to each other; then
-- so are a line, and lines one after the other, each with the rest of the file.
use Prim.Native.Nat.{ℕ, zero, suc}
use mathlib.Core.Path.{◌≡◌, refl, ap, ◌∙◌, subst}
use mathlib.Core.Option.{some}
use mathlib.Core.List.{List, [], ◌∷◌, ◌++◌, map, append_assoc, Memᴰ}
use native.Mathlib.Omega.{arith}
use lib.ListN.{length}
use Rattle.model.specs.Common.{joined, is_empty, Outcome, accept, ◌>>=◌, require, given}
use Rattle.model.specs.Line.{read_line, digits_of, line}
use Rattle.model.specs.Open.{due, read_one, read_all}
use Rattle.model.proofs.ListLaws.{each_nil, each_cons, each_head, each_tail}
use Rattle.model.proofs.OutcomeLaws.{accept_eq, bind_accepts, accepts_bind, require_accepts, given_accepts}
use Rattle.model.proofs.LineLaws.{Bytes, read_back, line_read}

-- a frame of this kind, the bytes that follow its first, what is kept of a value that is written and read, and the values in limits
pub record Framing {A : Type 0} (frame : List ℕ → Outcome A) (kind : ℕ) (body : A → List ℕ) (kept : A → A) (Ok : A → Type 0) : Type 0 where
  pub back : (f : List ℕ) (x : A) → Bytes f → frame f ≡ accept x → (kind ∷ body x ≡ f) × Ok x
  pub forth : (x : A) → Ok x → Bytes (kind ∷ body x) × (frame (kind ∷ body x) ≡ accept (kept x))

-- ---- the line where a frame is due

-- where a frame is due, what is accepted is a line
pub due_line : (file : List ℕ) (p : List ℕ × List ℕ) → due file ≡ accept p → read_line file ≡ some p
unfolding due
due_line file p e = given_accepts 1 (read_line file) p (require_accepts 7 _ _ p e).1

-- a line that was written is accepted there
pub line_due : (b : ℕ) (bs rest : List ℕ) → Bytes (b ∷ bs) → due (line (b ∷ bs) ++ rest) ≡ accept (b ∷ bs, rest)
unfolding due line digits_of joined is_empty require ◌>>=◌ given
line_due b bs rest h = ap (given 1) (line_read b bs rest h)

-- the line of a value
abbrev pub text : {A : Type 0} → ℕ → (A → List ℕ) → A → List ℕ
text kind body x = line (kind ∷ body x)

-- k lines in a row, each as its value is written and in limits, and then the rest of the file
abbrev pub Lines : {A : Type 0} → ℕ → (A → List ℕ) → (A → Type 0) → ℕ → List ℕ → List A × List ℕ → Type 0
Lines {A} kind body Ok k file p = (length p.0 ≡ k) × (joined (text kind body) p.0 ++ p.1 ≡ file) × ((x : A) → Memᴰ x p.0 → Ok x)

module _ {A : Type 0} (frame : List ℕ → Outcome A) (kind : ℕ) (body : A → List ℕ) (kept : A → A) (Ok : A → Type 0) (F : Framing frame kind body kept Ok) where
  -- a frame that was read is the one that is written
  pub one_back : (file : List ℕ) (x : A) (rest : List ℕ) → read_one frame file ≡ accept (x, rest) → (text kind body x ++ rest ≡ file) × Ok x
  unfolding read_one
  one_back file x rest e =
      let r = bind_accepts (due file) _ (x, rest) e in
      let s = bind_accepts (frame r.0.0) _ (x, rest) r.2 in
      let z : ◌≡◌ {A = A × List ℕ} (s.0, r.0.1) (x, rest) = accept_eq s.2 in
      let l = read_back file r.0.0 r.0.1 (due_line file r.0 r.1) in
      let k = F.back r.0.0 s.0 l.1 s.1 in
      subst (λ (p : A × List ℕ). (text kind body p.0 ++ p.1 ≡ file) × Ok p.0) z (ap (λ (f : List ℕ). line f ++ r.0.1) k.0 ∙ l.0, k.1)

  -- a frame that was written is read
  pub one_forth : (x : A) (rest : List ℕ) → Ok x → read_one frame (text kind body x ++ rest) ≡ accept (kept x, rest)
  unfolding read_one
  one_forth x rest h =
      let k = F.forth x h in
      accepts_bind _ (line_due kind (body x) rest k.0) ∙ accepts_bind _ k.1

  -- as many lines as were asked for, each as its frame is written
  pub all_back : (k : ℕ) (file : List ℕ) (xs : List A) (end : List ℕ) → read_all frame k file ≡ accept (xs, end) → Lines kind body Ok k file (xs, end)
  unfolding read_all joined
  all_back zero file xs end e =
      let z : ◌≡◌ {A = List A × List ℕ} ([], file) (xs, end) = accept_eq e in
      subst (Lines kind body Ok 0 file) z (refl, refl, each_nil Ok)
  all_back (suc k) file xs end e =
      let r = bind_accepts (read_one frame file) _ (xs, end) e in
      let s = bind_accepts (read_all frame k r.0.1) _ (xs, end) r.2 in
      let z : ◌≡◌ {A = List A × List ℕ} (r.0.0 ∷ s.0.0, s.0.1) (xs, end) = accept_eq s.2 in
      let o = one_back file r.0.0 r.0.1 r.1 in
      let g = all_back k r.0.1 s.0.0 s.0.1 s.1 in
      subst (Lines kind body Ok (suc k) file) z (
        ap suc g.0,
        append_assoc (text kind body r.0.0) (joined (text kind body) s.0.0) s.0.1 ∙ ap (λ (l : List ℕ). text kind body r.0.0 ++ l) g.1 ∙ o.0,
        each_cons Ok o.1 g.2,
      )

  -- lines that were written are read
  pub all_forth : (k : ℕ) (xs : List A) (end : List ℕ) → length xs ≡ k → ((x : A) → Memᴰ x xs → Ok x) → read_all frame k (joined (text kind body) xs ++ end) ≡ accept (map kept xs, end)
  unfolding read_all joined
  all_forth zero [] end e h = refl
  all_forth zero (x ∷ xs) end e h = absurd (omega arith)
  all_forth (suc k) [] end e h = absurd (omega arith)
  all_forth (suc k) (x ∷ xs) end e h =
      ap (read_all frame (suc k)) (append_assoc (text kind body x) (joined (text kind body) xs) end)
      ∙ accepts_bind _ (one_forth x (joined (text kind body) xs ++ end) (each_head Ok h))
      ∙ accepts_bind _ (all_forth k xs end (omega arith) (each_tail Ok h))
