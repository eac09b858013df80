-- Further lines of one kind, both ways: they are read exactly where each is written as its frame is and keeps its limits after those before it.
use Prim.Native.Nat.{ℕ, zero, suc, ◌≤◌, ◌<◌}
use mathlib.Core.Path.{◌≡◌, refl, ap, sym, ◌∙◌, subst}
use mathlib.Core.Logic.{◌⊎◌, inl, inr}
use mathlib.Core.Bool.{Bool, true, false}
use mathlib.Core.List.{List, [], ◌∷◌, ◌++◌, append-nil, append_assoc, Memᴰ}
use native.Mathlib.Omega.{arith}
use lib.ListN.{length, length-append}
use lib.Dec.{eqb}
use borrow.Author.Tests.{eq-eqb, ne_eqb}
use Rattle.model.specs.Common.{joined, Outcome, accept, ◌>>=◌, given}
use Rattle.model.specs.Line.{read_line, at, digits_of, line}
use Rattle.model.specs.Open.{read_kind}
use Rattle.model.proofs.ListLaws.{each_nil, each_cons}
use Rattle.model.proofs.OutcomeLaws.{accept_eq, bind_accepts, accepts_bind, given_accepts}
use Rattle.model.proofs.LineLaws.{Bytes, read_back, line_read}
use Rattle.model.proofs.ReadLaws.{Framing, text}

module _ {A : Type 0} (Ok : List A → A → Type 0) where
  -- each in limits after those before it
  abbrev pub Each : List A → List A → Type 0
  Each before [] = Unit {0}
  Each before (x ∷ xs) = Ok before x × Each (before ++ (x ∷ [])) xs

  -- what its limits say of a line, whatever those before it, holds of each
  pub each_of : (Q : A → Type 0) → ((before : List A) (x : A) → Ok before x → Q x) → (before xs : List A) → Each before xs → (x : A) → Memᴰ x xs → Q x
  each_of Q q before [] e = each_nil Q
  each_of Q q before (x ∷ xs) e = each_cons Q (q before x e.0) (each_of Q q (before ++ (x ∷ [])) xs e.1)

-- what follows the lines of this kind: nothing, or a line of a kind above it
abbrev pub Later : ℕ → List ℕ → Type 0
Later kind file = (file ≡ []) ⊎ ((b : ℕ) × (bs : List ℕ) × (rest : List ℕ) × (kind < b) × Bytes (b ∷ bs) × (file ≡ line (b ∷ bs) ++ rest))

module _ {A : Type 0} (frame : List A → List ℕ → Outcome A) (kind : ℕ) (body : A → List ℕ) (Ok : List A → A → Type 0) (F : (before : List A) → Framing (frame before) kind body (λ x. x) (Ok before)) where
  -- what was read: more lines of the kind, as they are written, and the rest of the file
  pub record Kinds (before : List A) (file : List ℕ) (p : List A × List ℕ) : Type 0 where
    pub more : List A
    pub is : p.0 ≡ before ++ more
    pub written : joined (text kind body) more ++ p.1 ≡ file
    pub each : Each Ok before more

  nothing : (before : List A) (file : List ℕ) (p : List A × List ℕ) → accept (before, file) ≡ accept p → Kinds before file p
  unfolding joined
  nothing before file p e =
      let z : ◌≡◌ {A = List A × List ℕ} (before, file) p = accept_eq e in
      subst (Kinds before file) z (record { more = []; is = sym (append-nil before); written = refl; each = tt })

  pub kind_back : (k : ℕ) (before : List A) (file : List ℕ) (p : List A × List ℕ) → read_kind kind frame k before file ≡ accept p → Kinds before file p
  unfolding read_kind joined
  kind_back zero before file p e = nothing before file p e
  kind_back (suc k) before [] p e = nothing before [] p e
  kind_back (suc k) before (c ∷ cs) p e =
      let r = bind_accepts (given 1 (read_line (c ∷ cs))) _ p e in
      let l = read_back (c ∷ cs) r.0.0 r.0.1 (given_accepts 1 (read_line (c ∷ cs)) r.0 r.1) in
      go r.0.0 r.0.1 l (eqb (at r.0.0 0) kind) r.2 (kind_back k)
    where
      go : (f rest : List ℕ) → (line f ++ rest ≡ c ∷ cs) × Bytes f → (t : Bool)
          → ◌≡◌ {A = Outcome (List A × List ℕ)} (elim t [ true ↦ (frame before f >>= λ x. read_kind kind frame k (before ++ (x ∷ [])) rest) | false ↦ accept (before, c ∷ cs) ]) (accept p)
          → ((before : List A) (file : List ℕ) (p : List A × List ℕ) → read_kind kind frame k before file ≡ accept p → Kinds before file p) → Kinds before (c ∷ cs) p
      go f rest l false e rec = nothing before (c ∷ cs) p e
      go f rest l true e rec =
          let s = bind_accepts (frame before f) _ p e in
          let x = s.0 in
          let b = (F before).back f x l.1 s.1 in
          let g = rec (before ++ (x ∷ [])) rest p s.2 in
          record {
            more = x ∷ g.more;
            is = g.is ∙ append_assoc before (x ∷ []) g.more;
            written = append_assoc (text kind body x) (joined (text kind body) g.more) p.1 ∙ ap (λ (l : List ℕ). text kind body x ++ l) g.written ∙ ap (λ (f : List ℕ). line f ++ rest) b.0 ∙ l.0;
            each = (b.1, g.each);
          }

  -- one line that was written is read, whatever follows
  one_more : (k : ℕ) (before : List A) (x : A) (rest : List ℕ) → Ok before x → read_kind kind frame (suc k) before (text kind body x ++ rest) ≡ read_kind kind frame k (before ++ (x ∷ [])) rest
  unfolding read_kind line digits_of joined given ◌>>=◌ at
  one_more k before x rest h =
      let f = (F before).forth x h in
      accepts_bind _ (ap (given 1) (line_read kind (body x) rest f.0)) ∙ rw (eq-eqb kind kind refl, f.1)

  text_long : (x : A) (rest : List ℕ) → suc (length rest) ≤ length (text kind body x ++ rest)
  unfolding line
  text_long x rest = omega (arith, length-append (text kind body x) rest, length-append (digits_of (kind ∷ body x)) (10 ∷ []))

  -- at what follows them reading this kind stops
  kind_stops : (k : ℕ) (before : List A) (file : List ℕ) → Later kind file → read_kind kind frame k before file ≡ accept (before, file)
  unfolding read_kind line digits_of joined given ◌>>=◌ at
  kind_stops zero before file later = refl
  kind_stops (suc k) before file (inl e) = rw e
  kind_stops (suc k) before file (inr (b, bs, rest, above, small, e)) =
      rw e (accepts_bind _ (ap (given 1) (line_read b bs rest small)) ∙ rw (ne_eqb b kind (λ z. omega arith)))

  -- lines of this kind, if there are any, follow those of a kind below
  pub later_lines : (lower : ℕ) → lower < kind → (before xs : List A) (rest : List ℕ) → Each Ok before xs → Later kind rest → Later lower (joined (text kind body) xs ++ rest)
  unfolding joined
  later_lines lower h before (x ∷ xs) rest each later =
      inr (kind, body x, joined (text kind body) xs ++ rest, h, ((F before).forth x each.0).0, append_assoc (text kind body x) (joined (text kind body) xs) rest)
  later_lines lower h before [] rest each (inl e) = inl e
  later_lines lower h before [] rest each (inr (b, bs, more, above, small, e)) = inr (b, bs, more, omega arith, small, e)

  -- lines that were written are read, up to what follows them
  pub kind_forth : (k : ℕ) (before more : List A) (rest : List ℕ) → length (joined (text kind body) more ++ rest) ≤ k → Each Ok before more → Later kind rest → read_kind kind frame k before (joined (text kind body) more ++ rest) ≡ accept (before ++ more, rest)
  unfolding joined
  kind_forth k before [] rest h each later = kind_stops k before rest later ∙ ap (λ (l : List A). accept (l, rest)) (sym (append-nil before))
  kind_forth zero before (x ∷ more) rest h each later =
      absurd (omega (arith, text_long x (joined (text kind body) more ++ rest), ap length (append_assoc (text kind body x) (joined (text kind body) more) rest)))
  kind_forth (suc k) before (x ∷ more) rest h each later =
      let tail = joined (text kind body) more ++ rest in
      let split = append_assoc (text kind body x) (joined (text kind body) more) rest in
      ap (read_kind kind frame (suc k) before) split ∙ one_more k before x tail each.0
      ∙ kind_forth k (before ++ (x ∷ [])) more rest (omega (arith, text_long x tail, ap length split)) each.1 later
      ∙ ap (λ (l : List A). accept (l, rest)) (append_assoc before (x ∷ []) more)
