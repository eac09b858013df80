-- Frames one after the other, as a loop reads them: k of n are read from the start of the reading up to a place, and what is still to be
-- read from there, put behind them, is what the whole reading gives.
use Prim.Native.Nat.{ℕ, suc, ◌+◌, ◌-◌, ◌≤◌, ◌<◌}
use mathlib.Core.Path.{◌≡◌, refl, ap, sym, ◌∙◌}
use mathlib.Core.List.{List, [], ◌∷◌, ◌++◌, append_assoc, append-nil}
use native.Mathlib.Omega.{arith}
use lib.ListN.{length, set, drop, replicate, length-append}
use Rattle.model.specs.Common.{pad, Outcome, refuse, accept, ◌>>=◌}
use Rattle.model.specs.Open.{read_one, read_all}
use Rattle.model.proofs.OutcomeLaws.{accepts_bind}
use Rattle.model.proofs.SeqLaws.{pad_put}
use Rattle.frame_read.proofs.Tests.{refuses_bind}
use Rattle.frame_read.proofs.Pad.{pad_nil}

module _ {A : Type 0} where
  -- what is read from a place, put behind what has been read
  unfoldable pub behind : List A → Outcome (List A × List ℕ) → Outcome (List A × List ℕ)
  behind xs (refuse k) = refuse k
  behind xs (accept p) = accept (xs ++ p.0, p.1)

  -- one item before what is read
  unfoldable before : A → Outcome (List A × List ℕ) → Outcome (List A × List ℕ)
  before x (refuse k) = refuse k
  before x (accept p) = accept (x ∷ p.0, p.1)

  -- behind nothing
  behind_nil : (o : Outcome (List A × List ℕ)) → behind [] o ≡ o
  unfolding behind
  behind_nil (refuse k) = refl
  behind_nil (accept p) = refl

  -- an item read is an item before the others
  behind_before : (xs : List A) (x : A) (o : Outcome (List A × List ℕ)) → behind (xs ++ (x ∷ [])) o ≡ behind xs (before x o)
  unfolding behind before
  behind_before xs x (refuse k) = refl
  behind_before xs x (accept p) = ap (λ (l : List A). accept (l, p.1)) (append_assoc xs (x ∷ []) p.0)

  -- one frame, and then the others
  all_more : (frame : List ℕ → Outcome A) (k : ℕ) (file rest : List ℕ) (x : A) → read_one frame file ≡ accept (x, rest) → read_all frame (suc k) file ≡ before x (read_all frame k rest)
  unfolding read_all before ◌>>=◌
  all_more frame k file rest x e = accepts_bind _ e ∙ go (read_all frame k rest)
    where
      go : (o : Outcome (List A × List ℕ)) → (o >>= (λ p. accept (x ∷ p.0, p.1))) ≡ before x o
      go (refuse k) = refl
      go (accept p) = refl

module _ {A : Type 0} (frame : List ℕ → Outcome A) (places : ℕ) (blank : A) (file : List ℕ) (n start : ℕ) where
  -- k frames are read up to a place, and fill the array
  pub record Reading (at k : ℕ) (array : List A) : Type 0 where
    pub items : List A
    pub size : length items ≡ k
    pub filled : array ≡ pad places blank items
    pub same : behind items (read_all frame (n - k) (drop at file)) ≡ read_all frame n (drop start file)

  -- nothing is read yet
  pub reading_start : (array : List A) → array ≡ replicate places blank → Reading start 0 array
  reading_start array e =
      let z : n - 0 ≡ n = omega arith in
      record {
        items = [];
        size = refl;
        filled = e ∙ pad_nil places blank;
        same = ap (λ (j : ℕ). behind [] (read_all frame j (drop start file))) z ∙ behind_nil (read_all frame n (drop start file));
      }

  -- one frame more
  pub reading_more : {at k : ℕ} {array : List A} (next : ℕ) (x : A) → Reading at k array → k < n → n ≤ places → read_one frame (drop at file) ≡ accept (x, drop next file) → Reading next (k + 1) (set array k x)
  reading_more {at} {k} {array} next x r l m e =
      let j : n - k ≡ suc (n - (k + 1)) = omega arith in
      let todo = read_all frame (n - (k + 1)) (drop next file) in
      record {
        items = r.items ++ (x ∷ []);
        size = omega (arith, length-append r.items (x ∷ []), r.size);
        filled = ap (λ (s : List A). set s k x) r.filled ∙ pad_put places blank r.items k x r.size (omega arith);
        same =
            behind_before r.items x todo
            ∙ sym (ap (behind r.items) (ap (λ (i : ℕ). read_all frame i (drop at file)) j ∙ all_more frame (n - (k + 1)) (drop at file) (drop next file) x e))
            ∙ r.same;
      }

  -- a frame that is refused ends the reading
  pub reading_refused : {at k : ℕ} {array : List A} (number : ℕ) → Reading at k array → k < n → read_one frame (drop at file) ≡ refuse number → read_all frame n (drop start file) ≡ refuse number
  unfolding read_all behind
  reading_refused {at} {k} number r l e =
      let j : n - k ≡ suc (n - (k + 1)) = omega arith in
      sym r.same ∙ ap (behind r.items) (ap (λ (i : ℕ). read_all frame i (drop at file)) j ∙ refuses_bind _ e)

  -- all are read
  pub reading_whole : {at k : ℕ} {array : List A} (r : Reading at k array) → n ≤ k → read_all frame n (drop start file) ≡ accept (r.items, drop at file)
  unfolding read_all behind
  reading_whole {at} {k} r l =
      let j : n - k ≡ 0 = omega arith in
      sym r.same ∙ ap (λ (i : ℕ). behind r.items (read_all frame i (drop at file))) j
      ∙ ap (λ (s : List A). accept (s, drop at file)) (append-nil r.items)

  -- the answer for a reading that ends by a refusal
  pub stopped : {B : Type 0} (told : Outcome (List A × List ℕ) → B) {at k : ℕ} {array : List A} (number : ℕ) (r : B) → Reading at k array → k < n → read_one frame (drop at file) ≡ refuse number → r ≡ told (refuse number) → r ≡ told (read_all frame n (drop start file))
  stopped told number r s l e t = t ∙ ap told (sym (reading_refused number s l e))
