-- The B1 lines of a text, as a loop reads them: what is read so far stands before what is still to be read.
use Rattle.std.specs.Prelude.{if◌then◌else◌, Option, Some, None}
use Prim.Native.Nat.{ℕ, ◌+◌, ◌≤◌, ◌<◌}
use mathlib.Core.Path.{◌≡◌, refl, ap, ap₂, sym, ◌∙◌}
use mathlib.Core.Bool.{Bool, true, ◌&&◌}
use mathlib.Core.List.{List, [], ◌∷◌, ◌++◌, map, append_assoc, append-nil}
use native.Mathlib.Omega.{arith}
use native.Mathlib.Numerals.{add-one}
use native.Mathlib.Decide.{dec_lt}
use lib.ListN.{length, take, drop, set, replicate, length-append, length-map, length-drop, drop_of_length-le}
use lib.Seq.{take_all, take-append-le}
use lib.Dec.{ltb, eqb}
use borrow.Author.Tests.{lt-ltb, le-ltb}
use Rattle.model.specs.Common.{count, pad, Outcome, refuse, accept, ◌>>=◌}
use Rattle.model.specs.Limits.{most_jobs}
use Rattle.model.specs.Starts.{same}
use Rattle.model.specs.Open.{read_one}
use Rattle.model.specs.Judge.{claim_line, read_lines}
use Rattle.model.proofs.BoolLaws.{and_true, and_assoc}
use Rattle.model.proofs.OutcomeLaws.{accepts_bind}
use Rattle.model.proofs.ListLaws.{count_length}
use Rattle.model.proofs.SeqLaws.{count_snoc, map_snoc, pad_put}
use Rattle.model.proofs.ClaimLaws.{lines_none, lines_stop, lines_more}
use Rattle.frame_read.proofs.Tests.{refuses_bind}
use Rattle.claims.specs.declared.job_lines.Lines.{Lines}
use Rattle.claims.specs.JobLines.{stored, lines_told}

-- lists that are the same, and one more item each
same_snoc : (xs ys : List ℕ) (x y : ℕ) → length xs ≡ length ys → same (xs ++ (x ∷ [])) (ys ++ (y ∷ [])) ≡ (same xs ys && eqb x y)
unfolding same
same_snoc [] [] x y e = and_true (eqb x y)
same_snoc [] (b ∷ ys) x y e = absurd (omega arith)
same_snoc (a ∷ xs) [] x y e = absurd (omega arith)
same_snoc (a ∷ xs) (b ∷ ys) x y e = ap (λ (t : Bool). eqb a b && t) (same_snoc xs ys x y (omega arith)) ∙ and_assoc (eqb a b) (same xs ys) (eqb x y)

-- the start of line k beside those before it, as far as there is room
store_more : (xs : List ℕ) (k x : ℕ) → length xs ≡ k → stored (pad most_jobs 0 (take most_jobs xs)) k x ≡ pad most_jobs 0 (take most_jobs (xs ++ (x ∷ [])))
unfolding stored
store_more xs k x e = go (dec_lt k most_jobs)
  where
    go : Dec (k < most_jobs) → (if ltb k most_jobs then set (pad most_jobs 0 (take most_jobs xs)) k x else pad most_jobs 0 (take most_jobs xs)) ≡ pad most_jobs 0 (take most_jobs (xs ++ (x ∷ [])))
    go (yes h) = rw (lt-ltb k most_jobs h, take_all most_jobs xs (omega arith), take_all most_jobs (xs ++ (x ∷ [])) (omega (arith, length-append xs (x ∷ [])))) (pad_put most_jobs 0 xs k x e h)
    go (no h) = rw (le-ltb k most_jobs (omega arith)) (ap (pad most_jobs 0) (sym (take-append-le most_jobs xs (x ∷ []) (omega arith))))

-- k lines are read up to a place
pub record ReadTo (text : List ℕ) (from at k : ℕ) (ordered : Bool) (starts : List ℕ) : Type 0 where
  pub items : List (ℕ × ℕ)
  pub size : length items ≡ k
  pub inside : at ≤ length text
  pub few : k ≤ at
  pub in_order : ordered ≡ same (map (λ q. q.0) items) (count 0 k)
  pub filled : starts ≡ pad most_jobs 0 (take most_jobs (map (λ q. q.1) items))
  pub rest : read_lines (drop from text) ≡ (read_lines (drop at text) >>= λ qs. accept (items ++ qs))

pub read_start : (text : List ℕ) (from : ℕ) → from ≤ length text → ReadTo text from from 0 true (replicate 24 0)
unfolding same count pad ◌>>=◌
read_start text from h = record { items = []; size = refl; inside = h; few = omega arith; in_order = refl; filled = refl; rest = go (read_lines (drop from text)) }
  where
    go : (o : Outcome (List (ℕ × ℕ))) → o ≡ (o >>= λ qs. accept qs)
    go (refuse k) = refl
    go (accept qs) = refl

module _ (text : List ℕ) (from at k : ℕ) (ordered : Bool) (starts : List ℕ) (r : ReadTo text from at k ordered starts) where
  -- one line more
  pub read_more : (job start next : ℕ) → at < next → next ≤ length text → read_one claim_line (drop at text) ≡ accept ((job, start), drop next text)
      → ReadTo text from next (k + 1) (ordered && eqb job k) (stored starts k start)
  unfolding ◌>>=◌
  read_more job start next h g e =
      let qs = r.items in
      let q : ℕ × ℕ = (job, start) in
      record {
        items = qs ++ (q ∷ []);
        size = omega (arith, length-append qs (q ∷ []), r.size);
        inside = g;
        few = omega (arith, r.few);
        in_order =
            ap (λ (t : Bool). t && eqb job k) r.in_order
            ∙ sym (same_snoc (map (λ q. q.0) qs) (count 0 k) job k (length-map qs _ ∙ r.size ∙ sym (count_length 0 k)))
            ∙ ap₂ same (sym (map_snoc (λ q. q.0) qs q)) (sym (count_snoc 0 k ∙ ap (λ (x : ℕ). count 0 k ++ (x ∷ [])) (omega arith)) ∙ ap (count 0) (sym (add-one k)));
        filled =
            ap (λ (l : List ℕ). stored l k start) r.filled ∙ store_more (map (λ q. q.1) qs) k start (length-map qs _ ∙ r.size)
            ∙ ap (λ (l : List ℕ). pad most_jobs 0 (take most_jobs l)) (sym (map_snoc (λ q. q.1) qs q));
        rest = r.rest ∙ ap (λ (o : Outcome (List (ℕ × ℕ))). o >>= λ more. accept (qs ++ more)) (lines_more (drop at text) (drop next text) q e) ∙ go q (read_lines (drop next text));
      }
    where
      go : (q : ℕ × ℕ) (o : Outcome (List (ℕ × ℕ))) → (o >>= (λ more. accept (q ∷ more)) >>= λ more. accept (r.items ++ more)) ≡ (o >>= λ more. accept ((r.items ++ (q ∷ [])) ++ more))
      go q (refuse k) = refl
      go q (accept more) = ap accept (sym (append_assoc r.items (q ∷ []) more))

  -- no B1 line
  pub read_stop : at < length text → (j : ℕ) → read_one claim_line (drop at text) ≡ refuse j → None ≡ lines_told (read_lines (drop from text))
  unfolding lines_told
  read_stop h j e =
      let s = some_stop (drop at text) (omega (arith, length-drop at text)) j e in
      sym (ap lines_told (r.rest ∙ refuses_bind _ s.1))
    where
      some_stop : (cs : List ℕ) → 0 < length cs → (j : ℕ) → read_one claim_line cs ≡ refuse j → (i : ℕ) × (read_lines cs ≡ refuse i)
      some_stop [] h j e = absurd (omega arith)
      some_stop (c ∷ cs) h j e = lines_stop c cs j e

  -- nothing is left
  pub read_all : length text ≤ at → ◌≡◌ {A = Option Lines} (Some (record { count = k; ordered = ordered; starts = starts })) (lines_told (read_lines (drop from text)))
  unfolding lines_told
  read_all h =
      let all : read_lines (drop from text) ≡ accept r.items = r.rest ∙ accepts_bind _ (ap read_lines (drop_of_length-le text h) ∙ lines_none) ∙ ap accept (append-nil r.items) in
      rw (all, r.in_order, r.filled, r.size)
