-- A whole file: its header, its jobs and delays, and what its edition has after them.
use Prim.Native.Nat.{ℕ, ◌≤◌, ◌<◌}
use mathlib.Core.Path.{◌≡◌, refl, ap, ap₂, sym, ◌∙◌, subst}
use mathlib.Core.Bool.{true, false}
use mathlib.Core.List.{List, [], ◌∷◌}
use native.Mathlib.Omega.{arith}
use lib.ListN.{length, drop, length-drop}
use borrow.Author.Tests.{eq-eqb, ne_eqb}
use Rattle.model.specs.declared.Job.{Job}
use Rattle.model.specs.declared.Delay.{Delay}
use Rattle.model.specs.declared.Window.{Window}
use Rattle.model.specs.declared.Batch.{Batch}
use Rattle.model.specs.Common.{is_empty, Outcome, refuse, accept, ◌>>=◌, require, pad}
use Rattle.model.specs.Batch.{blank_job, blank_delay}
use Rattle.model.specs.Window.{windows_of}
use Rattle.model.specs.Rest.{rests_of}
use Rattle.model.specs.Format.{Further, no_further, batch_of}
use Rattle.model.specs.Open.{counts_ok, header, job, delay, due, read_one, read_all, read_further, read_rest, read_file}
use Rattle.model.proofs.OutcomeLaws.{refused, accept_eq, bind_accepts, accepts_bind, require_accepts, accepts_require, refuses_require}
use Rattle.model.proofs.LimitLaws.{counts_iff}
use Rattle.frame_read.proofs.Tests.{refuses_bind}
use Rattle.further_read.specs.declared.further.FurtherRead.{FurtherRead}
use Rattle.further_read.specs.Further.{further_told}
use Rattle.reading.specs.Read.{one_told}
use Rattle.reading.proofs.Told.{one_at, Items}

-- ---- what the edition has after the delays

end_empty : (rest : List ℕ) → length rest ≤ 0 → is_empty rest ≡ true
unfolding is_empty
end_empty [] l = refl
end_empty (c ∷ cs) l = absurd (omega arith)

end_more : (rest : List ℕ) → 0 < length rest → is_empty rest ≡ false
unfolding is_empty
end_more [] l = absurd (omega arith)
end_more (c ∷ cs) l = refl

-- edition 02
pub rest_second : (edition n : ℕ) (rest : List ℕ) → (edition ≡ 1 → ⊥) → read_rest edition n rest ≡ read_further n rest
unfolding read_rest
rest_second edition n rest h = rw (ne_eqb edition 1 h)

-- edition 01
module _ (file : List ℕ) (edition n at : ℕ) (first : edition ≡ 1) where
  rest_first : read_rest edition n (drop at file) ≡ (require 8 (is_empty (drop at file)) >>= λ u. accept no_further)
  unfolding read_rest
  rest_first = rw (eq-eqb edition 1 first)

  -- 8: bytes after the last frame
  pub rest_more : at < length file → read_rest edition n (drop at file) ≡ refuse 8
  rest_more l = rest_first ∙ refuses_require 8 _ (end_more (drop at file) (omega (arith, length-drop at file)))

  -- nothing after it
  pub rest_none : length file ≤ at → read_rest edition n (drop at file) ≡ accept no_further
  rest_none l = rest_first ∙ accepts_require 8 _ (end_empty (drop at file) (omega (arith, length-drop at file)))

-- what was read of it
pub further_at : (o : Outcome Further) (r : FurtherRead) → further_told o ≡ accept r → (f : Further) × (o ≡ accept f) × (windows_of f.windows ≡ r.windows) × (rests_of f.rests ≡ r.rests)
unfolding further_told ◌>>=◌
further_at (refuse k) r e = refused e
further_at (accept f) r e = let h : ◌≡◌ {A = FurtherRead} (record { windows = windows_of f.windows; rests = rests_of f.rests }) r = accept_eq e in
    (f, refl, ap (λ (x : FurtherRead). x.windows) h, ap (λ (x : FurtherRead). x.rests) h)

-- ---- the header

-- a header that was read is within its limits
header_limits : (f : List ℕ) (counts : ℕ × ℕ × ℕ) → header f ≡ accept counts → counts_ok counts.1 counts.2 ≡ true
unfolding header
header_limits f counts e =
    let a = require_accepts 2 _ _ counts e in
    let b = require_accepts 3 _ _ counts a.1 in
    let c = require_accepts 4 _ _ counts b.1 in
    subst (λ (p : ℕ × ℕ × ℕ). counts_ok p.1 p.2 ≡ true) (accept_eq c.1) c.0

-- so is the first line's
first_limits : (file : List ℕ) (p : (ℕ × ℕ × ℕ) × List ℕ) → read_one header file ≡ accept p → counts_ok p.0.1 p.0.2 ≡ true
unfolding read_one
first_limits file p e =
    let r = bind_accepts (due file) _ p e in
    let s = bind_accepts (header r.0.0) _ p r.2 in
    subst (λ (q : (ℕ × ℕ × ℕ) × List ℕ). counts_ok q.0.1 q.0.2 ≡ true) (accept_eq s.2) (header_limits r.0.0 s.0 s.1)

-- what is known of a header that was read, and of the place behind it
pub record First (file : List ℕ) (edition n m next : ℕ) : Type 0 where
  pub is : read_one header file ≡ accept ((edition, n, m), drop next file)
  pub inside : next ≤ length file
  pub jobs : n ≤ 24
  pub delays : m ≤ 128

pub first_at : (file : List ℕ) (edition n m next : ℕ) → one_told file (read_one header (drop 0 file)) ≡ accept ((edition, n, m), next) → First file edition n m next
first_at file edition n m next e =
    let r = one_at header file 0 (edition, n, m) next e in
    let l = (counts_iff n m).0 (first_limits file ((edition, n, m), drop next file) r.1) in
    record { is = r.1; inside = r.0; jobs = omega (arith, l.0.1); delays = omega (arith, l.1) }

-- ---- the file, by the first of its parts that is refused

-- the header
pub header_refused : (file : List ℕ) (k : ℕ) → read_one header (drop 0 file) ≡ refuse k → refuse k ≡ read_file file
unfolding read_file
header_refused file k e = sym (refuses_bind _ e)

module _ (file : List ℕ) (edition n m at : ℕ) (f : First file edition n m at) where
  -- the jobs
  pub jobs_refused : (k : ℕ) → read_all job n (drop at file) ≡ refuse k → refuse k ≡ read_file file
  unfolding read_file
  jobs_refused k e = sym (accepts_bind _ f.is ∙ refuses_bind _ e)

  module _ (jobs : List Job) (place : ℕ) (i : Items job file 24 blank_job n at place jobs) where
    -- the delays
    pub delays_refused : (k : ℕ) → read_all (delay n) m (drop place file) ≡ refuse k → refuse k ≡ read_file file
    unfolding read_file
    delays_refused k e = sym (accepts_bind _ f.is ∙ accepts_bind _ i.is ∙ refuses_bind _ e)

    module _ (delays : List Delay) (end : ℕ) (j : Items (delay n) file 128 blank_delay m place end delays) where
      -- what the edition has after them
      pub rest_refused : (k : ℕ) → read_rest edition n (drop end file) ≡ refuse k → refuse k ≡ read_file file
      unfolding read_file
      rest_refused k e = sym (accepts_bind _ f.is ∙ accepts_bind _ i.is ∙ accepts_bind _ j.is ∙ refuses_bind _ e)

      -- all are read: the batch of the arrays is that of the items
      pub file_read : (r : FurtherRead) → further_told (read_rest edition n (drop end file)) ≡ accept r
          → accept (record { n = n; m = m; edition = edition; jobs = jobs; delays = delays; windows = r.windows; rests = r.rests }) ≡ read_file file
      unfolding read_file batch_of
      file_read r e =
          let (g, h, p, q) = further_at (read_rest edition n (drop end file)) r e in
          ap₂ (λ (x y : ℕ). accept (batch_with x y jobs delays r.windows r.rests)) (sym i.size) (sym j.size)
          ∙ ap₂ (λ (x : List Job) (y : List Delay). accept (batch_with (length i.items) (length j.items) x y r.windows r.rests)) i.filled j.filled
          ∙ ap₂ (λ (x : List Window) (y : List ℕ). accept (batch_with (length i.items) (length j.items) (pad 24 blank_job i.items) (pad 128 blank_delay j.items) x y)) (sym p) (sym q)
          ∙ sym (accepts_bind _ f.is ∙ accepts_bind _ i.is ∙ accepts_bind _ j.is ∙ accepts_bind _ h)
        where
          batch_with : ℕ → ℕ → List Job → List Delay → List Window → List ℕ → Batch
          batch_with x y xs ys ws rs = record { n = x; m = y; edition = edition; jobs = xs; delays = ys; windows = ws; rests = rs }
