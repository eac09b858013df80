-- Kind A3 as one of the kinds whose numbers rise.
use Prim.Native.Nat.{ℕ, zero, suc, ◌≤◌, ◌<◌}
use mathlib.Core.Path.{◌≡◌, refl, ap, sym, ◌∙◌}
use mathlib.Core.Bool.{Bool, ◌&&◌}
use mathlib.Core.List.{List, []}
use native.Mathlib.Omega.{arith}
use lib.Dec.{ltb}
use Rattle.model.specs.declared.Window.{Window}
use Rattle.model.specs.Common.{accept, ◌>>=◌, require}
use Rattle.model.specs.Limits.{most_jobs}
use Rattle.model.specs.Line.{at as byte_of, wide as wide_of, frame_is}
use Rattle.model.specs.Numbered.{rises}
use Rattle.model.specs.Batch.{blank_window}
use Rattle.model.specs.Window.{WindowLine, window_place, ends_ok, job_rises, window}
use Rattle.model.proofs.OutcomeLaws.{accept_eq, bind_accepts}
use Rattle.frame_read.specs.Numbered.{Lowest}
use Rattle.frame_read.specs.Window.{window_job, window_told}
use Rattle.frame_read.proofs.NumberedLaws.{frame_limits}
use Rattle.further_read.specs.Windows.{windows_below, window_from}
use Rattle.further_read.proofs.NumberedLaws.{lowest_none, lowest_more}
use Rattle.further_read.proofs.NumberedKind.{Numbers}

-- a window that was read names a job below n, not below those that are left
pub window_limits : (n low : ℕ) (before : List WindowLine) (f : List ℕ) (w : WindowLine) → Lowest window_job low before → window n before f ≡ accept w → (w.job < n) × (low ≤ w.job)
unfolding window job_rises
window_limits n low before f w lowest e = frame_limits window_job 0xA3 6 n 20 low f before lowest _ _ w refl e

-- lines whose jobs are below
pub windows_lowest : (low : ℕ) → Lowest window_job low (windows_below low)
unfolding windows_below
windows_lowest zero = lowest_none window_job
windows_lowest (suc job) = lowest_more window_job 0 [] (record { job = job; earliest = 0; latest = 0 }) (lowest_none window_job) (omega arith)

-- any lines with the same lowest job that is left are read on from alike
pub window_same : (n low : ℕ) (before : List WindowLine) (f : List ℕ) → Lowest window_job low before → window_from n low f ≡ (window n before f >>= λ w. accept (w.job, window_place w))
unfolding window_from window_told window job_rises rises Lowest
window_same n low before f lowest =
    ap (λ (t : Bool). window_told (require 2 (frame_is 0xA3 6 f) >>= λ u. require 20 ((ltb (byte_of f 1) n && t) && ends_ok (wide_of f 2) (wide_of f 4)) >>= λ v. accept (record { job = byte_of f 1; earliest = wide_of f 2; latest = wide_of f 4 })))
    (windows_lowest low (byte_of f 1) ∙ sym (lowest (byte_of f 1)))

-- a job that was read is below n
pub window_below : (n low : ℕ) (f : List ℕ) (i : ℕ) (p : Window) → window_from n low f ≡ accept (i, p) → i < n
unfolding window_from window_told
window_below n low f i p e =
    let s = bind_accepts (window n (windows_below low) f) _ (i, p) e in
    let z : ◌≡◌ {A = ℕ × Window} (s.0.job, window_place s.0) (i, p) = accept_eq s.2 in
    omega (arith, ap (λ (q : ℕ × Window). q.0) z, (window_limits n low (windows_below low) f s.0 (windows_lowest low) s.1).0)

abbrev pub window_numbers : (n : ℕ) → n ≤ most_jobs → Numbers WindowLine Window
window_numbers n few =
    record {
      kind = 0xA3;
      limit = n;
      size = most_jobs;
      number = window_job;
      place = window_place;
      blank = blank_window;
      frame = window n;
      one = window_from n;
      room = few;
      limits = window_limits n;
      same = window_same n;
    }
