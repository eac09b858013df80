-- How long each line is: two digits a byte, and a 0A. The code compares a buffer with these numbers before it puts anything.
use Prim.Native.Nat.{ℕ, ◌+◌, ◌*◌}
use mathlib.Core.Path.{◌≡◌, refl, ap, ◌∙◌}
use mathlib.Core.List.{[], ◌∷◌, ◌++◌}
use native.Mathlib.Omega.{arith}
use lib.ListN.{length, get_or}
use Rattle.model.specs.declared.Delay.{Delay}
use Rattle.model.specs.declared.Job.{Job}
use Rattle.model.specs.declared.Window.{Window}
use Rattle.model.specs.Common.{joined}
use Rattle.model.specs.Line.{digits_of, two, four}
use Rattle.model.specs.Window.{window_text}
use Rattle.model.specs.Rest.{rest_text}
use Rattle.model.specs.Format.{unsigned, header_line, masks_of, job_line, delay_line}
use Rattle.lines.proofs.Puts.{digits_length, line_length}
use Rattle.frame_put.specs.Lines.{head_line, start_line, no_plan_line}
use Rattle.frame_put.specs.Window.{window_as}
use Rattle.frame_put.specs.Rest.{rest_as}
use Rattle.frame_put.proofs.Pieces.{pieces_even, joined_pieces}

-- a number of two bytes
pub two_length : (v : ℕ) → length (digits_of (two v)) ≡ 4
unfolding two
two_length v = digits_length (two v)

-- 4 bytes
pub header_length : (edition n m : ℕ) → length (header_line edition n m) ≡ 9
unfolding header_line
header_length edition n m = line_length (0xA0 ∷ edition ∷ n ∷ m ∷ [])

-- p masks of two bytes
pub masks_length : (job : Job) → length (joined two (masks_of job)) ≡ 2 * job.ticks
unfolding masks_of two
masks_length job =
    ap length (joined_pieces two (λ a. get_or job.masks a 0) job.ticks)
    ∙ pieces_even (λ a. two (get_or job.masks a 0)) 2 (λ a. refl) job.ticks

-- 2 + 2 × p bytes
pub job_length : (job : Job) → length (job_line job) ≡ 4 * job.ticks + 5
unfolding job_line
job_length job =
    omega (arith, line_length (0xA1 ∷ job.ticks ∷ joined two (masks_of job)), masks_length job)

-- 5 bytes
pub delay_length : (q : Delay) → length (delay_line q) ≡ 11
unfolding delay_line two
delay_length q = line_length (0xA2 ∷ q.from ∷ q.to ∷ two (unsigned q.weight))

-- 6 bytes
pub window_length : (job : ℕ) (w : Window) → length (window_as job w) ≡ 13
unfolding window_as window_text two
window_length job w = line_length (0xA3 ∷ job ∷ (two w.earliest ++ two w.latest))

-- 3 bytes
pub rest_length : (station ticks : ℕ) → length (rest_as station ticks) ≡ 7
unfolding rest_as rest_text
rest_length station ticks = line_length (0xA4 ∷ station ∷ ticks ∷ [])

-- 9 bytes
pub head_length : (n latency total : ℕ) → length (head_line n latency total) ≡ 19
unfolding head_line two four
head_length n latency total = line_length (0xB0 ∷ 0x01 ∷ n ∷ (two latency ++ four total))

-- 4 bytes
pub start_length : (job start : ℕ) → length (start_line job start) ≡ 9
unfolding start_line two
start_length job start = line_length (0xB1 ∷ job ∷ two start)

-- 5 bytes
pub no_plan_length : (total : ℕ) → length (no_plan_line total) ≡ 11
unfolding no_plan_line two four
no_plan_length total = line_length (0xB2 ∷ four total)
