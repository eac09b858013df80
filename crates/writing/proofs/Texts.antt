-- The job lines, the delay lines and the start lines as the pieces that the loops put, the lengths of both texts, and texts put one behind the other.
use Prim.Native.Nat.{ℕ, ◌+◌, ◌*◌, ◌≤◌}
use mathlib.Core.Path.{◌≡◌, refl, ap, sym, ◌∙◌}
use mathlib.Core.List.{List, [], ◌++◌}
use native.Mathlib.Omega.{arith}
use lib.ListN.{length, get_or, length-append}
use Rattle.model.specs.declared.Delay.{Delay}
use Rattle.model.specs.declared.Job.{Job}
use Rattle.model.specs.declared.Batch.{Batch}
use Rattle.model.specs.Common.{count, joined}
use Rattle.model.specs.Batch.{blank_job, job_of, ticks, delay_of, delays_of}
use Rattle.model.specs.Plan.{start}
use Rattle.model.specs.Window.{window_text, window_lines}
use Rattle.model.specs.Rest.{rest_text, rest_lines}
use Rattle.model.specs.Format.{header_line, masks_of, job_line, jobs_of, delay_line, further_of, further_text, batch_file}
use Rattle.model.proofs.SeqLaws.{get_d_default}
use Rattle.lines.specs.Write.{overwritten}
use Rattle.lines.proofs.Puts.{put_nothing, put_then}
use Rattle.frame_put.specs.Lines.{head_line, start_line}
use Rattle.frame_put.proofs.Pieces.{pieces, pieces_even, joined_pieces}
use Rattle.frame_put.proofs.Lengths.{header_length, job_length, delay_length, head_length, start_length}
use Rattle.writing.specs.Plan.{start_lines, found_lines}

-- ---- jobs

abbrev pub job_piece : Batch → ℕ → List ℕ
job_piece b i = job_line (job_of b i)

pub jobs_text : (b : Batch) → joined job_line (jobs_of b) ≡ pieces (job_piece b) b.n
unfolding jobs_of
jobs_text b = joined_pieces job_line (job_of b) b.n

-- a job as the code reads it: past the array's end it has no masks at all
abbrev pub read_job : Batch → ℕ → Job
read_job b i = get_or b.jobs i (record { ticks = 0; masks = [] })

pub read_line_lem : (b : Batch) (i : ℕ) → job_line (read_job b i) ≡ job_piece b i
unfolding job_of job_line masks_of blank_job count
read_line_lem b i = get_d_default job_line b.jobs i (record { ticks = 0; masks = [] }) blank_job refl

pub read_ticks : (b : Batch) (i : ℕ) → (read_job b i).ticks ≡ ticks b i
unfolding ticks job_of blank_job
read_ticks b i = get_d_default (λ job. job.ticks) b.jobs i (record { ticks = 0; masks = [] }) blank_job refl

pub read_length : (b : Batch) (i : ℕ) → length (job_piece b i) ≡ 4 * (read_job b i).ticks + 5
read_length b i = ap length (sym (read_line_lem b i)) ∙ job_length (read_job b i)

-- ---- delays

abbrev pub delay_piece : Batch → ℕ → List ℕ
delay_piece b k = delay_line (delay_of b k)

pub delays_text : (b : Batch) → joined delay_line (delays_of b) ≡ pieces (delay_piece b) b.m
unfolding delays_of
delays_text b = joined_pieces delay_line (delay_of b) b.m

pub delays_size : (q : ℕ → Delay) (k : ℕ) → length (pieces (λ i. delay_line (q i)) k) ≡ 11 * k
delays_size q k = pieces_even (λ i. delay_line (q i)) 11 (λ i. delay_length (q i)) k

pub delays_length : (b : Batch) → length (joined delay_line (delays_of b)) ≡ 11 * b.m
delays_length b = ap length (delays_text b) ∙ delays_size (delay_of b) b.m

-- ---- the batch text

pub batch_length : (b : Batch) → length (batch_file b) ≡ 9 + (length (joined job_line (jobs_of b)) + (11 * b.m + (length (joined window_text (window_lines b)) + length (joined rest_text (rest_lines b)))))
unfolding batch_file further_text further_of
batch_length b =
    let head = header_line b.edition b.n b.m in
    let jobs = joined job_line (jobs_of b) in
    let delays = joined delay_line (delays_of b) in
    let windows = joined window_text (window_lines b) in
    let rests = joined rest_text (rest_lines b) in
    omega (
      arith,
      length-append head (jobs ++ (delays ++ (windows ++ rests))),
      length-append jobs (delays ++ (windows ++ rests)),
      length-append delays (windows ++ rests),
      length-append windows rests,
      header_length b.edition b.n b.m,
      delays_length b,
    )

-- texts one behind the other from the front of the buffer, as calls leave them: the next place, and the buffer
pub record Front (buffer text : List ℕ) (next : ℕ) (after : List ℕ) : Type 0 where
  pub place : next ≡ length text
  pub buffer_is : after ≡ overwritten buffer 0 text

-- none yet
pub front_none : (buffer : List ℕ) → Front buffer [] 0 buffer
front_none buffer = record { place = refl; buffer_is = sym (put_nothing buffer 0) }

-- one more
pub front_more : {buffer text after last : List ℕ} {next place size : ℕ} (more : List ℕ) → Front buffer text next after → length text + length more ≤ length buffer
    → length more ≡ size → place ≡ next + size → last ≡ overwritten after next more → Front buffer (text ++ more) place last
front_more {buffer} {text} more f fits s p e =
    record {
      place = omega (arith, length-append text more, f.place);
      buffer_is = put_then buffer 0 text more (omega arith) (omega (arith, f.place)) f.buffer_is e;
    }

-- ---- starts

abbrev pub start_piece : List ℕ → ℕ → List ℕ
start_piece starts i = start_line i (start starts i)

pub starts_text : (n : ℕ) (starts : List ℕ) → start_lines n starts ≡ pieces (start_piece starts) n
unfolding start_lines pieces
starts_text n starts = refl

pub starts_size : (starts : List ℕ) (k : ℕ) → length (pieces (start_piece starts) k) ≡ 9 * k
starts_size starts k = pieces_even (start_piece starts) 9 (λ i. start_length i (start starts i)) k

-- ---- the plan text

pub found_length : (n latency : ℕ) (starts : List ℕ) (total : ℕ) → length (found_lines n latency starts total) ≡ 19 + 9 * n
unfolding found_lines
found_length n latency starts total =
    omega (
      arith,
      length-append (head_line n latency total) (start_lines n starts),
      head_length n latency total,
      ap length (starts_text n starts),
      starts_size starts n,
    )
