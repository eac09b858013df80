-- Each turn of `batch_length` adds the length of one job line to that of the other lines.
use Prim.Native.Nat.{◌≤◌, ◌+◌, ◌*◌}
use mathlib.Core.Path.{◌≡◌}
use lib.ListN.{length}
use Rattle.model.specs.Common.{joined}
use Rattle.model.specs.Window.{window_text, window_lines}
use Rattle.model.specs.Rest.{rest_text, rest_lines}
use Rattle.frame_put.proofs.Pieces.{pieces}
use Rattle.writing.proofs.Texts.{job_piece}
use Rattle.writing.proofs.batch.batch_length.Given as goal

abbrev pub invariant-loop-job : goal.invariant-loop-job
invariant-loop-job l = let batch = l.fn.batch in
    record {
      is : l.size ≡ 9 + 11 * batch.m + length (joined window_text (window_lines batch)) + length (joined rest_text (rest_lines batch)) + length (pieces (job_piece batch) l.job-index);
      most : l.size ≤ 4000 + 262145 * l.job-index;
    }
