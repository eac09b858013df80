-- The masks of a job as the pieces that a loop puts.
use Prim.Native.Nat.{ℕ, ◌*◌}
use mathlib.Core.Path.{◌≡◌, ap, ◌∙◌}
use mathlib.Core.List.{List}
use lib.ListN.{length, get_or}
use Rattle.model.specs.declared.Job.{Job}
use Rattle.model.specs.Common.{joined}
use Rattle.model.specs.Line.{digits_of, two}
use Rattle.model.specs.Format.{masks_of}
use Rattle.frame_put.proofs.Pieces.{pieces, pieces_even, joined_pieces, digits_pieces}
use Rattle.frame_put.proofs.Lengths.{two_length}

abbrev pub mask_piece : Job → ℕ → List ℕ
mask_piece job a = digits_of (two (get_or job.masks a 0))

pub masks_text : (job : Job) → digits_of (joined two (masks_of job)) ≡ pieces (mask_piece job) job.ticks
unfolding masks_of
masks_text job =
    ap digits_of (joined_pieces two (λ a. get_or job.masks a 0) job.ticks)
    ∙ digits_pieces (λ a. two (get_or job.masks a 0)) job.ticks

pub masks_size : (job : Job) (k : ℕ) → length (pieces (mask_piece job) k) ≡ 4 * k
masks_size job k = pieces_even (mask_piece job) 4 (λ a. two_length (get_or job.masks a 0)) k
