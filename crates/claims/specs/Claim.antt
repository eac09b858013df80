-- A plan text read in place: what the answers for its B0 line and for a B1 line stand for.
use Rattle.std.specs.Prelude.{ℕ, ◌≤◌, ◌<◌, ◌≡◌, List, length, drop, Option, Some, None}
use Rattle.model.specs.Common.{refuse, accept}
use Rattle.model.specs.Open.{read_one}
use Rattle.model.specs.Judge.{claim_head, claim_line}
use Rattle.claims.specs.declared.claim.Head.{Head}
use Rattle.claims.specs.declared.claim.JobLine.{JobLine}

-- the first line is read, up to a place of the text; or it is refused
unfoldable pub ReadsHead : List ℕ → Option Head → Type 0
ReadsHead text (Some h) = (h.next ≤ length text) × (total : ℕ) × (read_one claim_head text ≡ accept ((h.n, h.latency, total), drop h.next text))
ReadsHead text None = (k : ℕ) × (read_one claim_head text ≡ refuse k)

-- the line at a place is read, up to a later place; or it is refused
unfoldable pub ReadsJob : List ℕ → ℕ → Option JobLine → Type 0
ReadsJob text at (Some l) = (at < l.next) × (l.next ≤ length text) × (read_one claim_line (drop at text) ≡ accept ((l.job, l.start), drop l.next text))
ReadsJob text at None = (k : ℕ) × (read_one claim_line (drop at text) ≡ refuse k)
