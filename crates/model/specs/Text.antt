-- Writing: the plan text, the batch text, and a text into a buffer. Refusals 12, 15, 16.
use Rattle.std.specs.Prelude.{ℕ, List, [], ◌∷◌, ◌++◌, length, drop, leb}
use Rattle.model.specs.Best.{Best}
use Rattle.std.specs.Prelude.{None, Some}
use Rattle.model.specs.declared.Search.{Search}
use Rattle.std.specs.Prelude.{Ok, Err}
use Rattle.model.specs.Refusal.{named, Written}
use Rattle.model.specs.Common.{count, joined, Outcome, refuse, accept, ◌>>=◌, require}
use Rattle.model.specs.Plan.{start}
use Rattle.model.specs.Line.{line, two, four}
use Rattle.model.specs.Format.{batch_file}
use Rattle.model.specs.Sound.{sound}

-- ---- the texts

-- B0, 01, n, latency, total; then for each job B1, job, start. No plan: B2, total
unfoldable pub plan_lines : Best → ℕ → List ℕ → ℕ → List ℕ
plan_lines None n starts total = line (0xB2 ∷ four total)
plan_lines (Some l) n starts total =
    line (0xB0 ∷ 0x01 ∷ n ∷ (two l ++ four total)) ++ joined (λ i. line (0xB1 ∷ i ∷ two (start starts i))) (count 0 n)

unfoldable pub plan_text : Search → Outcome (List ℕ)
plan_text s = do
  _ ← require 12 (sound s)
  _ ← require 15 s.ended
  accept (plan_lines s.best s.batch.n s.starts s.total)

-- the file of the record's batch
unfoldable pub batch_text : Search → Outcome (List ℕ)
batch_text s = do
  _ ← require 12 (sound s)
  accept (batch_file s.batch)

-- the program's line for a refusal
unfoldable pub refusal_line : ℕ → List ℕ
refusal_line k = line (0xBF ∷ k ∷ [])

-- ---- into a buffer: its first bytes are the text, the answer is their number, and the rest is left

unfoldable pub fitting : Outcome (List ℕ) → ℕ → Outcome (List ℕ)
fitting text room = do
  t ← text
  _ ← require 16 (leb (length t) room)
  accept t

unfoldable pub written_as : Outcome (List ℕ) → List ℕ → Written × List ℕ
written_as (refuse k) buffer = (Err (named k), buffer)
written_as (accept t) buffer = (Ok (length t), t ++ drop (length t) buffer)

unfoldable pub written : Outcome (List ℕ) → List ℕ → Written × List ℕ
written text buffer = written_as (fitting text (length buffer)) buffer
