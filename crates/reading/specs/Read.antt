-- The answers of the functions that read frames one after the other, for what the definitions read.
use Rattle.std.specs.Prelude.{ℕ, List}
use Rattle.model.specs.Common.{pad, Outcome, accept, ◌>>=◌}
use Rattle.frame_read.specs.Answer.{place_of}

-- the item and the place behind it, or the refusal
unfoldable pub one_told : {A : Type 0} → List ℕ → Outcome (A × List ℕ) → Outcome (A × ℕ)
one_told file o = o >>= λ (x, rest). accept (x, place_of file rest)

-- the items and then blanks, and the place behind them, or the refusal
unfoldable pub all_told : {A : Type 0} → ℕ → A → List ℕ → Outcome (List A × List ℕ) → Outcome (List A × ℕ)
all_told places blank file o = o >>= λ (xs, rest). accept (pad places blank xs, place_of file rest)
