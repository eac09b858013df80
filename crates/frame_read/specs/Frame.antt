-- A frame where it stands in the file.
use Rattle.std.specs.Prelude.{ℕ, zero, suc, ◌+◌, ◌*◌, ◌≤◌, List, [], ◌∷◌, length}
use Rattle.lines.specs.Read.{byte_at}

-- the bytes of a frame whose digits start at a place, two digits a byte
unfoldable pub frame_at : List ℕ → ℕ → ℕ → List ℕ
frame_at file at zero = []
frame_at file at (suc k) = byte_at file at ∷ frame_at file (at + 2) k

-- such a frame has a byte, and its digits stand in the file
pub record InFile (file : List ℕ) (at size : ℕ) : Type 0 where
  pub full : 1 ≤ size
  pub fits : at + 2 * size ≤ length file
