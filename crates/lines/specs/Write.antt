-- A buffer into which a text was put.
use Rattle.std.specs.Prelude.{ℕ, ◌+◌, List, ◌++◌, length, take, drop}

-- the buffer with the text at a place, and the rest as it was
unfoldable pub overwritten : List ℕ → ℕ → List ℕ → List ℕ
overwritten buffer at text = take at buffer ++ (text ++ drop (at + length text) buffer)
