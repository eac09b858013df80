-- A place of the file, which stands for the rest of the file from there.
use Rattle.std.specs.Prelude.{ℕ, ◌-◌, List, length}

-- the place in the file where a rest of it starts
unfoldable pub place_of : List ℕ → List ℕ → ℕ
place_of file rest = length file - length rest
