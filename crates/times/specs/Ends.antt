-- The jobs' earliest and latest starts as arrays of 24 places, and whether starts are in time.
use Rattle.std.specs.Prelude.{ℕ, zero, suc, Bool, true, ◌&&◌, List, get_or, leb}
use Rattle.model.specs.declared.Batch.{Batch}
use Rattle.model.specs.Batch.{earliest, latest}
use Rattle.times.specs.Fill.{filled}

-- those of the first n jobs, and 0 past them
unfoldable pub earliest_read : Batch → List ℕ
earliest_read b = filled (earliest b) 24 b.n

unfoldable pub latest_read : Batch → List ℕ
latest_read b = filled (latest b) 24 b.n

-- none of the first k starts passes its latest
unfoldable pub none_late : List ℕ → List ℕ → ℕ → Bool
none_late latest starts zero = true
none_late latest starts (suc k) = leb (get_or starts k 0) (get_or latest k 0) && none_late latest starts k
