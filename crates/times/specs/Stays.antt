-- The jobs' stays as an array of 24 places.
use Rattle.std.specs.Prelude.{ℕ, List}
use Rattle.model.specs.declared.Batch.{Batch}
use Rattle.model.specs.Batch.{job_of}
use Rattle.model.specs.Plan.{stay}
use Rattle.times.specs.Fill.{filled}

-- the stays of the first n jobs, and 0 past them
unfoldable pub stays_read : Batch → List ℕ
stays_read b = filled (λ i. stay (job_of b i)) 24 b.n
