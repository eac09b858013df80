-- Parts of the definition of a sound record that its batch is tested for: n, m and each p, the edition and the further lines.
use Rattle.std.specs.Prelude.{Bool, ◌&&◌}
use Rattle.model.specs.declared.Batch.{Batch}
use Rattle.model.specs.Common.{all, count}
use Rattle.model.specs.Batch.{ticks}
use Rattle.model.specs.Open.{counts_ok, ticks_ok}
use Rattle.model.specs.Sound.{sound_edition, sound_further}

-- each p is within its limits
unfoldable pub ticks_pass : Batch → Bool
ticks_pass b = all (λ i. ticks_ok (ticks b i)) (count 0 b.n)

-- n, m and each p are within their limits
unfoldable pub counts_pass : Batch → Bool
counts_pass b = counts_ok b.n b.m && ticks_pass b

-- and so are the edition and the further lines
unfoldable pub limits_pass : Batch → Bool
limits_pass b = counts_pass b && sound_edition b && sound_further b
