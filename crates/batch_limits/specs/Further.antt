-- Parts of the definition of a sound record that one loop over further lines tests.
use Rattle.std.specs.Prelude.{Bool, not, ◌&&◌, eqb, if◌then◌else◌}
use Rattle.model.specs.declared.Window.{Window}
use Rattle.model.specs.declared.Batch.{Batch}
use Rattle.model.specs.Common.{all, count, is_empty}
use Rattle.model.specs.Limits.{no_latest, stations}
use Rattle.model.specs.Window.{window_lines, ends_ok, window_ok}
use Rattle.model.specs.Rest.{rest_lines, rest_ok}

-- one job's ends
unfoldable pub ends_pass : Window → Bool
ends_pass w = if not (eqb w.lined 0) then ends_ok w.earliest w.latest else eqb w.earliest 0 && eqb w.latest no_latest

-- those of each job
unfoldable pub windows_pass : Batch → Bool
windows_pass b = all (window_ok b) (count 0 b.n)

-- no job has a line
unfoldable pub unlined : Batch → Bool
unlined b = is_empty (window_lines b)

-- each station's rest
unfoldable pub rests_pass : Batch → Bool
rests_pass b = all (rest_ok b) (count 0 stations)

-- no station has a line
unfoldable pub unrested : Batch → Bool
unrested b = is_empty (rest_lines b)
