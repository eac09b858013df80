-- A batch that passes refusal 4, and whose further lines are sound, has its tables and rests within their limits, which is what list_clashes requires.
use mathlib.Core.Path.{◌≡◌}
use mathlib.Core.Bool.{true}
use native.Mathlib.Omega.{arith}
use Rattle.model.specs.declared.Batch.{Batch}
use Rattle.model.specs.Common.{count, all}
use Rattle.model.specs.Limits.{stations}
use Rattle.model.specs.Batch.{ticks}
use Rattle.model.specs.Window.{window_ok}
use Rattle.model.specs.Rest.{rest_ok}
use Rattle.model.specs.Open.{counts_ok, ticks_ok}
use Rattle.model.specs.Sound.{sound_further}
use Rattle.model.proofs.BoolLaws.{both}
use Rattle.model.proofs.ListLaws.{all_each, some_count}
use Rattle.model.proofs.LimitLaws.{counts_iff, ticks_iff}
use Rattle.model.proofs.RestLaws.{rest_low}
use Rattle.clashes.specs.List.{Tabled}

-- n, each p and the further lines pass their tests
pub tabled : (b : Batch) → counts_ok b.n b.m ≡ true → all (λ i. ticks_ok (ticks b i)) (count 0 b.n) ≡ true → sound_further b ≡ true → Tabled b
unfolding sound_further
tabled b e f g =
    record {
      few = ((counts_iff b.n b.m).0 e).0.1;
      short = λ i h. ((ticks_iff (ticks b i)).0 (all_each (λ i. ticks_ok (ticks b i)) (count 0 b.n) f (some_count 0 b.n i (omega arith) (omega arith)))).1;
      rests = λ s h. rest_low b s (all_each (rest_ok b) (count 0 stations) (both (all (window_ok b) (count 0 b.n)) _ g).1 (some_count 0 stations s (omega arith) (omega arith)));
    }
