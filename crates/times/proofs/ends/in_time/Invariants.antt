-- `in_time` meets its contract. The loop's invariant: `timely` says whether none of the first j starts passes its latest.
use mathlib.Core.Path.{◌≡◌}
use Rattle.times.specs.Ends.{none_late}
use Rattle.times.proofs.ends.in_time.Given as goal

abbrev pub invariant-loop-j : goal.invariant-loop-j
invariant-loop-j l = l.timely ≡ none_late l.latest l.starts l.j
