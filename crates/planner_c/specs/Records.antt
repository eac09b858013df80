-- What search a record of C's stands for, and the record of a search. A record is numbers alone, so every one stands for a search.
use Rattle.std.specs.Prelude.{ℕ, Bool, true, false, not, eqb, if◌then◌else◌}
use Rattle.model.specs.Best.{Best}
use Rattle.std.specs.Prelude.{None, Some}
use Rattle.model.specs.declared.Search.{Search}
use Rattle.planner_c.specs.declared.records.Record.{Record}

-- found 0: no best yet; otherwise best has the latency
unfoldable pub best_in : ℕ → ℕ → Best
best_in found latency = if eqb found 0 then None else Some latency

-- ended 0: the search goes on; otherwise it has ended
unfoldable pub search_in : Record → Search
search_in s =
    record {
      batch = s.batch;
      path = s.path;
      best = best_in s.found s.latency;
      starts = s.starts;
      total = s.total;
      ended = not (eqb s.ended 0);
    }

-- found of best: 1, or 0 without one
abbrev pub found_of : Best → ℕ
found_of None = 0
found_of (Some l) = 1

-- best's latency; 0 where there is no best
abbrev pub latency_of : Best → ℕ
latency_of None = 0
latency_of (Some l) = l

-- 1 for yes, 0 for no
abbrev pub flag_of : Bool → ℕ
flag_of true = 1
flag_of false = 0

-- the record of a search: found and ended are 0 or 1
unfoldable pub record_of : Search → Record
record_of s =
    record {
      total = s.total;
      latency = latency_of s.best;
      found = found_of s.best;
      ended = flag_of s.ended;
      starts = s.starts;
      batch = s.batch;
      path = s.path;
    }
