-- The columns of a list of delays: a list of 128 places for each part of a delay. And a delay put together again.
use Rattle.std.specs.Prelude.{ℕ, List, map, get_or, pos}
use Rattle.model.specs.declared.Delay.{Delay}
use Rattle.model.specs.Common.{pad}
use Rattle.delay_list.specs.declared.Columns.{Columns}

-- each delay's parts, in the list's order, and then blanks
unfoldable pub columns_of : List Delay → Columns
columns_of list =
    record {
      from = pad 128 0 (map (λ q. q.from) list);
      to = pad 128 0 (map (λ q. q.to) list);
      weight = pad 128 (pos 0) (map (λ q. q.weight) list);
    }

-- the parts at place k
abbrev pub delay_at : Columns → ℕ → Delay
delay_at columns k = record { from = get_or columns.from k 0; to = get_or columns.to k 0; weight = get_or columns.weight k (pos 0) }
