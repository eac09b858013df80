-- `rounds` meets its contract, by recursion on the falling round number k. While the latency is below the bound, no start is above 43,016, so that
-- the sums of the next round fit sixteen bits. Each call asks of the next that the latency is that of its starts.
use native.Mathlib.Omega.{arith}
use Rattle.rounds.proofs.RoundLaws.{below_small, rounds_none, rounds_end, rounds_stop, rounds_on, same_listed, next_long, next_small, next_latency}
use Rattle.rounds.proofs.rounds.+rounds.Goals as goal

-- k is 0
pub returns-then-k-eq0 : goal.returns-then-k-eq0
returns-then-k-eq0 t c = rounds_none _ _ _ _ _ _ _ _ c.if-k-eq0.true

pub round-new-requires-clause-small : goal.round-new-requires-clause-small
round-new-requires-clause-small t c =
    let l = c.requires.latency_value in
    below_small _ _ _ _ c.requires.starts_len l.0 l.1.0 l.1.1

-- a round without change: the latest starts decide
pub returns-then-eq : goal.returns-then-eq
returns-then-eq t c =
    rounds_end _ _ _ _ _ _ _ _ _ c.round-new.ensures (same_listed _ _ _ c.eq.ensures c.requires.starts_len (next_long _ _ _ _ c.round-new.ensures)) _ c.if-k-eq0.false c.if-eq.true _ c.in_time.ensures

-- the latency raised by the new starts
pub raised_latency-risen-requires : goal.raised_latency-risen-requires
raised_latency-risen-requires t c =
    let l = c.requires.latency_value in
    (c.requires.small, next_small _ _ _ _ c.round-new.ensures (below_small _ _ _ _ c.requires.starts_len l.0 l.1.0 l.1.1))

-- at the bound
pub returns-then-bound-risen : goal.returns-then-bound-risen
returns-then-bound-risen t c =
    rounds_stop _ _ _ _ _ _ _ _ _ c.round-new.ensures (same_listed _ _ _ c.eq.ensures c.requires.starts_len (next_long _ _ _ _ c.round-new.ensures)) _ c.raised_latency-risen.ensures c.if-eq.false _ c.if-k-eq0.false c.if-bound-risen.true

-- what the next call asks: the latency is that of its starts
pub rounds-requires : goal.rounds-requires
rounds-requires t c =
    let l = c.requires.latency_value in (
      omega (arith, c.if-k-eq0.false, c.decreases),
      (
        c.requires.fours_bound,
        (
          c.requires.small,
          (
            next_long _ _ _ _ c.round-new.ensures,
            (next_latency _ _ _ _ c.round-new.ensures _ _ _ l.0 c.raised_latency-risen.ensures, (omega (arith, c.if-bound-risen.false), l.1.1)),
          ),
        ),
      ),
    )

pub returns : goal.returns
returns t c =
    rounds_on _ _ _ _ _ _ _ _ _ c.round-new.ensures (same_listed _ _ _ c.eq.ensures c.requires.starts_len (next_long _ _ _ _ c.round-new.ensures)) _ c.raised_latency-risen.ensures c.if-eq.false _ c.if-k-eq0.false (omega (arith, c.if-bound-risen.false)) _ c.rounds.ensures
