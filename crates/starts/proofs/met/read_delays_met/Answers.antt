-- `read_delays_met` meets its contract: the arrays that are read hold the delays, no job stays, and the rounds begin at the earliest starts.
use mathlib.Core.Path.{◌∙◌}
use native.Mathlib.Omega.{arith}
use borrow.Author.Rules.{rules}
use Rattle.starts.specs.Table.{empty_table}
use Rattle.times.proofs.FillLaws.{zeros_small}
use Rattle.starts.proofs.TakeLaws.{placed_take, put_take}
use Rattle.starts.proofs.Law.{fours_high}
use Rattle.starts.proofs.MetLaws.{begin_small, begin_fits, met_placed, met_is}
use Rattle.starts.proofs.met.read_delays_met.Goals as goal

pub put_all-requires : goal.put_all-requires
put_all-requires c = placed_take _ _ (search rules) (met_placed _ c.requires.delays_sound.0 _ c.requires.delays_value.0 _ c.from.ensures)

-- the earliest starts are small
pub raised_latency-latency-requires : goal.raised_latency-latency-requires
raised_latency-latency-requires c = (zeros_small _ 24, begin_small _ c.requires.delays_sound.1 _ c.requires.delays_value.1.0)

pub rounds-requires : goal.rounds-requires
rounds-requires c =
    let begin = begin_fits _ c.requires.delays_sound.1 _ c.requires.delays_value.1.0 _ c.raised_latency-latency.ensures in
    record {
      fours_bound = omega (arith, fours_high _ c.requires.delays_sound.0.most, c.from-n.ensures);
      small = zeros_small _ 24;
      starts_len = begin.0;
      latency_value = begin.1;
    }

pub returns : goal.returns
unfolding empty_table
returns c = met_is _ c.requires.delays_sound.0 _ c.requires.delays_value.0 _ c.from.ensures _ (c.put_all.ensures ∙ put_take _ empty_table _ (search rules)) c.requires.delays_sound.1 _ c.from-n.ensures _ _ c.requires.delays_value.1.0 c.requires.delays_value.1.1 _ c.raised_latency-latency.ensures _ c.rounds.ensures
