-- `delays_met` meets its contract: the delays of a sound batch pass, so what is read of them is handed on, with its ends.
use mathlib.Core.Path.{sym, ◌∙◌}
use Rattle.model.proofs.BoolLaws.{apart}
use Rattle.weights.proofs.SoundLaws.{sound_pass}
use Rattle.starts.proofs.met.delays_met.Goals as goal

pub read_delays_met-requires : goal.read_delays_met-requires
read_delays_met-requires c = record { delays_sound = c.requires; delays_value = (c.in-Some.ensures.1, c.ends_of.ensures) }

-- the delays of a sound batch pass, so something is read
pub returns-in_default : goal.returns-in_default
returns-in_default c = apart (sym c.in_default.ensures ∙ sound_pass _ c.requires.0)
