-- `refused` puts a line of two bytes.
use Rattle.plan.proofs.TextLaws.{refusal_put}
use Rattle.plan.proofs.text.refused.Goals as goal

pub returns : goal.returns
returns c = rw (← c.number.ensures) (refusal_put _ _ _ _ _ _ _ _ c.requires c.put_byte-kind.ensures c.put_byte-byte.ensures c.put_end.ensures)
