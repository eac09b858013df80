-- `rounds` ends, since the round number k falls.
use Rattle.rounds.proofs.rounds.+rounds.Given as goal

abbrev pub decreases-rounds : goal.decreases-rounds
decreases-rounds l = l.k
