-- `search::run::store_turns` meets its contract. The invariant: the inequalities of the first k turns are stored.
use Rattle.node.specs.Walk.{Steps}
use Rattle.search.proofs.run.store_turns.Given as goal

abbrev pub invariant-loop-k : goal.invariant-loop-k
invariant-loop-k l = Steps l.codes l.turns l.k l.steps
