-- `walk::Numbers::loss_floor` meets its contract: before each turn the sum is the floor of the jobs that were passed.
-- Assumes nothing.
use Rattle.walk.proofs.FloorTurn.{FloorTo}
use Rattle.walk.proofs.Numbers.loss_floor.Given as goal

abbrev pub invariant-loop-j : goal.invariant-loop-j
invariant-loop-j l = FloorTo l.self l.from l.t l.floor l.j-index
