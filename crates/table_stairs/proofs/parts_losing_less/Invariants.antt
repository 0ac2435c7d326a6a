-- `table_stairs::parts_losing_less` meets its contract: of the parts seen so far, those counted lose less and no others.
-- Assumes nothing.
use Rattle.table_stairs.specs.Ordered.{PartsLoseLess}
use Rattle.table_stairs.proofs.parts_losing_less.Given as goal

abbrev pub invariant-loop-x : goal.invariant-loop-x
invariant-loop-x l = PartsLoseLess l.rows l.size l.loss l.x l.less
