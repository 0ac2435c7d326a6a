-- `score::reckon` meets its contract: before each turn the periods that were passed are allowed, and what they add is carried along.
-- Assumes nothing.
use Rattle.score.proofs.Turns.{JobsLeft}
use Rattle.score.proofs.reckon.Given as goal

abbrev pub invariant-loop-k : goal.invariant-loop-k
invariant-loop-k l = JobsLeft l.p l.periods l.before l.written l.lost l.k
