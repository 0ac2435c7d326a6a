-- `choose::told` meets its contract: before each turn the pages of the jobs so far are carried along.
-- Assumes nothing.
use Rattle.choose.proofs.Planned.{PeriodsLeft}
use Rattle.choose.proofs.told.Given as goal

abbrev pub invariant-loop-k : goal.invariant-loop-k
invariant-loop-k l = PeriodsLeft l.numbers l.periods l.before l.written l.k
