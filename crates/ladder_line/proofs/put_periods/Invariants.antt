-- `ladder_line::put_periods` meets its contract: before each turn as many periods are put as turns were taken.
-- Assumes nothing.
use Rattle.ladder_line.proofs.Periods.{PeriodsPut}
use Rattle.ladder_line.proofs.put_periods.Given as goal

abbrev pub invariant-loop-t : goal.invariant-loop-t
invariant-loop-t l = PeriodsPut l.initial.text l.at l.fn.periods l.n l.t-index l.end l.text
