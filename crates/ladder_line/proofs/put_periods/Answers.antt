-- `ladder_line::put_periods` meets its contract: after each turn one period more is put.
-- Assumes nothing.
use native.Mathlib.Omega.{arith}
use Rattle.ladder_line.proofs.Periods.{no_period, period_room, one_period}
use Rattle.ladder_line.proofs.put_periods.Goals as goal

pub loop-t-init : goal.loop-t-init
loop-t-init c = no_period _ _ _ _ (omega arith)

pub put_spaced-end-requires : goal.put_spaced-end-requires
put_spaced-end-requires c = period_room _ _ _ _ c.requires.printable c.loop-t.invariant c.loop-t-test.true c.from.ensures c.requires.room

pub loop-t-preserved : goal.loop-t-preserved
loop-t-preserved c = one_period _ _ _ _ c.requires.printable c.loop-t.invariant c.loop-t-test.true c.from.ensures c.put_spaced-end.ensures
