-- `choose::told` meets its contract: before each turn the pages of the jobs so far are carried along.
-- Assumes nothing.
use mathlib.Core.Path.{refl}
use native.Mathlib.Omega.{arith}
use Rattle.choose.specs.Steps.{PlanHeld}
use Rattle.choose.proofs.Planned.{all_held, first_periods, period_fits, next_period, all_periods}
use Rattle.choose.proofs.told.Goals.{After-periods-periods}
use Rattle.choose.proofs.told.Goals as goal

-- the periods that are gone through are the plan's
held : (c : After-periods-periods) → PlanHeld c.args.p c.args.numbers.now c.periods-periods.result.now
held c = rw c.periods-periods.ensures c.requires.held

pub loop-k-init : goal.loop-k-init
loop-k-init c = first_periods c.args.numbers.now c.periods-periods.result.now

pub bounds-numbers-k : goal.bounds-numbers-k
bounds-numbers-k c =
    let h = held (goal.at.bounds-numbers-k c).After-periods-periods in
    omega (arith, all_held h, h.valid.n_to, c.loop-k-test.true)

pub carry-written-requires : goal.carry-written-requires
carry-written-requires c =
    let fits = period_fits c.loop-k.invariant c.loop-k-test.true (held (goal.at.carry-written-requires c).After-periods-periods) in
    (fits.0, omega (arith, fits.1, fits.2), fits.3)

pub loop-k-preserved : goal.loop-k-preserved
loop-k-preserved c = rw c.carry-written.ensures (next_period c.loop-k.invariant c.loop-k-test.true)

pub returns : goal.returns
returns c =
    let exact = all_periods c.loop-k.invariant (held (goal.at.returns c).After-periods-periods) (omega (arith, c.loop-k-test.false)) in
    rw (c.padded.ensures, c.exact_need.ensures, c.loss.ensures, c.requires.its_loss, exact, c.periods-periods.ensures) refl
