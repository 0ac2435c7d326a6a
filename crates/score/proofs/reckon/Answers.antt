-- `score::reckon` meets its contract: before each turn the periods that were passed are allowed, and what they add is carried along.
-- Assumes nothing.
use mathlib.Core.Path.{sym}
use Rattle.model.proofs.Allowing.{allowed}
use Rattle.step.proofs.Along.{along_loss_fits}
use Rattle.score.proofs.Turns.{first_jobs, period_out, next_job}
use Rattle.score.proofs.reckon.Goals as goal

pub loop-k-init : goal.loop-k-init
loop-k-init c = first_jobs _ _

pub overflow_add-lost : goal.overflow_add-lost
overflow_add-lost c = rw c.loss_with-lost.ensures (record { fits = along_loss_fits c.loop-k.invariant.along c.requires c.loop-k-test.true _ })

pub loop-k-preserved : goal.loop-k-preserved
loop-k-preserved c =
    let own = c.loads_of-loads.ensures.are c.loop-k.k c.loop-k-test.true in
    let passed = allowed _ c.loop-k.before _ (sym c.if-not-allowed.ensures) in
    rw (c.carry-written.ensures, own, c.loss_with-lost.ensures) (next_job c.loop-k.invariant c.loop-k-test.true c.requires passed)

pub returns-then-not-allowed : goal.returns-then-not-allowed
returns-then-not-allowed c = period_out c.loop-k.invariant c.loop-k-test.true (sym c.if-not-allowed.ensures)
