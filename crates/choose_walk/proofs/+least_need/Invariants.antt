-- `choose_walk::least_need` meets its contract: before each turn of its loop, the walk from the present period down
-- ends as the whole walk does.
-- Assumes nothing.
use Prim.Native.Nat.{◌-◌}
use Rattle.choose_walk.proofs.Lessening.{DownForNeed}
use Rattle.choose_walk.proofs.+least_need.Given as goal

abbrev pub decreases-least_need : goal.decreases-least_need
decreases-least_need l = l.m.now.n - l.begun.jobs

abbrev pub invariant-loop-job : goal.invariant-loop-job
invariant-loop-job l = DownForNeed l.m l.begun l.initial.least l.least l.t

abbrev pub decreases-loop-job : goal.decreases-loop-job
decreases-loop-job l = l.t.0
