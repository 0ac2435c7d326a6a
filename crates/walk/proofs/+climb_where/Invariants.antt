-- `walk::climb_where` meets its contract: before each turn of its loop, the walk from the present period up, begun with what
-- is kept, ends as the whole walk does.
-- Assumes nothing.
use mathlib.Core.Path.{◌≡◌}
use Prim.Native.Nat.{◌+◌, ◌-◌}
use lib.ListN.{length}
use Rattle.walk.proofs.Climbing.{Up}
use Rattle.walk.proofs.+climb_where.Given as goal

abbrev pub decreases-climb_where : goal.decreases-climb_where
decreases-climb_where g l = l.m.now.n - l.begun.jobs

abbrev pub invariant-loop-job : goal.invariant-loop-job
invariant-loop-job g l =
    record {
      size : length l.periods ≡ 8;
      good : g.K.KeepWhere.Good l.kept;
      up : Up (g.K.KeepWhere.update l.budget) l.m l.begun l.initial.periods l.initial.kept l.periods l.kept l.t;
    }

abbrev pub decreases-loop-job : goal.decreases-loop-job
decreases-loop-job g l = l.tries.last.0 + 1 - l.t.0
