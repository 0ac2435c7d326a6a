-- `zone_walk::Walk::next_zone` meets its contract: after a zone the last job's next multiplier is tried; one job alone
-- has one zone.
-- Assumes nothing.
use Prim.Native.Nat.{◌-◌}
use native.Mathlib.Omega.{arith}
use Rattle.zone_walk.proofs.Steps.{at_first, go_back, went_on, ended}
use Rattle.zone_walk.proofs.Walk.next_zone.Goals as goal

pub returns-then-last-eq0 : goal.returns-then-last-eq0
returns-then-last-eq0 c =
    let w = c.args.self.now in
    ended w (at_first w w.intervals.n (w.intervals.n - 1) (omega (arith, c.requires.from)) c.if-last-eq0.true)

pub returns : goal.returns
returns c =
    let w = c.args.self.now in
    went_on (go_back w w.intervals.n (w.intervals.n - 1) (omega (arith, c.requires.from)) c.if-last-eq0.false) c.try_multiplier.ensures
