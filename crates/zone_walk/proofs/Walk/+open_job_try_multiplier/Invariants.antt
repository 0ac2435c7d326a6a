-- `zone_walk::Walk::open_job` and `try_multiplier` meet their contracts: each call leaves the same zones to come, and less
-- to try. What is left to try is a number with a digit for each job, how far its multiplier is from the end; a digit
-- outweighs all digits after it.
-- Assumes nothing.
use Rattle.zone_walk.proofs.Steps.{open_left, try_left}
use Rattle.zone_walk.proofs.Walk.+open_job_try_multiplier.Given as goal

abbrev pub decreases-open_job : goal.decreases-open_job
decreases-open_job l = open_left l.self.now.places l.i

abbrev pub decreases-try_multiplier : goal.decreases-try_multiplier
decreases-try_multiplier l = try_left l.self.now.places l.i l.m
