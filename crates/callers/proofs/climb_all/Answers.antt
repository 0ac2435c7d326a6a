-- `callers::climb_all` meets its contract: the numbers hold the jobs, and what is kept is what the walk makes of it.
-- Assumes nothing.
use Rattle.model.specs.Model.{jobs_of}
use Rattle.walk.proofs.Filled.{all_held}
use Rattle.walk.proofs.Cuts.{ready_start}
use Rattle.callers.proofs.climb_all.Goals as goal

pub climb-requires-clause-ready : goal.climb-requires-clause-ready
climb-requires-clause-ready g c = ready_start (all_held c.requires.valid c.numbers_of-numbers.ensures)

pub returns : goal.returns
returns g c = c.climb.ensures.walked.is 0 (jobs_of c.args.p) (all_held c.requires.valid c.numbers_of-numbers.ensures)
