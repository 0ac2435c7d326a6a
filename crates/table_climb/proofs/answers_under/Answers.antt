-- `table_climb::answers_under` meets its contract: the numbers are those of the jobs, so what the walk collects are the next answers.
-- Assumes nothing.
use mathlib.Core.Path.{◌∙◌, ap}
use Prim.Native.Nat.{◌≤◌}
use native.Mathlib.Omega.{arith}
use lib.ListN.{length}
use Rattle.model.specs.Model.{no_job, jobs_of}
use Rattle.model.proofs.Entries.{length_entries}
use Rattle.walk.specs.Walk.{start, walk}
use Rattle.walk.proofs.Filled.{all_held}
use Rattle.walk.proofs.Cuts.{ready_start}
use Rattle.table_stairs.specs.Stairs.{most, enter}
use Rattle.table_climb.proofs.Next.{walk_stairs}
use Rattle.table_climb.proofs.answers_under.Goals as goal

pub climb_where-requires-clause-ready : goal.climb_where-requires-clause-ready
climb_where-requires-clause-ready c = ready_start (all_held c.requires c.numbers_of-numbers.ensures)

pub returns : goal.returns
returns c =
    let p = c.args.p in
    let js = jobs_of p in
    let few : length js ≤ 8 = omega (arith, length_entries no_job p.jobs 0 p.n, c.requires.n_to) in
    let walked = c.climb_where.ensures.walked.is 0 js (all_held c.requires c.numbers_of-numbers.ensures) ∙ ap (walk (enter most c.args.budget.0) js start) c.new-stairs.ensures in
    rw walked (walk_stairs js most c.args.budget c.requires.jobs few (omega arith))
