-- `exchange::profile` meets its contract: after the last turn all eight jobs are.
-- Assumes nothing.
use mathlib.Core.Path.{ap}
use mathlib.Core.List.{List}
use Prim.Native.Nat.{◌*◌}
use native.Mathlib.Omega.{arith}
use Rattle.std.proofs.lemmas.List.FromFn.{fill_by_all}
use Rattle.model.specs.declared.Job.{Job}
use Rattle.model.specs.declared.Profile.{Profile}
use Rattle.model.specs.Model.{no_job}
use Rattle.exchange.specs.Numbers.{job_in}
use Rattle.exchange.proofs.profile.Goals as goal

pub returns : goal.returns
returns c =
    let l = c.loop-k in
    ap {B = Profile} (λ (jobs : List Job). record { n = c.args.n; jobs = jobs })
    (fill_by_all (λ k. job_in c.args.jobs.now (5 * k)) l.eight 8 no_job l.invariant.0 (λ k h. l.invariant.1 k (omega arith)))
