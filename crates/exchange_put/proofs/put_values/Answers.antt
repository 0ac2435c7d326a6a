-- `exchange_put::put_values` meets its contract: n, then before each turn the jobs from the i-th on are left to store.
-- Assumes nothing.
use mathlib.Core.Path.{ap}
use mathlib.Core.List.{flat_map}
use Prim.Native.Nat.{◌+◌}
use lib.ListN.{get_or}
use Rattle.model.specs.Model.{no_job}
use Rattle.model.proofs.Entries.{entries_step, entries_end}
use Rattle.exchange.specs.Numbers.{job_numbers, jobs_numbers, numbers_of}
use Rattle.exchange_put.proofs.Stores.{run_stored, all_stored}
use native.Mathlib.Omega.{arith}
use Rattle.exchange_put.proofs.put_values.Invariants.{left}
use Rattle.exchange_put.proofs.put_values.Goals as goal

pub loop-i-preserved : goal.loop-i-preserved
unfolding jobs_numbers flat_map
loop-i-preserved c =
    let l = c.loop-i in
    let js = c.args.p.jobs in
    let parts = ap jobs_numbers (entries_step no_job js l.i 8 (omega arith)) in
    run_stored (job_numbers (get_or js l.i no_job)) (left js (l.i + 1)) parts c.put_job.ensures (omega arith) l.invariant

pub returns : goal.returns
unfolding numbers_of jobs_numbers flat_map
returns c =
    let l = c.loop-i in
    all_stored (ap jobs_numbers (entries_end no_job c.args.p.jobs l.i 8 (omega arith))) l.invariant
