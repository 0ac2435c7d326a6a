-- `walk_arrays::numbers_of` meets its contract: before each turn the jobs from place k on are in, and `later` is what
-- they need at least.
-- Assumes nothing.
use mathlib.Core.Path.{◌≡◌, refl, sym, ◌∙◌}
use Prim.Native.Nat.{◌-◌}
use native.Mathlib.Omega.{arith}
use lib.ListN.{get_or, length-set}
use Rattle.model.specs.Valid.{ValidJob}
use Rattle.model.proofs.Validity.{job_valid_at}
use Rattle.step.specs.Step.{load_at}
use Rattle.step.proofs.Bounds.{load_bound}
use Rattle.walk.specs.Numbers.{job_at}
use Rattle.walk.proofs.Filled.{none_needed, one_needed, one_more, needs_to}
use Rattle.walk_arrays.proofs.numbers_of.Goals.{In-loop-k}
use Rattle.walk_arrays.proofs.numbers_of.Goals as goal

pub loop-k-init : goal.loop-k-init
loop-k-init c = record { size = refl; made = record { count = refl; are = λ i from less. absurd (omega arith) }; needs = sym (none_needed c.args.p) }

-- the job whose turn it is, and its load
valid : (c : In-loop-k) → ValidJob (job_at c.args.p (c.loop-k.k - 1))
valid c = job_valid_at c.args.p (c.loop-k.k - 1) c.requires (omega arith)

its_load : (c : In-loop-k) → get_or c.loads_of-loads.result (c.loop-k.k - 1) 0 ≡ load_at c.args.p (c.loop-k.k - 1)
its_load c = c.loads_of-loads.ensures.are (c.loop-k.k - 1) (omega arith)

pub loss_pages-requires : goal.loss_pages-requires
loss_pages-requires c = valid (goal.at.loss_pages-requires c).In-loop-k

pub fastest_rate-requires : goal.fastest_rate-requires
fastest_rate-requires c = valid (goal.at.fastest_rate-requires c).In-loop-k

pub hourly_rate-requires : goal.hourly_rate-requires
hourly_rate-requires c =
    let l = (goal.at.hourly_rate-requires c).In-loop-k in
    let v = valid l in
    rw (its_load l) (load_bound _ _ v, omega (arith, v.lo_from, v.lo_to))

pub overflow_add-later : goal.overflow_add-later
overflow_add-later c =
    let l = (goal.at.overflow_add-later c).In-loop-k in
    let k = c.loop-k in
    omega (arith, one_needed c.args.p k.k c.loop-k-test.true k.auto.k (its_load l) k.invariant.needs c.hourly_rate.ensures, needs_to c.requires (k.k - 1) (omega arith))

pub loop-k-preserved : goal.loop-k-preserved
loop-k-preserved c =
    let l = (goal.at.loop-k-preserved c).In-loop-k in
    let k = c.loop-k in
    record {
      size = length-set k.jobs (k.k - 1) _ ∙ k.invariant.size;
      made = one_more c.args.p k.k c.loop-k-test.true k.auto.k (its_load l) k.invariant.needs c.loss_pages.ensures c.fastest_rate.ensures (omega arith) k.invariant.made;
      needs = one_needed c.args.p k.k c.loop-k-test.true k.auto.k (its_load l) k.invariant.needs c.hourly_rate.ensures;
    }
