-- A job runs at most once a second, so the floors stay within the machine's numbers.
-- Assumes nothing.
use mathlib.Core.List.{List, [], ◌∷◌}
use Prim.Native.Nat.{ℕ, ◌*◌, ◌≤◌, max}
use native.Mathlib.Omega.{arith}
use native.Mathlib.Nat.{le_refl}
use lib.ListN.{length}
use Rattle.model.specs.declared.Job.{Job}
use Rattle.model.specs.Most.{most_loss, most_rate}
use Rattle.model.proofs.Bounds.{job_loss_bound, hourly_bound}
use Rattle.model.specs.Model.{seconds}
use Rattle.model.specs.Valid.{ValidJobs}
use Rattle.step.specs.Step.{load}
use Rattle.step.proofs.Bounds.{load_bound}
use Rattle.walk.specs.Walk.{loss_floor, least_needs}

pub loss_floor_bound : (js : List Job) (t : ℕ) → ValidJobs js → loss_floor js t ≤ most_loss * length js
unfolding loss_floor
loss_floor_bound [] t v = le_refl 0
loss_floor_bound (j ∷ js) t v =
    let here = job_loss_bound j (seconds (max j.lo.0 t)) v.0 in
    let later = loss_floor_bound js t v.1 in
    omega arith

pub least_needs_bound : (greatest : ℕ) (js : List Job) → ValidJobs js → least_needs greatest js ≤ most_rate * length js
unfolding least_needs
least_needs_bound g [] v = le_refl 0
least_needs_bound g (j ∷ js) v =
    let here = hourly_bound (load g j) j.hi.0 (load_bound g j v.0) in
    let later = least_needs_bound (max g j.metadata) js v.1 in
    omega arith
