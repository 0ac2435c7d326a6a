-- `walk::climb_where` meets its contract: before each turn of its loop, the walk from the present period up, begun with what
-- is kept, ends as the whole walk does.
-- Assumes nothing.
use mathlib.Core.Path.{◌≡◌, ap}
use Prim.Native.Nat.{ℕ, ◌+◌, ◌<◌}
use lib.ListN.{length}
use native.Mathlib.Omega.{arith}
use Rattle.std.proofs.Common.{rules}
use Rattle.step.specs.Step.{need_at}
use Rattle.walk.specs.Numbers.{numbers_at}
use Rattle.walk.specs.Steps.{loss_held}
use Rattle.walk.proofs.Cuts.{ready_more, ready_tries}
use Rattle.walk.proofs.Climbing.{Turn, up_leaf, up_starts, up_done, up_next_to, up_loss_fits, up_later, up_ends, up_first, up_carry, up_lost}
use Rattle.walk.proofs.Climbing.{up_floor, up_left, up_pass, up_unreached, up_kept, up_next, up_need, up_need_to, up_turn, hour_set}
use Rattle.walk.proofs.+climb_where.Given.{Over}
use Rattle.walk.proofs.+climb_where.Goals.{In-loop-job, After-loss_at, else-could_take-via-then-could_take+else-reaches, else-could_take-via-else-could_take}
use Rattle.walk.proofs.+climb_where.Goals as goal

pub returns-then-begun-m-clause-walked : goal.returns-then-begun-m-clause-walked
unfolding need_at
returns-then-begun-m-clause-walked g t c =
    up_leaf c.requires.ready c.if-begun-m.true (rw c.exact_need-need.ensures at c.offer.ensures.taken)

pub to_try-tries-requires : goal.to_try-tries-requires
to_try-tries-requires g t c =
    let r = c.requires.ready in
    ready_tries r (ready_more r c.if-begun-m.false)

pub loop-job-init : goal.loop-job-init
loop-job-init g t c = record { size = search rules; good = c.requires.good; up = up_starts c.requires.ready c.to_try-tries.ensures }

-- what is known in a turn
abbrev Known : (g : Over) (t : ℕ) → In-loop-job g t → Type 0
Known g t c =
    let l = c.loop-job in
    let a = c.args in
    Turn (g.K.KeepWhere.update a.budget) a.m.now a.begun g.K.KeepWhere.Good c.to_try-tries.result a.periods.now a.kept.now l.periods l.kept l.t

facts : (g : Over) (t : ℕ) (c : In-loop-job g t) → Known g t c
facts g t c =
    record {
      ready = c.requires.ready;
      less = ready_more c.requires.ready c.if-begun-m.false;
      told = c.to_try-tries.ensures;
      up = c.loop-job.invariant.up;
      on = search rules;
      absorbs = g.met.K.KeepWhere.absorbs c.args.budget;
      good = c.loop-job.invariant.good;
    }

pub loss_at-requires : goal.loss_at-requires
loss_at-requires g t c = up_loss_fits (facts g t c)

-- the loss with this job's
own : (g : Over) (t : ℕ) (c : After-loss_at g t) → c.args.begun.lost + c.loss_at.result ≡ c.args.begun.lost + loss_held (numbers_at c.args.m.now c.args.begun.jobs) c.loop-job.t
own g t c = ap (λ (x : ℕ). c.args.begun.lost + x) c.loss_at.ensures

pub overflow_add-lost : goal.overflow_add-lost
overflow_add-lost g t c =
    let at = goal.at.overflow_add-lost g t c in
    omega (arith, up_lost (facts g t at.In-loop-job) (own g t at.After-loss_at))

pub loss_floor-requires : goal.loss_floor-requires
loss_floor-requires g t c = up_later (facts g t (goal.at.loss_floor-requires g t c).In-loop-job)

pub overflow_add-floor : goal.overflow_add-floor
overflow_add-floor g t c =
    let at = goal.at.overflow_add-floor g t c in
    omega (arith, up_floor (facts g t at.In-loop-job) (own g t at.After-loss_at) c.loss_floor.ensures)

pub is_done-requires-clause-floor_bound : goal.is_done-requires-clause-floor_bound
is_done-requires-clause-floor_bound g t c =
    let at = goal.at.is_done-requires-clause-floor_bound g t c in
    omega (arith, up_floor (facts g t at.In-loop-job) (own g t at.After-loss_at) c.loss_floor.ensures)

pub returns-then-is_done-clause-walked : goal.returns-then-is_done-clause-walked
returns-then-is_done-clause-walked g t c =
    let at = goal.at.returns-then-is_done-clause-walked g t c in
    up_left (facts g t at.In-loop-job) (own g t at.After-loss_at) c.loss_floor.ensures (c.is_done.ensures c.if-is_done.true c.args.budget)

pub overflow_add-next : goal.overflow_add-next
overflow_add-next g t c = omega (arith, up_next_to (facts g t (goal.at.overflow_add-next g t c).In-loop-job))

pub repeats-requires-clause-first_bound : goal.repeats-requires-clause-first_bound
repeats-requires-clause-first_bound g t c = up_first (facts g t (goal.at.repeats-requires-clause-first_bound g t c).In-loop-job)

pub loop-job-preserved-then-repeats : goal.loop-job-preserved-then-repeats
loop-job-preserved-then-repeats g t c =
    let l = c.loop-job.invariant in
    record { size = l.size; good = l.good; up = up_pass (facts g t (goal.at.loop-job-preserved-then-repeats g t c).In-loop-job) (c.repeats.ensures c.if-repeats.true) }

pub carry-written-requires : goal.carry-written-requires
carry-written-requires g t c = up_carry (facts g t (goal.at.carry-written-requires g t c).In-loop-job)

pub need_floor-requires-clause-need_fits : goal.need_floor-requires-clause-need_fits
need_floor-requires-clause-need_fits g t c =
    let at = goal.at.need_floor-requires-clause-need_fits g t c in
    up_need (facts g t at.In-loop-job) (own g t at.After-loss_at) c.carry-written.ensures

pub need_floor-requires-clause-need_bound : goal.need_floor-requires-clause-need_bound
need_floor-requires-clause-need_bound g t c =
    let at = goal.at.need_floor-requires-clause-need_bound g t c in
    up_need_to (facts g t at.In-loop-job) (own g t at.After-loss_at) c.carry-written.ensures

pub could_take-requires-clause-floor_bound : goal.could_take-requires-clause-floor_bound
could_take-requires-clause-floor_bound g t c =
    let at = goal.at.could_take-requires-clause-floor_bound g t c in
    omega (arith, up_floor (facts g t at.In-loop-job) (own g t at.After-loss_at) c.loss_floor.ensures)

pub reaches-requires : goal.reaches-requires
reaches-requires g t c = up_ends (facts g t (goal.at.reaches-requires g t c).In-loop-job)

pub climb_where-requires : goal.climb_where-requires
climb_where-requires g t c κs within =
    let at = goal.at.climb_where-requires g t c in
    let u = facts g t at.In-loop-job in
    let ready = up_next u (own g t at.After-loss_at) c.carry-written.ensures in
    let place : c.args.begun.jobs < length c.loop-job.periods = omega (arith, c.loop-job.invariant.size, u.less, u.ready.held.most) in
    let each = hour_set g.K.KeepWhere.Keepable g.met.K.KeepWhere.keeps_periods c.loop-job.periods c.args.begun.jobs c.loop-job.t place ready.from ready.to (rw u.up.before c.requires.keepable) in
    (omega (arith, u.less), (within, (ready, (each, c.loop-job.invariant.good))))

pub loop-job-preserved-then-reaches : goal.loop-job-preserved-then-reaches
loop-job-preserved-then-reaches g t c =
    let at = goal.at.loop-job-preserved-then-reaches g t c in
    let u = facts g t at.In-loop-job in
    let w = c.climb_where.ensures in
    let place : c.args.begun.jobs < length c.loop-job.periods = omega (arith, c.loop-job.invariant.size, u.less, u.ready.held.most) in
    record { size = omega arith; good = w.good; up = up_turn u (own g t at.After-loss_at) c.carry-written.ensures place w.walked }

pub loop-job-preserved : goal.loop-job-preserved
loop-job-preserved g t c =
    let at = goal.at.loop-job-preserved g t c in
    let u = facts g t at.In-loop-job in
    let l = c.loop-job.invariant in
    elim c.else-could_take.branch [
      | else-could_take-via-then-could_take+else-reaches w ↦ record { size = l.size; good = l.good; up = up_unreached u (w.reaches.ensures w.if-reaches.false) }
      | else-could_take-via-else-could_take w ↦
          (let keeps = rw c.need_floor.ensures at (c.could_take.ensures w.if-could_take.false) in
          record { size = l.size; good = l.good; up = up_kept u (own g t at.After-loss_at) c.loss_floor.ensures c.carry-written.ensures keeps })
    ]

pub returns-clause-walked : goal.returns-clause-walked
returns-clause-walked g t c =
    let r = c.requires.ready in
    up_done r c.to_try-tries.ensures (ready_more r c.if-begun-m.false) c.loop-job.invariant.up (search rules)
