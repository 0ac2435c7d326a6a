-- `choose_walk::least_need` meets its contract: before each turn of its loop, the walk from the present period down
-- ends as the whole walk does.
-- Assumes nothing.
use Prim.Native.Nat.{ℕ}
use native.Mathlib.Omega.{arith}
use Rattle.std.proofs.Common.{rules}
use Rattle.step.proofs.Fits.{need_rounded}
use Rattle.choose_walk.specs.Steps.{nothing_lost, ReadyForNeed}
use Rattle.choose_walk.proofs.Lessening.{DownTurn, down_leaf, down_starts, down_room, down_falls, down_carry, down_ends_at, down_next, down_need, down_need_to, down_turn, down_kept, down_unreached, down_done}
use Rattle.choose_walk.proofs.Lessening.{same_load, same_later, lessens_all, need_whole, need_more, need_tries, need_told, need_carries, need_ends, need_unreached}
use Rattle.choose_walk.proofs.+least_need.Goals.{In-loop-job, then-may_lessen+then-reaches, else-may_lessen, else-may_lessen-via-then-may_lessen+else-reaches, else-may_lessen-via-else-may_lessen}
use Rattle.choose_walk.proofs.+least_need.Goals as goal

pub returns-then-begun-m : goal.returns-then-begun-m
returns-then-begun-m t c =
    lessens_all c.requires _ _ (λ x. down_leaf x.ready (need_whole x c.if-begun-m.true) _ _ (rw (need_rounded _ _ c.exact_need.ensures c.rounded_up-need.ensures) at c.lessened.ensures))

pub to_try-tries-requires : goal.to_try-tries-requires
to_try-tries-requires t c = need_tries c.requires c.if-begun-m.false

pub loop-job-init : goal.loop-job-init
loop-job-init t c = λ x. down_starts x.ready (need_told x c.to_try-tries.ensures) _

-- what is known in a turn, whatever the stiffnesses
abbrev Known : (t : ℕ) → In-loop-job t → Type 0
Known t c =
    let a = c.args in
    (x : ReadyForNeed a.m.now a.begun) → DownTurn x.numbers (nothing_lost a.begun) c.to_try-tries.result a.had c.loop-job.least c.loop-job.t

facts : (t : ℕ) (c : In-loop-job t) → Known t c
facts t c =
    λ x. record {
      ready = x.ready;
      less = need_more x c.if-begun-m.false;
      told = need_told x c.to_try-tries.ensures;
      down = c.loop-job.invariant x;
      from = search rules;
    }

pub carry-written-requires : goal.carry-written-requires
carry-written-requires t c =
    let x = c.requires in
    rw (same_load x _) at (down_carry (facts t (goal.at.carry-written-requires t c).In-loop-job x))

pub need_floor-requires-clause-need_fits : goal.need_floor-requires-clause-need_fits
need_floor-requires-clause-need_fits t c =
    let x = c.requires in
    down_need (facts t (goal.at.need_floor-requires-clause-need_fits t c).In-loop-job x) (need_carries x _ c.carry-written.ensures)

pub need_floor-requires-clause-need_bound : goal.need_floor-requires-clause-need_bound
need_floor-requires-clause-need_bound t c =
    let x = c.requires in
    rw (same_later x _) at (down_need_to (facts t (goal.at.need_floor-requires-clause-need_bound t c).In-loop-job x) (need_carries x _ c.carry-written.ensures))

pub reaches-requires : goal.reaches-requires
reaches-requires t c = need_ends c.requires (down_ends_at (facts t (goal.at.reaches-requires t c).In-loop-job c.requires))

pub least_need-least-requires : goal.least_need-least-requires
least_need-least-requires t c =
    let x = c.requires in
    let d = facts t (goal.at.least_need-least-requires t c).In-loop-job x in
    (omega (arith, d.less, x.same.count), record { numbers = x.numbers; same = x.same; ready = down_next d (need_carries x _ c.carry-written.ensures) })

pub overflow_sub-t : goal.overflow_sub-t
overflow_sub-t t c = down_room (facts t (goal.at.overflow_sub-t t c).In-loop-job c.requires)

pub loop-job-smaller : goal.loop-job-smaller
loop-job-smaller t c = down_falls (facts t (goal.at.loop-job-smaller t c).In-loop-job c.requires)

pub loop-job-preserved : goal.loop-job-preserved
loop-job-preserved t c =
    λ x.
    let d = facts t (goal.at.loop-job-preserved t c).In-loop-job x in
    let carries = need_carries x _ c.carry-written.ensures in
    elim c.if-may_lessen.branch [
      | then-may_lessen+then-reaches w ↦ rw w.least-is (down_turn d carries (w.least_need-least.ensures x.numbers x.same))
      | else-may_lessen w ↦ rw w.least-is (
          elim w.else-may_lessen.branch [
            | else-may_lessen-via-then-may_lessen+else-reaches v ↦ down_unreached d (need_unreached x _ (v.reaches.ensures v.if-reaches.false))
            | else-may_lessen-via-else-may_lessen v ↦ down_kept d carries (rw (same_later x _) (rw c.need_floor.ensures at (c.may_lessen.ensures v.if-may_lessen.false)))
          ])
    ]

pub returns : goal.returns
returns t c =
    lessens_all c.requires _ _ (λ x. down_done x.ready (need_told x c.to_try-tries.ensures) (need_more x c.if-begun-m.false) (c.loop-job.invariant x) (search rules))
