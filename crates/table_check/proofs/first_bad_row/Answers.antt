-- Each way out of the loops and each turn is a law of Turns.antt: what was passed is right, and the first rule that fails makes the row bad.
-- Assumes nothing.
use Prim.Native.Nat.{◌<◌, zero-le}
use mathlib.Core.Path.{◌≡◌, ◌∙◌, sym, ap}
use mathlib.Core.Bool.{true, not}
use native.Mathlib.Omega.{arith}
use lib.ListN.{get_or}
use borrow.Author.Tests.{not-true, not-false, eqb-true}
use Rattle.std.proofs.lemmas.Bool.{eqb-false}
use Rattle.model.specs.Model.{seconds, no_job}
use Rattle.model.specs.Testing.{allows}
use Rattle.model.proofs.Validity.{job_valid_at}
use Rattle.model.proofs.Allowing.{allowed}
use Rattle.step.specs.Step.{load_at}
use Rattle.step.proofs.Bounds.{load_bound}
use Rattle.step.proofs.Fits.{need_rounded}
use Rattle.step.proofs.Along.{along_fits, along_loss_fits}
use Rattle.walk.specs.declared.JobNumbers.{JobNumbers}
use Rattle.walk.specs.Numbers.{numbers_at}
use Rattle.table_check.proofs.Turns.{Scanned, first_places, place_off, next_place, next_zero, scanned_row, no_more, place_fails, zero_fails, start_fails, order_fails, next_row}
use Rattle.table_check.proofs.first_bad_row.Goals.{After-rounded_up, At-loop-i, Else-not-allowed}
use Rattle.table_check.proofs.first_bad_row.Goals as goal

-- a period that did not leave the loops is allowed
passed : (c : Else-not-allowed) → allows (get_or c.args.p.jobs c.loop-i.i no_job) c.loop-i.before (get_or c.row_at-row.result.periods c.loop-i.i (seconds 0)) ≡ true
passed c = sym c.allowed.ensures ∙ c.if-not-allowed.false

-- past the loop over a row's periods its need and its loss are known
scanned : (c : After-rounded_up) → Scanned c.args.p c.args.table.now c.loop-k.k c.row_at-row.result c.rounded_up.result c.loop-i.lost
scanned c = rw (need_rounded _ _ c.exact_need.ensures c.rounded_up.ensures) (scanned_row c.requires c.row_at-row.ensures c.loop-i.invariant (omega arith))

-- the pages for need of the job at hand
own : (c : At-loop-i) → c.loop-i.i < c.args.p.n → (numbers_at c.numbers_of-numbers.result c.loop-i.i).load ≡ load_at c.args.p c.loop-i.i
own c less = ap (λ (j : JobNumbers). j.load) (c.numbers_of-numbers.ensures.are c.loop-i.i zero-le less)

pub loop-i-init : goal.loop-i-init
loop-i-init c = first_places _ _

-- a zero beyond the jobs
pub loop-i-preserved-then-n-i : goal.loop-i-preserved-then-n-i
loop-i-preserved-then-n-i c = next_zero c.loop-i.invariant c.if-n-i.true (omega arith) (eqb-true _ _ (not-false _ (sym c.ne.ensures ∙ c.if-ne.false)))

pub carry-written-requires : goal.carry-written-requires
carry-written-requires c =
    let at = goal.at.carry-written-requires c in
    let j = job_valid_at _ c.loop-i.i c.requires c.if-n-i.false in
    (along_fits c.loop-i.invariant.along, omega (arith, (allowed _ c.loop-i.before _ (passed at.Else-not-allowed)).below, j.hi_to), rw (own at.At-loop-i c.if-n-i.false) (load_bound _ _ j))

pub loss_with-lost-requires : goal.loss_with-lost-requires
loss_with-lost-requires c =
    let fastest = ap (λ (j : JobNumbers). j.fastest) (c.numbers_of-numbers.ensures.are c.loop-i.i zero-le c.if-n-i.false) in (
      job_valid_at _ c.loop-i.i c.requires c.if-n-i.false,
      (allowed _ c.loop-i.before _ (passed (goal.at.loss_with-lost-requires c).Else-not-allowed)).above,
      fastest,
    )

pub overflow_add-lost : goal.overflow_add-lost
overflow_add-lost c =
    omega (arith, along_loss_fits c.loop-i.invariant.along c.requires c.if-n-i.false (get_or c.row_at-row.result.periods c.loop-i.i (seconds 0)), c.loss_with-lost.ensures)

-- a job's period
pub loop-i-preserved : goal.loop-i-preserved
loop-i-preserved c =
    let at = goal.at.loop-i-preserved c in
    rw (c.carry-written.ensures, own at.At-loop-i c.if-n-i.false, c.loss_with-lost.ensures) (next_place c.requires c.loop-i.invariant c.if-n-i.false (passed at.Else-not-allowed))

pub loop-k-preserved : goal.loop-k-preserved
loop-k-preserved c =
    next_row c.loop-k.invariant c.loop-k-test.true (scanned (goal.at.loop-k-preserved c).After-rounded_up) (eqb-true _ _ (not-false _ (sym c.ne-in-loop-k.ensures ∙ c.if-ne-2.false))) c.may_follow.ensures (ap not c.if-not-may_follow.false)

pub returns-after-loop-k : goal.returns-after-loop-k
returns-after-loop-k c = no_more c.loop-k.invariant (omega arith)

pub returns-then-ne : goal.returns-then-ne
returns-then-ne c = zero_fails c.loop-k.invariant c.loop-k-test.true c.row_at-row.ensures c.if-n-i.true (omega arith) (eqb-false _ _ (not-true _ (sym c.ne.ensures ∙ c.if-ne.true)))

pub returns-then-not-allowed : goal.returns-then-not-allowed
returns-then-not-allowed c =
    let off = place_off c.requires c.loop-i.invariant c.if-n-i.false (sym c.allowed.ensures ∙ c.if-not-allowed.true) in
    place_fails c.loop-k.invariant c.loop-k-test.true c.row_at-row.ensures off

pub returns-then-ne-2 : goal.returns-then-ne-2
returns-then-ne-2 c =
    start_fails c.loop-k.invariant c.loop-k-test.true (scanned (goal.at.returns-then-ne-2 c).After-rounded_up) (eqb-false _ _ (not-true _ (sym c.ne-in-loop-k.ensures ∙ c.if-ne-2.true)))

pub returns-then-not-may_follow : goal.returns-then-not-may_follow
returns-then-not-may_follow c =
    order_fails c.loop-k.invariant c.loop-k-test.true (scanned (goal.at.returns-then-not-may_follow c).After-rounded_up) c.may_follow.ensures (ap not c.if-not-may_follow.true)
