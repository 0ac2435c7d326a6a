-- `table::write_rows` meets its contract: before each turn the rows seen and the rows up to the budget are all rows.
-- Assumes nothing.
use mathlib.Core.Path.{refl}
use native.Mathlib.Omega.{arith}
use Rattle.table.proofs.Turns.{none_seen, few_seen, all_seen, budgets_seen, none_fits, found_before, batch_told}
use Rattle.table.proofs.write_rows.Goals as goal

pub loop-seen-init : goal.loop-seen-init
loop-seen-init c = none_seen _ _ _

pub write_next-requires-clause-room : goal.write_next-requires-clause-room
write_next-requires-clause-room c = λ rows a. found_before c.requires.valid c.loop-seen.invariant a c.requires.all_budgets_len_bound

pub returns-in_default : goal.returns-in_default
returns-in_default c = rw c.in_default.ensures.1 (none_fits c.requires.valid c.loop-seen.invariant c.in_default.ensures.0)

pub overflow_add-seen : goal.overflow_add-seen
overflow_add-seen c = omega (arith, few_seen (batch_told c.requires.valid c.loop-seen.invariant c.in-Some.ensures c.write_next.auto.out refl))

pub returns-then-batch-eq0 : goal.returns-then-batch-eq0
returns-then-batch-eq0 c = budgets_seen (batch_told c.requires.valid c.loop-seen.invariant c.in-Some.ensures c.write_next.auto.out (omega (arith, c.if-batch-eq0.true)))

pub loop-seen-preserved : goal.loop-seen-preserved
loop-seen-preserved c = batch_told c.requires.valid c.loop-seen.invariant c.in-Some.ensures c.write_next.auto.out (omega (arith, c.if-batch-eq0.false))

pub returns : goal.returns
returns c = all_seen c.loop-seen.invariant (omega (arith, c.loop-seen.invariant.total, c.requires.all_budgets_len_bound, c.loop-seen-test.false))
