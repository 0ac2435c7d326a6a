-- `table::write_rows` meets its contract: before each turn the rows seen and the rows up to the budget are all rows.
-- Assumes nothing.
use Prim.Native.Nat.{suc, ◌-◌}
use Rattle.model.specs.Model.{jobs_of}
use Rattle.table.proofs.Turns.{Seen}
use Rattle.table.proofs.write_rows.Given as goal

abbrev pub invariant-loop-seen : goal.invariant-loop-seen
invariant-loop-seen l = Seen (jobs_of l.p) l.end l.initial.out l.out l.seen (suc l.budget.0)

abbrev pub decreases-loop-seen : goal.decreases-loop-seen
decreases-loop-seen l = l.end - l.seen
