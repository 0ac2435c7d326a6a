-- `table_lookup::last_within` meets its contract: before each turn the starts from row k on are above the budget.
-- Assumes nothing.
use Rattle.table_lookup.proofs.LastWithin.{Above}
use Rattle.table_lookup.proofs.last_within.Given as goal

abbrev pub invariant-loop-k : goal.invariant-loop-k
invariant-loop-k l = Above l.table l.budget l.k
