-- `table_check::first_bad_row` meets its contract: before each turn the rows, and a row's places, that were passed are right.
-- Assumes nothing.
use Rattle.table_check.proofs.Turns.{RowsLeft, PlacesLeft}
use Rattle.table_check.proofs.first_bad_row.Given as goal

abbrev pub invariant-loop-i : goal.invariant-loop-i
invariant-loop-i l = PlacesLeft l.p l.row.periods l.before l.written l.lost l.i

abbrev pub invariant-loop-k : goal.invariant-loop-k
invariant-loop-k l = RowsLeft l.p l.table l.last l.k
