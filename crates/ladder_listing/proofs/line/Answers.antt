-- `ladder_listing::line` meets its contract: each way out puts the line that is due there.
-- Assumes nothing.
use Rattle.ladder_listing.proofs.Printing.{refusal_printed, header_printed, row_printed, none_beyond, none_beside}
use Rattle.ladder_listing.proofs.line.Goals as goal

pub returns-in-Ok-clause-prints : goal.returns-in-Ok-clause-prints
returns-in-Ok-clause-prints c = rw c.in-Ok.is (header_printed c.if-k-eq0.true c.header_line.ensures)

pub returns-in-Ok-2-clause-prints : goal.returns-in-Ok-2-clause-prints
returns-in-Ok-2-clause-prints c = rw c.in-Ok-2.is (row_printed c.if-k-eq0.false c.if-k-l.true c.row_line.ensures)

pub returns-in-Err-clause-prints : goal.returns-in-Err-clause-prints
returns-in-Err-clause-prints c = rw c.in-Err.is (refusal_printed c.if-k-eq0-2.true c.refusal_line.ensures)

pub returns-in_default-clause-prints : goal.returns-in_default-clause-prints
returns-in_default-clause-prints c = rw c.in-Ok-2.is (none_beyond c.if-k-l.false)

pub returns-in_default-2-clause-prints : goal.returns-in_default-2-clause-prints
returns-in_default-2-clause-prints c = rw c.in-Err.is (none_beside c.if-k-eq0-2.false)
