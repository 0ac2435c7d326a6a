-- `ladder_listing::row_line` meets its contract: nothing where there is no such row or scoring refuses it, else the row's line.
-- Assumes nothing.
use Rattle.ladder_listing.proofs.RowLines.{no_row_put, refused_put, row_put}
use Rattle.ladder_listing.proofs.row_line.Goals as goal

pub returns-then-table-k : goal.returns-then-table-k
returns-then-table-k c = no_row_put _ _ _ c.if-table-k.true

pub returns-in_default : goal.returns-in_default
returns-in_default c = refused_put _ _ _ c.if-table-k.false c.row_at-row.ensures (rw c.in_default.is at c.score.ensures)

pub returns : goal.returns
returns c = row_put _ _ _ c.if-table-k.false c.row_at-row.ensures (rw c.in-Ok.is at c.score.ensures) c.put_row.ensures
