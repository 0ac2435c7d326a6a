-- `codec::put_row` meets its contract: within the buffer one word follows the other, and beyond it nothing is written.
-- Assumes nothing.
use Rattle.codec.proofs.Rows.{row_put, row_out}
use Rattle.codec.proofs.put_row.Goals as goal

pub returns-then-k-out : goal.returns-then-k-out
returns-then-k-out c =
    let a = c.args in
    row_put a.out.now _ _ a.k a.row.high a.row.low c.if-k-out.true c.put_word.auto.out c.put_word.ensures c.put_word-then-k-out.ensures

pub returns-else-k-out : goal.returns-else-k-out
returns-else-k-out c =
    let a = c.args in
    row_out a.out.now a.k a.row.high a.row.low c.if-k-out.false
