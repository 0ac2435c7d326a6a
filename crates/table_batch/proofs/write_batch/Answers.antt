-- `table_batch::write_batch` meets its contract: before each turn, what is left to write ends as the whole.
-- Assumes nothing.
use Prim.Native.Nat.{◌-◌}
use native.Mathlib.Omega.{arith}
use Rattle.table_batch.specs.Batch.{with_batch}
use Rattle.table_batch.proofs.Batch.{one_written, all_written}
use Rattle.table_batch.proofs.write_batch.Goals as goal

pub loop-k-preserved : goal.loop-k-preserved
loop-k-preserved c =
    let l = c.loop-k in
    one_written c.args.rows.now c.args.end l.k c.index-rows-k.result c.words.result l.out c.put_row.new.table (with_batch c.args.rows.now c.args.end c.args.out.now) c.loop-k-test.true c.index-rows-k.is c.words.ensures c.put_row.ensures l.invariant

pub returns : goal.returns
returns c = all_written c.args.rows.now (c.args.end - c.loop-k.k) c.loop-k.k c.loop-k.out (with_batch c.args.rows.now c.args.end c.args.out.now) (omega (arith, c.loop-k-test.false)) c.loop-k.invariant
