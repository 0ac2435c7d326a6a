-- `table_batch::write_batch` meets its contract: before each turn, what is left to write ends as the whole.
-- Assumes nothing.
use mathlib.Core.Path.{◌≡◌}
use Prim.Native.Nat.{◌-◌}
use lib.ListN.{drop}
use Rattle.table_batch.specs.Batch.{with_batch}
use Rattle.table_batch.proofs.write_batch.Given as goal

abbrev pub invariant-loop-k : goal.invariant-loop-k
invariant-loop-k l = with_batch (drop l.k l.rows) (l.end - l.k) l.out ≡ with_batch l.rows l.end l.initial.out
