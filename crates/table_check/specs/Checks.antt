-- What the check of a lent table's rows answers. No contract of an entry point cites this. Assumes nothing.
use Rattle.std.specs.Prelude.{List, ℕ, ◌+◌, ◌<◌, Option, Some, None}
use Rattle.model.specs.declared.Profile.{Profile}
use Rattle.table_row.specs.Table.{rows_in}
use Rattle.table_check.specs.Formed.{GoodRow, FirstBadRow}

-- The number of the first bad row, counted from 1; none where every row is good.
pub data Checked (p : Profile) (bytes : List ℕ) : Option ℕ → Type 0 where
  all_good : ((k : ℕ) → k < rows_in bytes → GoodRow p bytes k) → Checked p bytes None
  first_bad : {k : ℕ} → FirstBadRow p bytes k → Checked p bytes (Some (k + 1))
