-- Where the rows of a batch stand in a lent buffer. Cited by the contract of `write_batch`. Assumes nothing.
use Rattle.std.specs.Prelude.{List, [], ◌∷◌, ℕ, ◌-◌}
use Rattle.model.specs.Model.{pages_per_hour}
use Rattle.codec.specs.RowWords.{with_row}
use Rattle.table_row.specs.Table.{table_row}
use Rattle.table_stairs.specs.Stairs.{Stair}

-- The table row of a plan.
abbrev pub batch_row : Stair → List ℕ
batch_row r = table_row (pages_per_hour r.its_need) r.periods

-- A buffer with the rows of a batch in the places before `end`, from the back.
unfoldable pub with_batch : List Stair → ℕ → List ℕ → List ℕ
with_batch [] end out = out
with_batch (r ∷ rows) end out = with_batch rows (end - 1) (with_row out (end - 1) (batch_row r))
