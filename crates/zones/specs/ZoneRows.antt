-- What the functions that write zone rows promise: the two words of a row, and the rows in a buffer. No public contract
-- cites this. Assumes nothing.
use Rattle.std.specs.Prelude.{◌≡◌, List, ◌++◌, ℕ, ◌+◌, ◌*◌, ◌/◌, ◌%◌, ◌^◌, ◌≤◌, length, get_or, drop}
use Rattle.model.specs.Model.{row_size}
use Rattle.zone_walk.specs.Zone.{Zone}
use Rattle.zones.specs.Zones.{rows_of}

-- The two words of a zone's row: a5 stands in both.
abbrev pub high_word : Zone → ℕ
high_word z =
    let a : ℕ → ℕ = λ j. get_or z.multipliers j 0 in
    z.least.0 * 2 ^ 52 + z.greatest.0 * 2 ^ 40 + a 1 * 2 ^ 28 + a 2 * 2 ^ 16 + a 3 * 2 ^ 4 + a 4 / 2 ^ 8

abbrev pub low_word : Zone → ℕ
low_word z =
    let a : ℕ → ℕ = λ j. get_or z.multipliers j 0 in
    a 4 % 2 ^ 8 * 2 ^ 56 + a 5 * 2 ^ 44 + a 6 * 2 ^ 32 + a 7 * 2 ^ 20

-- A walk through all zones: their number, and where the buffer has room for all of them their rows at its front.
pub record Wrote (all : List Zone) (old new : List ℕ) (r : ℕ) : Type 0 where
  pub count : r ≡ length all
  pub bytes : length all ≤ length old / row_size → new ≡ rows_of all ++ drop (row_size * length all) old
