-- A table row as the code holds it, a start and eight periods or two words, and its place after another. The contracts of the
-- functions that put rows together and cut them apart cite this, and those of no entry point. Assumes nothing.
use Rattle.std.specs.Prelude.{◌≡◌, List, ◌∷◌, map, Bool, true, ◌&&◌, ℕ, ◌+◌, ◌*◌, ◌/◌, ◌%◌, ◌^◌, ◌≤◌, length, get_or, drop, ltb, Option, Some, None}
use Rattle.model.specs.Model.{seconds, pages_per_hour}
use Rattle.codec.specs.declared.RowWords.{RowWords}
use Rattle.codec.specs.Packing.{pack, unpack}
use Rattle.table_row.specs.declared.TableRow.{TableRow}
use Rattle.table_row.specs.declared.Standing.{Standing}
use Rattle.table_row.specs.Table.{table_widths, row_fields}

-- The start and the periods among a row's fields.
abbrev pub row_of : List ℕ → TableRow
row_of fields = record { start = pages_per_hour (get_or fields 0 0); periods = map seconds (drop 1 fields) }

-- The row numbered k, from 0.
abbrev pub row_at : List ℕ → ℕ → TableRow
row_at bytes k = row_of (row_fields bytes k)

-- The two words of a start and eight periods: a row's bits, the upper and the lower half of them.
abbrev pub words_of : ℕ → List ℕ → RowWords
words_of start periods = record { high = pack table_widths (start ∷ periods) / 2 ^ 64; low = pack table_widths (start ∷ periods) % 2 ^ 64 }

-- The fields that stand in two words.
unfoldable pub word_fields : ℕ → ℕ → List ℕ
word_fields high low = unpack table_widths (high * 2 ^ 64 + low)

-- The start, which is the upper half of the first word, and the eight periods.
abbrev pub word_start : ℕ → ℕ
word_start high = high / 2 ^ 32

abbrev pub word_periods : ℕ → ℕ → List ℕ
word_periods high low = drop 1 (word_fields high low)

-- Eight periods within the hour.
pub record Fields (periods : List ℕ) : Type 0 where
  pub size : length periods ≡ 8
  pub t1 : get_or periods 0 0 ≤ 3600
  pub t2 : get_or periods 1 0 ≤ 3600
  pub t3 : get_or periods 2 0 ≤ 3600
  pub t4 : get_or periods 3 0 ≤ 3600
  pub t5 : get_or periods 4 0 ≤ 3600
  pub t6 : get_or periods 5 0 ≤ 3600
  pub t7 : get_or periods 6 0 ≤ 3600
  pub t8 : get_or periods 7 0 ≤ 3600

-- Whether a row that stands so may follow the one before it: it starts above it and loses less; the first follows none (The table).
unfoldable pub follows : Option Standing → Standing → Bool
follows None row = true
follows (Some before) row = ltb before.start.0 row.start.0 && ltb row.loss before.loss
