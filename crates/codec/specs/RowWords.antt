-- Rows of sixteen bytes in a lent buffer, each as two words. Cited by `put_row` and `get_row` and by what calls them; no
-- contract of an entry point cites this file. Assumes nothing.
use Rattle.std.specs.Prelude.{List, ◌++◌, cond, ℕ, ◌+◌, ◌*◌, ◌/◌, length, take, drop, ltb}
use Rattle.model.specs.Model.{row_size}
use Rattle.codec.specs.declared.RowWords.{RowWords}
use Rattle.codec.specs.Packing.{pack, unpack}
use Rattle.codec.specs.Layout.{byte_widths}

-- Two words of 64 bits as sixteen bytes, the most significant first.
unfoldable pub row_bytes : ℕ → ℕ → List ℕ
row_bytes high low = unpack (byte_widths 8) high ++ unpack (byte_widths 8) low

-- A buffer whose k-th row, counted from 0, is these sixteen bytes; unchanged where it has no such row.
unfoldable pub with_row : List ℕ → ℕ → List ℕ → List ℕ
with_row bytes k row = cond (ltb k (length bytes / row_size)) (take (row_size * k) bytes ++ (row ++ drop (row_size * k + row_size) bytes)) bytes

-- Eight bytes from a place on, as a number.
abbrev word_from : List ℕ → ℕ → ℕ
word_from bytes at = pack (byte_widths 8) (take 8 (drop at bytes))

-- The two words of a buffer's k-th row, counted from 0; zeros where it has no such row.
unfoldable pub words_at : List ℕ → ℕ → RowWords
words_at bytes k =
    cond (ltb k (length bytes / row_size)) (record { high = word_from bytes (row_size * k); low = word_from bytes (row_size * k + 8) }) (record { high = 0; low = 0 })
