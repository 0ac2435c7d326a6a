-- A table's rows, their sixteen bytes and their fields (document 01, The table and Packing). Rows are counted from 0 here; a
-- refusal names them from 1. Cited by public contracts, through specs/Table.antt of crate table and specs/Lookup.antt of crate
-- table_lookup. Assumes nothing.
use Rattle.std.specs.Prelude.{List, [], ◌∷◌, map, ℕ, ◌*◌, ◌/◌, length, get_or, take, drop}
use Rattle.model.specs.declared.Seconds.{Seconds}
use Rattle.model.specs.declared.PagesPerHour.{PagesPerHour}
use Rattle.model.specs.declared.Profile.{Profile}
use Rattle.model.specs.Model.{seconds, pages_per_hour, entries, jobs_of, periods_of, loss, row_size}
use Rattle.codec.specs.Packing.{recut}
use Rattle.codec.specs.Layout.{byte_widths}

-- A row's fields: start, then eight periods (Packing).
abbrev pub table_widths : List ℕ
table_widths = 32 ∷ 12 ∷ 12 ∷ 12 ∷ 12 ∷ 12 ∷ 12 ∷ 12 ∷ 12 ∷ []

-- The bytes of a row; periods beyond those given are 0 (Packing).
unfoldable pub table_row : PagesPerHour → List Seconds → List ℕ
table_row start periods = recut table_widths (byte_widths row_size) (start.0 ∷ map (λ t. t.0) (entries (seconds 0) periods 0 8))

-- How many rows a table's bytes hold.
abbrev pub rows_in : List ℕ → ℕ
rows_in bytes = length bytes / row_size

-- The bytes of row k (Packing).
abbrev pub bytes_at : List ℕ → ℕ → List ℕ
bytes_at bytes k = take row_size (drop (row_size * k) bytes)

-- The fields of row k: its start, then eight periods (Packing).
unfoldable pub row_fields : List ℕ → ℕ → List ℕ
row_fields bytes k = recut (byte_widths row_size) table_widths (bytes_at bytes k)

-- Row k's start, and its eight periods (Packing).
abbrev pub start_at : List ℕ → ℕ → PagesPerHour
start_at bytes k = pages_per_hour (get_or (row_fields bytes k) 0 0)

abbrev pub periods_at : List ℕ → ℕ → List Seconds
periods_at bytes k = map seconds (drop 1 (row_fields bytes k))

-- What row k's first n periods lose (Quantities).
abbrev pub loss_at : Profile → List ℕ → ℕ → ℕ
loss_at p bytes k = loss (jobs_of p) (periods_of p (periods_at bytes k))
