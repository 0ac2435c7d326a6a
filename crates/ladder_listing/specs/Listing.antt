-- Which line of a listing comes when (document 01, The ladder program), and what preparing a listing and printing a line answer.
-- Cited by public contracts. Assumes nothing.
use Rattle.std.specs.Prelude.{◌≡◌, Result, Ok, Err, List, [], ◌++◌, cond, ℕ, zero, suc, ◌*◌, length, drop, ltb}
use Rattle.model.specs.declared.Profile.{Profile}
use Rattle.model.specs.declared.Refusal.{Refusal}
use Rattle.model.specs.Model.{periods_of, if_sound, row_size}
use Rattle.profile_read.specs.Reading.{Reads}
use Rattle.score.specs.Judging.{score_verdict}
use Rattle.table.specs.Table.{Built}
use Rattle.table_row.specs.Table.{rows_in, start_at, periods_at, loss_at}
use Rattle.ladder_line.specs.Lines.{refusal_line, header_line, row_line}
use Rattle.ladder_listing.specs.declared.Listing.{Listing}

-- Row k of a table, from 0, as a line; nothing where the table has no such row or scoring refuses its periods.
unfoldable pub line_of_row : Profile → List ℕ → ℕ → List ℕ
line_of_row p table k =
    cond (ltb k (rows_in table))
    (if_sound (score_verdict p (periods_at table k)) (row_line (start_at table k) (loss_at p table k) (periods_of p (periods_at table k))) [])
    []

-- The lines of a listing, from 0: the refusal and no other, or the header and then the rows; nothing beyond them.
unfoldable pub line_at : Result Listing Refusal → List ℕ → ℕ → List ℕ
line_at (Ok l) table zero = header_line l.profile.n l.rows
line_at (Ok l) table (suc k) = cond (ltb k l.rows) (line_of_row l.profile table k) []
line_at (Err refusal) table zero = refusal_line (Err refusal)
line_at (Err refusal) table (suc k) = []

-- What reading and then building have for an input and a lent table that held `old`: the refusal of either, which leaves the table as
-- it was, or the profile and its rows, whose number is told.
pub data Prepared (input old : List ℕ) : Result Listing Refusal → List ℕ → Type 0 where
  unread : {refusal : Refusal} → Reads input (Err refusal) → Prepared input old (Err refusal) old
  unbuilt : {p : Profile} {refusal : Refusal} {new : List ℕ} → Reads input (Ok p) → Built p old (Err refusal) new → Prepared input old (Err refusal) new
  built : {p : Profile} {rows : ℕ} {new : List ℕ} → Reads input (Ok p) → Built p old (Ok rows) new → Prepared input old (Ok (record { profile = p; rows = rows })) new

-- What `prepare` may answer, and leave of a lent table that held `old`, which is room for 4,096 rows of sixteen bytes.
pub record Prepares (input old : List ℕ) (l : Result Listing Refusal) (new : List ℕ) : Type 0 where
  pub outcome : Prepared input old l new
  pub room : length old ≡ row_size * 4096
  pub kept : length new ≡ row_size * 4096

-- What `line` may answer, and leave of a text that held `old`: the line numbered k and its length.
pub record Prints (l : Result Listing Refusal) (table : List ℕ) (k : ℕ) (old : List ℕ) (r : ℕ) (new : List ℕ) : Type 0 where
  pub size : r ≡ length (line_at l table k)
  pub text : new ≡ line_at l table k ++ drop (length (line_at l table k)) old
