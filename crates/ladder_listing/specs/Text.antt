-- The whole text that the ladder program prints for an input (document 01, The ladder program), stated with the model alone.
-- proofs/OneText.antt shows that there is one and no other, and proofs/WholeText.antt that the lines of a listing are it.
-- Assumes nothing.
use Rattle.std.specs.Prelude.{◌≡◌, ◌↔◌, Result, Ok, Err, List, [], ◌∷◌, ◌++◌, ℕ, zero, suc, ◌*◌, length}
use Rattle.model.specs.declared.Seconds.{Seconds}
use Rattle.model.specs.declared.Job.{Job}
use Rattle.model.specs.declared.Profile.{Profile}
use Rattle.model.specs.declared.Refusal.{Refusal}
use Rattle.model.specs.Model.{Verdict, sound, jobs_of, Permitted, need, loss, or_else, verdict_of, row_size, count_verdict}
use Rattle.profile_read.specs.Reading.{Reads}
use Rattle.table.specs.Table.{TableOf}
use Rattle.ladder_listing.specs.declared.Listing.{Listing}
use Rattle.ladder_line.specs.Lines.{refusal_line, header_line, row_line}
use Rattle.ladder_listing.specs.Listing.{line_at}

-- The lines of rows: the need of each as its start, its loss and its periods.
unfoldable pub row_lines : List Job → List (List Seconds) → List ℕ
row_lines js [] = []
row_lines js (ts ∷ rows) = row_line (need js ts) (loss js ts) ts ++ row_lines js rows

-- The verdict on a listing of `count` rows for a profile that is read: that of building into room for 4,096 rows.
unfoldable pub listing_verdict : Profile → ℕ → Verdict
listing_verdict p count = or_else (verdict_of p) (count_verdict count (row_size * 4096))

-- The text of a profile that is read: the header and a line for each row of the table, or the refusal alone.
unfoldable pub text_for : Profile → List (List Seconds) → Verdict → List ℕ
text_for p rows (Ok none) = header_line p.n (length rows) ++ row_lines (jobs_of p) rows
text_for p rows (Err refusal) = refusal_line (Err refusal)

-- The whole text of a reading: so, or its own refusal alone.
unfoldable pub text_of : Result Profile Refusal → List (List Seconds) → List ℕ
text_of (Ok p) rows = text_for p rows (listing_verdict p (length rows))
text_of (Err refusal) rows = refusal_line (Err refusal)

-- What is printed for an input. For a refused profile nothing is said of `rows`; there are none exactly where no list is permitted.
pub record Text (input text : List ℕ) : Type 0 where
  pub reading : Result Profile Refusal
  pub read : Reads input reading
  pub rows : List (List Seconds)
  pub are : {p : Profile} → reading ≡ Ok p → verdict_of p ≡ sound → TableOf (jobs_of p) rows
  pub none : {p : Profile} → reading ≡ Ok p → verdict_of p ≡ sound → (length rows ≡ 0) ↔ ((ts : List Seconds) → Permitted (jobs_of p) ts → ⊥)
  pub is : text ≡ text_of reading rows

-- The number of the last line: the refusal's is 0, and so is the header's.
unfoldable pub last_line : Result Listing Refusal → ℕ
last_line (Ok l) = l.rows
last_line (Err refusal) = 0

-- The lines 0 to k of a listing, one after the other.
unfoldable pub lines_to : Result Listing Refusal → List ℕ → ℕ → List ℕ
lines_to l table zero = line_at l table 0
lines_to l table (suc k) = lines_to l table k ++ line_at l table (suc k)
