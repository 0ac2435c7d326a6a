-- What looking a budget up answers (document 01, The table and Refusal numbers). A lent table's rows stand in specs/Table.antt of crate
-- table_row, counted from 0; when they are well formed, in specs/Formed.antt of crate table_check. Cited by public contracts.
-- Assumes nothing.
use Rattle.std.specs.Prelude.{◌≡◌, Result, Ok, Err, List, [], ℕ, ◌+◌, ◌*◌, ◌-◌, ◌≤◌, ◌<◌}
use Rattle.model.specs.declared.PagesPerHour.{PagesPerHour}
use Rattle.model.specs.declared.Profile.{Profile}
use Rattle.model.specs.declared.Refusal.{Refusal}
use Rattle.model.specs.declared.Refusal.TheVariants.{Budget, Row}
use Rattle.model.specs.Model.{Verdict, verdict_in, if_sound, ProfileFirst, row_size}
use Rattle.table_row.specs.Table.{rows_in, bytes_at, start_at}
use Rattle.table_check.specs.Formed.{FirstBadRow, WholeRows, WellFormed}

-- The row that answers a budget: the last whose start is at most that (The table).
pub record Answers (bytes : List ℕ) (b : PagesPerHour) (k : ℕ) : Type 0 where
  pub there : k < rows_in bytes
  pub within : (start_at bytes k).0 ≤ b.0
  pub last : (i : ℕ) → k < i → i < rows_in bytes → b.0 < (start_at bytes i).0

-- What is found in a table: 12 with 0 for its length, 12 with the number of its first bad row, 10 with its first start where the budget
-- is below that, else the number of the row that answers, both counted from 1 (Refusal numbers, on lookup).
pub data Finds (p : Profile) (bytes : List ℕ) (b : PagesPerHour) : Result ℕ Refusal → Type 0 where
  wrong_length : (WholeRows bytes → ⊥) → Finds p bytes b (Err (Row 0))
  bad_row : {k : ℕ} → WholeRows bytes → FirstBadRow p bytes k → Finds p bytes b (Err (Row (k + 1)))
  below_first : WellFormed p bytes → b.0 < (start_at bytes 0).0 → Finds p bytes b (Err (Budget (start_at bytes 0)))
  answering : {k : ℕ} → WellFormed p bytes → Answers bytes b k → Finds p bytes b (Ok (k + 1))

-- What `locate` may answer: the profile's own refusal, and only then what is found.
abbrev pub Locates : Profile → List ℕ → PagesPerHour → Result ℕ Refusal → Type 0
Locates p bytes b r = ProfileFirst p (Finds p bytes b) r

-- What `judge_lookup` may answer: the verdict of that.
pub record JudgesLookup (p : Profile) (bytes : List ℕ) (b : PagesPerHour) (v : Verdict) : Type 0 where
  pub found : Result ℕ Refusal
  pub located : Locates p bytes b found
  pub verdict : v ≡ verdict_in found

-- The place, from 0, of the row that is found; that of the table's first byte beside a refusal.
unfoldable pub place_found : Result ℕ Refusal → ℕ
place_found (Ok k) = k - 1
place_found (Err refusal) = 0

-- What `lookup` may hand back of a lent table (The table): the sixteen bytes of that row, and where they lie, as a block and a place
-- in it; beside a refusal none, at the table's own start.
pub record LooksUp (p : Profile) (bytes : List ℕ) (lies : ℕ × ℕ) (b : PagesPerHour) (part : List ℕ) (at : ℕ × ℕ) : Type 0 where
  pub found : Result ℕ Refusal
  pub located : Locates p bytes b found
  pub holds : part ≡ if_sound found (bytes_at bytes (place_found found)) []
  pub place : at ≡ (lies.0, lies.1 + row_size * place_found found)
