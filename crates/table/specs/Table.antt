-- The budget table, its bytes, and what building one answers (document 01, The table, Packing and Refusal numbers).
-- Cited by public contracts. Assumes nothing.
use Rattle.std.specs.Prelude.{Result, ◌≡◌, ◌↔◌, ℕ, ◌^◌, ◌<◌, length}
use mathlib.Core.List.{List, flat_map, Memᴰ}
use Rattle.model.specs.declared.Seconds.{Seconds}
use Rattle.model.specs.declared.PagesPerHour.{PagesPerHour}
use Rattle.model.specs.declared.Job.{Job}
use Rattle.model.specs.declared.Profile.{Profile}
use Rattle.model.specs.declared.Refusal.{Refusal}
use Rattle.model.specs.Model.{sound, Rising, jobs_of, Permitted, need, Best, verdict_of, count_verdict, PutsFront}
use Rattle.table_row.specs.Table.{table_row}

-- Every list that is best for some 32-bit budget is a row, and nothing else is; each row needs less than every later one, so none
-- stands twice (The table; Quantities).
pub record TableOf (js : List Job) (rows : List (List Seconds)) : Type 0 where
  pub some_budget : (ts : List Seconds) → Memᴰ ts rows → (b : PagesPerHour) × (b.0 < 2 ^ 32) × Best js b ts
  pub every_budget : (b : PagesPerHour) (ts : List Seconds) → b.0 < 2 ^ 32 → Best js b ts → Memᴰ ts rows
  pub rising : Rising (λ (ts us : List Seconds). (need js ts).0 < (need js us).0) rows

-- Table rows one after the other: sixteen bytes each, the start being the need (Packing; The table).
unfoldable pub table_bytes : List Job → List (List Seconds) → List ℕ
table_bytes js rows = flat_map (λ ts. table_row (need js ts) ts) rows

-- What `build_table` may answer, and leave of a lent buffer that held `old`; for a refused profile nothing is said of `rows`.
-- For a sound one there are no rows, and so 9 is answered, exactly where no list is permitted (Refusal numbers, 9).
pub record Built (p : Profile) (old : List ℕ) (r : Result ℕ Refusal) (new : List ℕ) : Type 0 where
  pub rows : List (List Seconds)
  pub are : verdict_of p ≡ sound → TableOf (jobs_of p) rows
  pub none : verdict_of p ≡ sound → (length rows ≡ 0) ↔ ((ts : List Seconds) → Permitted (jobs_of p) ts → ⊥)
  pub puts : PutsFront p (count_verdict (length rows) (length old)) (length rows) (table_bytes (jobs_of p) rows) old r new
