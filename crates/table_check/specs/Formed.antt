-- When a lent table is well formed, and which of its rows is the first bad one (document 01, The table and Refusal numbers). Rows are
-- counted from 0 here; a refusal names them from 1. Cited by public contracts, through specs/Lookup.antt of crate table_lookup.
-- Assumes nothing.
use Rattle.std.specs.Prelude.{◌≡◌, List, ℕ, ◌+◌, ◌%◌, ◌≤◌, ◌<◌, length, get_or}
use Rattle.model.specs.declared.Profile.{Profile}
use Rattle.model.specs.Model.{seconds, jobs_of, periods_of, Permitted, need, row_size}
use Rattle.table_row.specs.Table.{rows_in, start_at, periods_at, loss_at}

-- A good row: its jobs' periods are permitted and no other place is filled, its start is what they need, and it starts above the
-- row before it and loses less, where there is one (The table).
pub record GoodRow (p : Profile) (bytes : List ℕ) (k : ℕ) : Type 0 where
  pub permitted : Permitted (jobs_of p) (periods_of p (periods_at bytes k))
  pub zeros : (i : ℕ) → p.n ≤ i → i < 8 → (get_or (periods_at bytes k) i (seconds 0)).0 ≡ 0
  pub start : (need (jobs_of p) (periods_of p (periods_at bytes k))).0 ≡ (start_at bytes k).0
  pub start_rises : (before : ℕ) → k ≡ before + 1 → (start_at bytes before).0 < (start_at bytes k).0
  pub loss_falls : (before : ℕ) → k ≡ before + 1 → loss_at p bytes k < loss_at p bytes before

-- The first bad row: it is not good, and those before it are (Refusal numbers, 12).
pub record FirstBadRow (p : Profile) (bytes : List ℕ) (k : ℕ) : Type 0 where
  pub there : k < rows_in bytes
  pub bad : GoodRow p bytes k → ⊥
  pub before : (j : ℕ) → j < k → GoodRow p bytes j

-- A length that is a positive multiple of a row's size (The table).
abbrev pub WholeRows : List ℕ → Type 0
WholeRows bytes = record { some : 1 ≤ length bytes; whole : length bytes % row_size ≡ 0 }

-- A well-formed table: such a length, and each row is good (The table).
pub record WellFormed (p : Profile) (bytes : List ℕ) : Type 0 where
  pub size : WholeRows bytes
  pub rows : (k : ℕ) → k < rows_in bytes → GoodRow p bytes k
