-- Rows in order: each loses less and needs more than every later one. Assumes nothing.
use Rattle.std.specs.Prelude.{ℕ, ◌+◌, ◌*◌, ◌-◌, ◌≤◌, ◌<◌, get_or, take, drop}
use mathlib.Core.List.{List, [], ◌∷◌, ◌++◌, Memᴰ}
use Rattle.model.specs.Model.{Rising}
use Rattle.table_stairs.specs.Stairs.{Stair, stair, Stairs}

-- The first row loses less and needs more.
pub record Above (r s : Stair) : Type 0 where
  pub loses : r.its_loss < s.its_loss
  pub needs : s.its_need < r.its_need

-- Each row stands above every later one.
abbrev pub Staircase : List Stair → Type 0
Staircase rows = Rising Above rows

-- The rows rise in loss, fall in need, and lose less than the bound.
pub record Ordered (s : Stairs) : Type 0 where
  pub order : Staircase s.rows
  pub bounded : (r : Stair) → Memᴰ r s.rows → r.its_loss < s.bound

-- A row in the place of those from i to j.
abbrev pub replaced : ℕ → ℕ → Stair → List Stair → List Stair
replaced i j row rows = take i rows ++ (row ∷ drop j rows)

-- The staircase that stands in the first `count` rows, below a bound.
abbrev pub stairs_of : List Stair → ℕ → ℕ → Stairs
stairs_of rows count bound = record { rows = take count rows; bound = bound }

-- These are at most so many, and in order.
pub record Standing (most : ℕ) (rows : List Stair) (count bound : ℕ) : Type 0 where
  pub count_to : count ≤ most
  pub ordered : Ordered (stairs_of rows count bound)

-- The row at place k.
abbrev pub row_at : List Stair → ℕ → Stair
row_at rows k = get_or rows k (stair 0 0 [])

-- What the last row of part x loses, where a part is so many rows.
abbrev pub last_loss : List Stair → ℕ → ℕ → ℕ
last_loss rows size x = (row_at rows (size * x + (size - 1))).its_loss

-- Of the first so many parts, the last rows of r in front lose less than l, and those of the others do not.
pub record PartsLoseLess (rows : List Stair) (size l many r : ℕ) : Type 0 where
  pub upto : r ≤ many
  pub less : (x : ℕ) → x < r → last_loss rows size x < l
  pub no_less : (x : ℕ) → r ≤ x → x < many → l ≤ last_loss rows size x
