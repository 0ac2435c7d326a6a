-- What a walk keeps that collects the next answers under a budget: a staircase of plans in rising loss and falling need, at
-- most so many, and a bound on the loss of what may still enter. No public contract cites this. Assumes nothing.
use mathlib.Core.List.{List, [], ◌∷◌, ◌++◌, Memᴰ}
use Rattle.std.specs.Prelude.{Bool, false, not, cond, ◌&&◌, ◌||◌, ℕ, ◌≤◌, length, get_or, take, leb, ltb}
use Rattle.model.specs.declared.Seconds.{Seconds}
use Rattle.walk.specs.Laws.{no_loss}

-- A plan that stands: its need, its loss, its periods.
pub record Stair : Type 0 where
  pub its_need : ℕ
  pub its_loss : ℕ
  pub periods : List Seconds

abbrev pub stair : ℕ → ℕ → List Seconds → Stair
stair q l ts = record { its_need = q; its_loss = l; periods = ts }

-- The plans that stand, the least loss first. No plan of at least the bound's loss enters.
pub record Stairs : Type 0 where
  pub rows : List Stair
  pub bound : ℕ

-- The greatest number of rows.
abbrev pub most : ℕ
most = 256

-- More than any loss.
abbrev pub no_bound : ℕ
no_bound = no_loss

abbrev pub no_stairs : Stairs
no_stairs = record { rows = []; bound = no_bound }

-- Some row has at most this need and at most this loss.
unfoldable pub covered : ℕ → ℕ → List Stair → Bool
covered q l [] = false
covered q l (r ∷ rows) = (leb r.its_need q && leb r.its_loss l) || covered q l rows

-- A row of at most this need and at most this loss.
pub record Covering (q l : ℕ) (rows : List Stair) : Type 0 where
  pub row : Stair
  pub stands : Memᴰ row rows
  pub needs : row.its_need ≤ q
  pub loses : row.its_loss ≤ l

-- The rows in front that lose less.
unfoldable pub losing_less : ℕ → List Stair → List Stair
losing_less l [] = []
losing_less l (r ∷ rows) = cond (ltb r.its_loss l) (r ∷ losing_less l rows) []

-- The rows behind that need less.
unfoldable pub needing_less : ℕ → List Stair → List Stair
needing_less q [] = []
needing_less q (r ∷ rows) = cond (ltb r.its_need q) (r ∷ rows) (needing_less q rows)

-- A plan among the rows: those that it makes needless, with no less loss and no less need, leave.
unfoldable pub among : ℕ → ℕ → List Seconds → List Stair → List Stair
among q l ts rows = losing_less l rows ++ (stair q l ts ∷ needing_less q rows)

-- At most so many rows: where one more would stand, the one that loses most leaves, and its loss becomes the bound.
unfoldable pub at_most : ℕ → List Stair → ℕ → Stairs
at_most most rows bound =
    cond (ltb most (length rows))
    (record { rows = take most rows; bound = (get_or rows most (stair 0 0 [])).its_loss })
    (record { rows = rows; bound = bound })

-- The update: a plan enters that fits the budget, loses less than the bound, and is covered by no row.
unfoldable pub enter : ℕ → ℕ → ℕ → ℕ → List Seconds → Stairs → Stairs
enter most b q l ts s =
    cond (leb q b && (ltb l s.bound && not (covered q l s.rows)))
    (at_most most (among q l ts s.rows) s.bound)
    s
