-- The table as a list that can be computed, from the greatest budget down. Only the contracts of private functions cite this.
-- Assumes nothing.
use Rattle.std.specs.Prelude.{◌≡◌, List, [], ◌∷◌, ◌++◌, ℕ, zero, suc, ◌-◌, ◌*◌, ◌/◌, ◌^◌, ◌≤◌, ◌<◌, length, drop, Option, None, Some}
use Rattle.model.specs.declared.Seconds.{Seconds}
use Rattle.model.specs.declared.PagesPerHour.{PagesPerHour}
use Rattle.model.specs.declared.Job.{Job}
use Rattle.model.specs.Model.{Rising, Permitted, need, FitsBudget, row_size}
use Rattle.walk.specs.Walk.{start, walk}
use Rattle.choose_offer.specs.Found.{Found, nothing, found, pick}
use Rattle.table_stairs.specs.Stairs.{Stair}
use Rattle.table_stairs.specs.Ordered.{row_at}
use Rattle.table_climb.specs.Next.{AnswersUnder}
use Rattle.table_batch.specs.Batch.{with_batch}
use Rattle.table.specs.declared.Batch.{Batch}
use Rattle.table.specs.Table.{table_bytes}

-- The rows up to what was found: those whose need is below its need, then itself.
unfoldable pub up_to : (ℕ → List (List Seconds)) → Found → List (List Seconds)
up_to below nothing = []
up_to below (found q l ts) = below q ++ (ts ∷ [])

-- The rows of the budgets below `limit`, at most `most` of them: the choice at the last of these budgets comes last.
unfoldable pub descent : List Job → ℕ → ℕ → List (List Seconds)
descent js zero limit = []
descent js (suc most) zero = []
descent js (suc most) (suc b) = up_to (descent js most) (walk (pick b) js start nothing)

-- All of them: a need is below the limit it was chosen for, so there are no more rows than budgets.
abbrev pub rows_below : List Job → ℕ → List (List Seconds)
rows_below js limit = descent js limit limit

-- One more than the greatest budget.
abbrev pub all_budgets : ℕ
all_budgets = 2 ^ 32

-- Each row's need is below that of every later row.
abbrev pub StartsRise : List Job → List (List Seconds) → Type 0
StartsRise js rows = Rising (λ (ts us : List Seconds). (need js ts).0 < (need js us).0) rows

-- A walk through all rows, the last of which belongs before place `end`: their number, and where that is `end` and the buffer has room
-- for them, their bytes at its front.
pub record Wrote (js : List Job) (end : ℕ) (old new : List ℕ) (r : ℕ) : Type 0 where
  pub count : r ≡ length (rows_below js all_budgets)
  pub bytes : end ≡ length (rows_below js all_budgets) → end ≤ length old / row_size → new ≡ table_bytes js (rows_below js all_budgets) ++ drop (row_size * end) old

-- One batch: some next answers under a budget stand in the places before `end`, and told are their number and the need of the last one.
pub record WroteBatch (js : List Job) (b : PagesPerHour) (end : ℕ) (old new : List ℕ) (r : Batch) : Type 0 where
  pub stairs : List Stair
  pub under : AnswersUnder js b stairs
  pub number : r.rows ≡ length stairs
  pub some : 0 < r.rows
  pub last : r.need.0 ≡ (row_at stairs (r.rows - 1)).its_need
  pub bytes : new ≡ with_batch stairs end old

-- It is told, or nothing fits the budget and no byte was touched.
abbrev pub WroteNext : List Job → PagesPerHour → ℕ → List ℕ → List ℕ → Option Batch → Type 0
WroteNext js b end old new None = ((ts : List Seconds) → Permitted js ts → FitsBudget js ts b → ⊥) × (new ≡ old)
WroteNext js b end old new (Some r) = WroteBatch js b end old new r
