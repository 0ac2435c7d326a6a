-- The next answers under a budget: what a staircase holds once all permitted lists were visited.
-- Contracts of inner functions cite this, and those of no entry point. Assumes nothing.
use Rattle.std.specs.Prelude.{◌≡◌, List, [], ◌∷◌, ℕ, suc, length}
use Rattle.model.specs.declared.Seconds.{Seconds}
use Rattle.model.specs.declared.PagesPerHour.{PagesPerHour}
use Rattle.model.specs.declared.Job.{Job}
use Rattle.model.specs.Model.{Permitted, need, FitsBudget, loss, Best}
use Rattle.table_stairs.specs.Stairs.{Stair}

-- A row is the best plan for the greatest budget below `limit`, with its own need and loss.
pub record Answer (js : List Job) (limit : ℕ) (r : Stair) : Type 0 where
  pub budget : PagesPerHour
  pub greatest : limit ≡ suc budget.0
  pub best : Best js budget r.periods
  pub need_is : r.its_need ≡ (need js r.periods).0
  pub loss_is : r.its_loss ≡ loss js r.periods

-- The first row answers the budgets below `limit`, every other one those below the need of the row before it.
abbrev pub NextAnswers : List Job → ℕ → List Stair → Type 0
NextAnswers js limit [] = Unit {0}
NextAnswers js limit (r ∷ rows) = Answer js limit r × NextAnswers js r.its_need rows

-- The need of the last row; `limit` where there is none.
unfoldable pub last_need : ℕ → List Stair → ℕ
last_need limit [] = limit
last_need limit (r ∷ rows) = last_need r.its_need rows

-- The rows that a walk under a budget leaves: the next answers, and none only where no permitted list fits.
pub record AnswersUnder (js : List Job) (b : PagesPerHour) (rows : List Stair) : Type 0 where
  pub next : NextAnswers js (suc b.0) rows
  pub none : length rows ≡ 0 → (ts : List Seconds) → Permitted js ts → FitsBudget js ts b → ⊥
