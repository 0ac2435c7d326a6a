-- With what the walk for the best plan ends. No public contract cites this. Assumes nothing.
use Rattle.std.specs.Prelude.{◌≡◌, List, ℕ}
use Rattle.model.specs.declared.Seconds.{Seconds}
use Rattle.model.specs.declared.PagesPerHour.{PagesPerHour}
use Rattle.model.specs.declared.Job.{Job}
use Rattle.model.specs.Model.{Permitted, need, FitsBudget, loss, Best}
use Rattle.choose_offer.specs.Found.{Found, nothing, found}

-- The best list for a budget, with its need and loss.
pub record BestFound (js : List Job) (b : PagesPerHour) (q l : ℕ) (ts : List Seconds) : Type 0 where
  pub its_need : q ≡ (need js ts).0
  pub its_loss : l ≡ loss js ts
  pub best : Best js b ts

-- That is found; or nothing, and then no permitted list fits.
abbrev pub BestOrNone : List Job → PagesPerHour → Found → Type 0
BestOrNone js b nothing = (ts : List Seconds) → Permitted js ts → FitsBudget js ts b → ⊥
BestOrNone js b (found q l ts) = BestFound js b q l ts
