-- Looking a budget up as it is chosen for: what the theorems in proofs/LookedUp.antt and proofs/OnlyTable.antt are stated with. No contract
-- cites this. Assumes nothing.
use Rattle.std.specs.Prelude.{◌≡◌, Result, Ok, List, ℕ, ◌-◌, ◌^◌, ◌<◌}
use Rattle.model.specs.declared.PagesPerHour.{PagesPerHour}
use Rattle.model.specs.declared.Profile.{Profile}
use Rattle.model.specs.declared.Refusal.{Refusal}
use Rattle.model.specs.Model.{verdict_in, rounded_up}
use Rattle.choose.specs.declared.Choice.{Choice}
use Rattle.choose.specs.Choice.{Chosen}
use Rattle.table_row.specs.Table.{start_at, periods_at, loss_at}
use Rattle.table_lookup.specs.Lookup.{Locates}

-- Row k of a table's bytes is a choice's plan: it starts at the need, rounded up, and has the periods and the loss.
pub record Shows (p : Profile) (bytes : List ℕ) (k : ℕ) (c : Choice) : Type 0 where
  pub start : start_at bytes k ≡ rounded_up c.need
  pub periods : periods_at bytes k ≡ c.periods
  pub loss : loss_at p bytes k ≡ c.loss

-- What is located in these bytes is what was chosen: the same verdict, the detail of 10 included, and in the row found the same plan.
pub record LooksUpAs (p : Profile) (bytes : List ℕ) (r : Result ℕ Refusal) (c : Result Choice Refusal) : Type 0 where
  pub verdict : verdict_in r ≡ verdict_in c
  pub row : {k : ℕ} {plan : Choice} → r ≡ Ok k → c ≡ Ok plan → Shows p bytes (k - 1) plan

-- Every 32-bit budget is looked up in these bytes as it is chosen for.
abbrev pub LooksUpAll : Profile → List ℕ → Type 0
LooksUpAll p bytes = (b : PagesPerHour) → b.0 < 2 ^ 32 → (c : Result Choice Refusal) → Chosen p b c → (r : Result ℕ Refusal) → Locates p bytes b r → LooksUpAs p bytes r c
