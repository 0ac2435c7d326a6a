-- What `choose` may answer, as a relation (document 01, Quantities and Refusal numbers). Cited by the public contract.
-- Assumes nothing.
use Rattle.std.specs.Prelude.{Result, Ok, Err, List, ◌≤◌}
use Rattle.model.specs.declared.Seconds.{Seconds}
use Rattle.model.specs.declared.PagesPerHour.{PagesPerHour}
use Rattle.model.specs.declared.Job.{Job}
use Rattle.model.specs.declared.Profile.{Profile}
use Rattle.model.specs.declared.Refusal.{Refusal}
use Rattle.model.specs.declared.Refusal.TheVariants.{NoPeriods, Budget}
use Rattle.model.specs.Model.{seconds, jobs_of, Permitted, exact_need, FitsBudget, loss, Best, padded, ProfileFirst}
use Rattle.choose.specs.declared.Choice.{Choice}

-- These periods, with their need, without rounding, and their loss (Quantities, on choosing; 02, Ticket 4).
abbrev pub answered : List Job → List Seconds → Choice
answered js ts = record { periods = padded (seconds 0) ts; need = exact_need js ts; loss = loss js ts }

-- The smallest budget with an answer: some permitted periods fit it, and every budget that some fit is no smaller (Refusal numbers, 10).
pub record LeastBudget (js : List Job) (m : PagesPerHour) : Type 0 where
  pub enough : (ts : List Seconds) × Permitted js ts × FitsBudget js ts m
  pub fewest : (b : PagesPerHour) (ts : List Seconds) → Permitted js ts → FitsBudget js ts b → m.0 ≤ b.0

-- What is answered for sound jobs and a budget: the best periods; 9 where none are permitted; 10 where some are and none fit (Refusal numbers, on choosing).
pub data Outcome (js : List Job) (b : PagesPerHour) : Result Choice Refusal → Type 0 where
  given : {ts : List Seconds} → Best js b ts → Outcome js b (Ok (answered js ts))
  none_permitted : ((ts : List Seconds) → Permitted js ts → ⊥) → Outcome js b (Err NoPeriods)
  none_fit : {m : PagesPerHour} → LeastBudget js m → ((ts : List Seconds) → Permitted js ts → FitsBudget js ts b → ⊥) → Outcome js b (Err (Budget m))

-- What is answered for a profile and a budget: the profile's own refusal, and only then the rest (Refusal numbers, order).
abbrev pub Chosen : Profile → PagesPerHour → Result Choice Refusal → Type 0
Chosen p b r = ProfileFirst p (Outcome (jobs_of p) b) r
