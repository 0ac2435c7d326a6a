-- With what the walk for the least need ends. No public contract cites this. Assumes nothing.
use Rattle.std.specs.Prelude.{List}
use Rattle.model.specs.declared.Seconds.{Seconds}
use Rattle.model.specs.declared.Job.{Job}
use Rattle.model.specs.Model.{pages_per_hour, Permitted}
use Rattle.choose_walk.specs.Least.{Least, none, least}
use Rattle.choose.specs.Choice.{LeastBudget}

-- The least budget; or none, and then no list is permitted.
abbrev pub LeastOrNone : List Job → Least → Type 0
LeastOrNone js none = (ts : List Seconds) → Permitted js ts → ⊥
LeastOrNone js (least m) = LeastBudget js (pages_per_hour m)
