-- What the private functions of the choice ask and promise, and what both walks together come to. No public contract cites this.
-- Assumes nothing.
use Rattle.std.specs.Prelude.{Result, Ok, Err, List}
use Rattle.model.specs.declared.Seconds.{Seconds}
use Rattle.model.specs.declared.Job.{Job}
use Rattle.model.specs.declared.Profile.{Profile}
use Rattle.model.specs.declared.Refusal.{Refusal}
use Rattle.model.specs.declared.Refusal.TheVariants.{NoPeriods, Budget}
use Rattle.model.specs.Model.{pages_per_hour, jobs_of, Permitted}
use Rattle.model.specs.Valid.{Valid}
use Rattle.walk.specs.declared.Numbers.{Numbers}
use Rattle.walk.specs.Numbers.{NumbersFrom}
use Rattle.choose_offer.specs.Found.{Found, nothing, found}
use Rattle.choose_walk.specs.Least.{Least, none, least}
use Rattle.choose.specs.declared.Choice.{Choice}
use Rattle.choose.specs.Choice.{answered}

-- What is answered: the plan found; where there is none, 10 with the least need; where there is no need either, 9.
unfoldable pub settle : List Job → Found → Least → Result Choice Refusal
settle js (found q l ts) had = Ok (answered js ts)
settle js nothing (least m) = Err (Budget (pages_per_hour m))
settle js nothing none = Err NoPeriods

-- Periods for a profile, whose numbers are held.
pub record PlanHeld (p : Profile) (m : Numbers) (ts : List Seconds) : Type 0 where
  pub valid : Valid p
  pub numbers : NumbersFrom p 0 m
  pub permitted : Permitted (jobs_of p) ts
