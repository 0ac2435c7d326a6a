-- The best plan found, else the least need, else nothing: together they are the outcome that is right for the jobs and the budget.
-- Assumes nothing.
use mathlib.Core.Path.{◌≡◌}
use mathlib.Core.List.{List}
use Rattle.std.specs.Prelude.{Result, Err}
use Rattle.model.specs.declared.PagesPerHour.{PagesPerHour}
use Rattle.model.specs.declared.Job.{Job}
use Rattle.model.specs.declared.Profile.{Profile}
use Rattle.model.specs.declared.Refusal.{Refusal}
use Rattle.model.specs.Model.{sound, jobs_of, verdict_of}
use Rattle.model.proofs.ProfileFirst.{own_refused, past_profile}
use Rattle.choose.specs.declared.Choice.{Choice}
use Rattle.choose.specs.Choice.{Chosen, Outcome, given, none_permitted, none_fit}
use Rattle.choose_offer.specs.Found.{Found, nothing, found}
use Rattle.choose_walk.specs.Least.{Least, none, least}
use Rattle.choose_walk.specs.Best.{BestOrNone}
use Rattle.choose.specs.Steps.{settle}
use Rattle.choose.specs.Least.{LeastOrNone}

pub settled : (js : List Job) (b : PagesPerHour) (had : Found) (m : Least) → BestOrNone js b had → LeastOrNone js m → Outcome js b (settle js had m)
unfolding settle
settled js b (found q l ts) m h k = given h.best
settled js b nothing (least m) h k = none_fit k h
settled js b nothing none h k = none_permitted k

-- the two ways to meet the contract
module _ (p : Profile) (b : PagesPerHour) {r : Result Choice Refusal} where
  pub chosen_refused : {refusal : Refusal} → verdict_of p ≡ Err refusal → r ≡ Err refusal → Chosen p b r
  chosen_refused own e = rw e (own_refused own)

  pub chosen_sound : verdict_of p ≡ sound → Outcome (jobs_of p) b r → Chosen p b r
  chosen_sound = past_profile
