-- What both walks leave is what is right for the jobs and the budget.
-- Assumes nothing.
use mathlib.Core.Path.{◌≡◌, sym, ◌∙◌, ap, subst}
use mathlib.Core.List.{List, []}
use Prim.Native.Nat.{ℕ}
use Rattle.std.specs.Prelude.{Ok, Err, Option, Some, None}
use Rattle.model.specs.declared.Seconds.{Seconds}
use Rattle.model.specs.declared.PagesPerHour.{PagesPerHour}
use Rattle.model.specs.declared.Job.{Job}
use Rattle.model.specs.declared.Refusal.TheVariants.{NoPeriods, Budget}
use Rattle.choose.specs.Choice.{answered, Outcome, given}
use Rattle.choose.specs.Least.{LeastOrNone}
use Rattle.walk.specs.declared.Numbers.{Numbers}
use Rattle.walk.specs.declared.Begun.{Begun}
use Rattle.walk.specs.Walk.{start, walk}
use Rattle.walk.specs.Numbers.{Held}
use Rattle.choose_offer.specs.Found.{Found, nothing, pick}
use Rattle.choose_offer.specs.Plan.{KeptPlan, found_in}
use Rattle.choose_walk.specs.Least.{none, least}
use Rattle.choose_walk.specs.Best.{BestFound, BestOrNone}
use Rattle.choose_walk.specs.Steps.{least_in, LessensHeld}
use Rattle.choose.specs.Steps.{settle}
use Rattle.walk.proofs.Falling.{down_lists}
use Rattle.walk.proofs.Held.{held_valid}
use Rattle.choose_walk.proofs.Fold.{walk_best}
use Rattle.choose.proofs.LeastNeed.{walk_least}
use Rattle.choose.proofs.Settled.{settled}

-- no job has a period yet
abbrev pub none_begun : Begun
none_begun = record { jobs = 0; last = record { 0 = 1 }; written = 0; lost = 0 }

module _ {m : Numbers} {js : List Job} (held : Held m 0 0 js) (b : PagesPerHour) {best : Found} (is : best ≡ walk (pick b.0) js start nothing) where
  best_or_none : BestOrNone js b best
  best_or_none = subst (BestOrNone js b) (sym is) (walk_best js b (held_valid js held))

  -- a plan was found
  pub best_found : {plan : KeptPlan} → found_in (Some plan) ≡ best → BestFound js b plan.need.0 plan.loss plan.periods
  best_found e = subst (BestOrNone js b) (sym e) best_or_none

  pub plan_right : {plan : KeptPlan} → found_in (Some plan) ≡ best → Outcome js b (Ok (answered js plan.periods))
  plan_right e = given (best_found e).best

  -- none was found: the least need, if there is one
  module _ (no-plan : found_in None ≡ best) where
    none_found : BestOrNone js b nothing
    none_found = subst (BestOrNone js b) (sym no-plan) best_or_none

    least_or_none : (r : Option PagesPerHour) → LessensHeld m none_begun None r → LeastOrNone js (least_in r)
    unfolding least_in
    least_or_none r l = subst (LeastOrNone js) (sym (l 0 js 0 [] held)) (walk_least down_lists js (held_valid js held))

    pub none_right : LessensHeld m none_begun None None → Outcome js b (Err NoPeriods)
    unfolding settle least_in
    none_right l = settled js b nothing none none_found (least_or_none None l)

    pub least_right : {q : PagesPerHour} → LessensHeld m none_begun None (Some q) → Outcome js b (Err (Budget q))
    unfolding settle least_in
    least_right {q} l = settled js b nothing (least q.0) none_found (least_or_none (Some q) l)
