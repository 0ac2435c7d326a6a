-- `choose::choose_sound` meets its contract: the numbers hold the jobs, and what both walks leave is what is right.
-- Assumes nothing.
use mathlib.Core.Path.{◌≡◌, refl, ◌∙◌, ap, sym}
use Rattle.model.specs.Model.{jobs_of}
use Rattle.walk.specs.Walk.{start, walk}
use Rattle.walk.specs.Numbers.{Held}
use Rattle.walk.proofs.Filled.{all_held}
use Rattle.walk.proofs.Cuts.{ready_start}
use Rattle.choose_offer.specs.Found.{nothing, pick}
use Rattle.choose_offer.specs.Plan.{found_in}
use Rattle.choose_walk.proofs.Lessening.{need_ready, lessens_held}
use Rattle.choose.proofs.Answered.{none_begun, best_found, plan_right, none_right, least_right}
use Rattle.choose.proofs.choose_sound.Goals.{After-climb_where}
use Rattle.choose.proofs.choose_sound.Goals as goal

-- the numbers hold the jobs
held : (c : After-climb_where) → Held c.numbers_of-numbers.result 0 0 (jobs_of c.args.p)
held c = all_held c.requires c.numbers_of-numbers.ensures

-- what is found is what the walk makes of nothing
walked : (c : After-climb_where) → c.climb_where.new.kept ≡ walk (pick c.args.budget.0) (jobs_of c.args.p) start nothing
walked c = c.climb_where.ensures.walked.is 0 (jobs_of c.args.p) (held c) ∙ ap (walk (pick c.args.budget.0) (jobs_of c.args.p) start) c.new-best.ensures

pub climb_where-requires-clause-ready : goal.climb_where-requires-clause-ready
climb_where-requires-clause-ready c = ready_start (all_held c.requires c.numbers_of-numbers.ensures)

pub told-requires-clause-held : goal.told-requires-clause-held
told-requires-clause-held c =
    let d = (goal.at.told-requires-clause-held c).After-climb_where in
    let best = best_found (held d) c.args.budget (walked d) (ap found_in (sym c.in-Some.is) ∙ c.plan.ensures) in
    record { valid = c.requires; numbers = c.numbers_of-numbers.ensures; permitted = best.best.permitted }

pub told-requires-clause-its_loss : goal.told-requires-clause-its_loss
told-requires-clause-its_loss c =
    let d = (goal.at.told-requires-clause-its_loss c).After-climb_where in
    (best_found (held d) c.args.budget (walked d) (ap found_in (sym c.in-Some.is) ∙ c.plan.ensures)).its_loss

pub returns-in-Some : goal.returns-in-Some
returns-in-Some c =
    let d = (goal.at.returns-in-Some c).After-climb_where in
    rw c.told.ensures (plan_right (held d) c.args.budget (walked d) (ap found_in (sym c.in-Some.is) ∙ c.plan.ensures))

pub least_need-requires : goal.least_need-requires
least_need-requires c = need_ready (ready_start (all_held c.requires c.numbers_of-numbers.ensures))

pub returns-in-Some-least_need : goal.returns-in-Some-least_need
returns-in-Some-least_need c =
    let d = (goal.at.returns-in-Some-least_need c).After-climb_where in
    least_right (held d) c.args.budget (walked d) (ap found_in (sym c.in-None.is) ∙ c.plan.ensures) (lessens_held _ none_begun _ _ (rw c.in-Some-least_need.is at c.least_need.ensures))

pub returns-in-None-least_need : goal.returns-in-None-least_need
returns-in-None-least_need c =
    let d = (goal.at.returns-in-None-least_need c).After-climb_where in
    none_right (held d) c.args.budget (walked d) (ap found_in (sym c.in-None.is) ∙ c.plan.ensures) (lessens_held _ none_begun _ _ (rw c.in-None-least_need.is at c.least_need.ensures))
