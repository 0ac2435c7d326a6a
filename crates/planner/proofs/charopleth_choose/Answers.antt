-- `planner::charopleth_choose` meets its contract: the choice for the profile that the numbers hold, handed on.
-- Assumes nothing.
use mathlib.Core.Path.{subst}
use Rattle.model.specs.declared.Profile.{Profile}
use Rattle.model.specs.Model.{pages_per_hour}
use Rattle.choose.specs.Choice.{Chosen}
use Rattle.exchange.specs.Numbers.{profile_in}
use Rattle.planner.proofs.Left.{refusal_left, sound_left}
use Rattle.planner.proofs.charopleth_choose.Goals.{After-choose}
use Rattle.planner.proofs.charopleth_choose.Goals as goal

-- the choice is that of the profile which the numbers hold
of_these : (c : After-choose) →
    let a = c.args in
    Chosen (profile_in a.n a.jobs.now) (pages_per_hour a.budget) c.choose.result
of_these c = subst (λ (p : Profile). Chosen p (pages_per_hour c.args.budget) c.choose.result) c.profile.ensures c.choose.ensures

pub returns-in-Ok : goal.returns-in-Ok
returns-in-Ok c = sound_left (of_these (goal.at.returns-in-Ok c).After-choose) c.in-Ok.is c.put_answer.ensures

pub returns-in-Err : goal.returns-in-Err
returns-in-Err c = refusal_left (of_these (goal.at.returns-in-Err c).After-choose) c.in-Err.is c.result.ensures
