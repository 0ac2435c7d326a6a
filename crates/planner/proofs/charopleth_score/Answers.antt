-- `planner::charopleth_score` meets its contract: the score for the profile and the periods that the numbers hold, handed on.
-- Assumes nothing.
use mathlib.Core.Path.{refl, subst₂}
use mathlib.Core.List.{List}
use Rattle.model.specs.declared.Seconds.{Seconds}
use Rattle.model.specs.declared.Profile.{Profile}
use Rattle.score.specs.Scoring.{Scores}
use Rattle.exchange.specs.Numbers.{profile_in, eight_periods_in}
use Rattle.planner.proofs.Left.{refusal_left, sound_left}
use Rattle.planner.proofs.charopleth_score.Goals.{After-score}
use Rattle.planner.proofs.charopleth_score.Goals as goal

-- the score is that of the profile and the periods which the numbers hold
of_these : (c : After-score) →
    let a = c.args in
    Scores (profile_in a.n a.jobs.now) (eight_periods_in a.periods.now) c.score.result
of_these c =
    let Scored : Profile → List Seconds → Type 0 = λ p ts. Scores p ts c.score.result in
    subst₂ Scored c.profile.ensures c.as_periods.ensures c.score.ensures

pub returns-in-Ok : goal.returns-in-Ok
returns-in-Ok c = sound_left (of_these (goal.at.returns-in-Ok c).After-score) c.in-Ok.is (rw (c.from.ensures, c.from-in-Ok.ensures) refl)

pub returns-in-Err : goal.returns-in-Err
returns-in-Err c = refusal_left (of_these (goal.at.returns-in-Err c).After-score) c.in-Err.is c.result.ensures
