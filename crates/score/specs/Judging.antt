-- The verdict on periods as tests, one after the other, so that it can be computed: worked cases are told by it, and the lines of the
-- ladder program ask whether periods score, through `score_verdict`. No contract of the planner's face cites this. Assumes nothing.
use Rattle.std.specs.Prelude.{Err, List, [], ◌∷◌, not, ℕ, ◌+◌}
use Rattle.model.specs.declared.Seconds.{Seconds}
use Rattle.model.specs.declared.Job.{Job}
use Rattle.model.specs.declared.Profile.{Profile}
use Rattle.model.specs.declared.Refusal.TheVariants.{Periods}
use Rattle.model.specs.Model.{Verdict, sound, seconds, jobs_of, periods_of, refuse_if, or_else, verdict_of}
use Rattle.model.specs.Testing.{allows}

-- 13 for the job numbered k, where its period is not allowed.
unfoldable pub judge_period : Job → Seconds → Seconds → ℕ → Verdict
judge_period j before t k = refuse_if (not (allows j before t)) (Periods k) sound

-- 13 for the first such job; the first of these is numbered k + 1.
unfoldable pub first_unpermitted : ℕ → Seconds → List Job → List Seconds → Verdict
first_unpermitted k before [] ts = sound
first_unpermitted k before (j ∷ js) [] = Err (Periods (k + 1))
first_unpermitted k before (j ∷ js) (t ∷ ts) = or_else (judge_period j before t (k + 1)) (first_unpermitted (k + 1) t js ts)

-- The profile's own verdict, then 13.
unfoldable pub score_verdict : Profile → List Seconds → Verdict
score_verdict p ts = or_else (verdict_of p) (first_unpermitted 0 (seconds 1) (jobs_of p) (periods_of p ts))
