-- What scoring answers (document 01, Quantities and Refusal numbers). Cited by the public contract.
-- Assumes nothing.
use Rattle.std.specs.Prelude.{Result, Ok, Err, List, ◌∷◌, ℕ, ◌+◌}
use Rattle.model.specs.declared.Seconds.{Seconds}
use Rattle.model.specs.declared.Job.{Job}
use Rattle.model.specs.declared.Profile.{Profile}
use Rattle.model.specs.declared.Refusal.{Refusal}
use Rattle.model.specs.declared.Refusal.TheVariants.{Periods}
use Rattle.model.specs.Model.{seconds, jobs_of, periods_of, Allowed, Permitted, exact_need, loss, ProfileFirst}
use Rattle.score.specs.declared.Scored.{Scored}

-- The number, from 1, of the first job whose period is not allowed after the one before: those before it are (Refusal numbers, 13).
pub data FirstOut : Seconds → List Job → List Seconds → ℕ → Type 0 where
  here : {before : Seconds} {j : Job} {js : List Job} {t : Seconds} {ts : List Seconds} → (Allowed j before t → ⊥) → FirstOut before (j ∷ js) (t ∷ ts) 1
  later : {before : Seconds} {j : Job} {js : List Job} {t : Seconds} {ts : List Seconds} {k : ℕ} → Allowed j before t → FirstOut t js ts k → FirstOut before (j ∷ js) (t ∷ ts) (k + 1)

-- What is answered for sound jobs: need and loss of permitted periods, else 13 with the first that is out (Refusal numbers, on scoring).
pub data Scoring (js : List Job) (ts : List Seconds) : Result Scored Refusal → Type 0 where
  permitted : Permitted js ts → Scoring js ts (Ok (record { need = exact_need js ts; loss = loss js ts }))
  first_out : {k : ℕ} → FirstOut (seconds 1) js ts k → Scoring js ts (Err (Periods k))

-- What `score` may answer for a profile and eight numbers: the profile's own refusal, and only then the rest.
abbrev pub Scores : Profile → List Seconds → Result Scored Refusal → Type 0
Scores p ts r = ProfileFirst p (Scoring (jobs_of p) (periods_of p ts)) r
