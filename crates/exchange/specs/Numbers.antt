-- Which numbers stand for profiles, answers and verdicts where C lends and gets them. The public contracts of C's functions
-- cite this. Assumes nothing.
use mathlib.Core.List.{List, [], ◌∷◌, ◌++◌, map, flat_map}
use Rattle.std.specs.Prelude.{Result, Ok, Err, ℕ, ◌+◌, ◌*◌, ◌-◌, ◌^◌, min, get_or}
use Rattle.model.specs.declared.Seconds.{Seconds}
use Rattle.model.specs.declared.ExactNeed.{ExactNeed}
use Rattle.model.specs.declared.Job.{Job}
use Rattle.model.specs.declared.Profile.{Profile}
use Rattle.model.specs.declared.Refusal.{Refusal}
use Rattle.model.specs.Model.{seconds, no_job, entries, number_of, detail_of}

-- A verdict as one number: the refusal's number above 48 bits of detail. A detail that they do not hold, which no input brings about,
-- is told as their greatest.
unfoldable pub result_of : {A : Type 0} → Result A Refusal → ℕ
result_of r = number_of r * 2 ^ 48 + min (detail_of r) (2 ^ 48 - 1)

-- A count as one number, within 48 bits likewise, or the refusal in its place.
unfoldable pub counted_of : Result ℕ Refusal → ℕ
counted_of (Ok count) = min count (2 ^ 48 - 1)
counted_of (Err refusal) = result_of {A = ℕ} (Err refusal)

-- The job whose five numbers stand from a place on: lo, hi, data, metadata, stiffness.
abbrev pub job_in : List ℕ → ℕ → Job
job_in numbers at =
    record { lo = seconds (get_or numbers at 0); hi = seconds (get_or numbers (at + 1) 0); «data» = get_or numbers (at + 2) 0; metadata = get_or numbers (at + 3) 0; stiffness = get_or numbers (at + 4) 0 }

-- A profile as n and 40 numbers.
abbrev pub profile_in : ℕ → List ℕ → Profile
profile_in n numbers =
    record { n = n; jobs = job_in numbers 0 ∷ job_in numbers 5 ∷ job_in numbers 10 ∷ job_in numbers 15 ∷ job_in numbers 20 ∷ job_in numbers 25 ∷ job_in numbers 30 ∷ job_in numbers 35 ∷ [] }

-- A job's five numbers, and the 41 of a profile: n, then those of each of its eight jobs.
abbrev pub job_numbers : Job → List ℕ
job_numbers j = j.lo.0 ∷ j.hi.0 ∷ j.«data» ∷ j.metadata ∷ j.stiffness ∷ []

unfoldable pub jobs_numbers : List Job → List ℕ
jobs_numbers js = flat_map job_numbers js

unfoldable pub numbers_of : Profile → List ℕ
numbers_of p = p.n ∷ jobs_numbers (entries no_job p.jobs 0 8)

-- Eight numbers as periods.
abbrev pub eight_periods_in : List ℕ → List Seconds
eight_periods_in numbers = map seconds (entries 0 numbers 0 8)

-- A score as three numbers: the need's whole pages and its remainder, and the loss.
abbrev pub score_of : ExactNeed → ℕ → List ℕ
score_of need loss = need.whole.0 ∷ need.remainder.0 ∷ loss ∷ []

-- A plan as eleven numbers: its score, and eight periods.
unfoldable pub answer_of : ExactNeed → ℕ → List Seconds → List ℕ
answer_of need loss periods = score_of need loss ++ map (λ t. t.0) (entries (seconds 0) periods 0 8)
