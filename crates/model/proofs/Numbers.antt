-- Need and loss, tried on the third row of profile A's table: metadata that is summed, a commit as large as the largest of all jobs', a
-- need that is rounded for each job or down, a remainder left over another period or beside whole pages rounded up, second 0 counted, and
-- a rate that is rounded up, give other numbers here. Computed by the checker. Assumes nothing.
use mathlib.Core.Path.{◌≡◌, refl}
use mathlib.Core.List.{List, [], ◌∷◌}
use Prim.Native.Nat.{ℕ}
use native.Mathlib.Omega.{arith}
use Rattle.model.specs.declared.Seconds.{Seconds}
use Rattle.model.specs.declared.Job.{Job}
use Rattle.model.specs.Model.{seconds, pages_per_hour, last_of, running, data_of, commit_of, pages_at, sum_over, pages_in, exact_need, rounded_up, need, FitsBudget, cost, rate, job_loss, loss}

job : ℕ → ℕ → ℕ → ℕ → Job
job lo hi d g = record { lo = seconds lo; hi = seconds hi; «data» = d; metadata = g; stiffness = 1 }

profile_a : List Job
profile_a = job 20 25 9 1 ∷ job 43 74 18 2 ∷ job 45 100 36 4 ∷ []

third_row : List Seconds
third_row = seconds 23 ∷ seconds 69 ∷ seconds 69 ∷ []

-- 3,600 times 87 pages over 69 seconds
third_exact : exact_need profile_a third_row ≡ record { whole = pages_per_hour 4539; remainder = record { 0 = 9 } }
unfolding exact_need pages_in sum_over pages_at running data_of commit_of last_of profile_a job third_row
third_exact = refl

-- and over 66 seconds, of which the first period is a third
fourth_exact : exact_need profile_a (seconds 22 ∷ seconds 66 ∷ seconds 66 ∷ []) ≡ record { whole = pages_per_hour 4745; remainder = record { 0 = 30 } }
unfolding exact_need pages_in sum_over pages_at running data_of commit_of last_of profile_a job
fourth_exact = refl

third_need : need profile_a third_row ≡ pages_per_hour 4540
unfolding need rounded_up exact_need pages_in sum_over pages_at running data_of commit_of last_of profile_a job third_row
third_need = refl

-- so it does not fit 4,539 pages per hour, which are its whole pages
third_unfit : FitsBudget profile_a third_row (pages_per_hour 4539) → ⊥
unfolding need rounded_up exact_need pages_in sum_over pages_at running data_of commit_of last_of profile_a job third_row
third_unfit h = omega (arith, h)

-- second 0 is not counted, and the last second is
pages_before_last : pages_in (seconds 68) profile_a third_row ≡ 20
unfolding pages_in sum_over pages_at running data_of commit_of profile_a job third_row
pages_before_last = refl

pages_with_last : pages_in (seconds 69) profile_a third_row ≡ 87
unfolding pages_in sum_over pages_at running data_of commit_of profile_a job third_row
pages_with_last = refl

third_loss : loss profile_a third_row ≡ 1694382
unfolding loss job_loss rate cost profile_a job third_row
third_loss = refl
