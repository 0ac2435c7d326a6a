-- The one bound behind every sum: a job runs at most once a second, with at most 65,534 pages and a stiffness of at most 32.
-- So eight jobs need at most 1,887,379,200 pages per hour and lose less than 2^64. Assumes nothing.
use Prim.Native.Nat.{ℕ, zero, suc, ◌*◌, ◌-◌, ◌/◌, ◌^◌, ◌≤◌, ◌<◌}
use native.Mathlib.Omega.{arith}
use native.Mathlib.Nat.{le_trans, mul-le-mul, mul-le-mul_left, pow-le-pow_left, pow-suc, pow-zero, one-mul, div-le_self, div-mul-le_self, le-div_iff_mul-le}
use mathlib.Core.Path.{◌≡◌, ◌∙◌, ap}
use mathlib.Core.List.{List, [], ◌∷◌}
use lib.ListN.{get_or}
use Rattle.model.specs.declared.Seconds.{Seconds}
use Rattle.model.specs.declared.Job.{Job}
use Rattle.model.specs.Model.{seconds, cost, PermittedAfter, rate, job_loss}
use Rattle.model.specs.Rounding.{round_up}
use Rattle.model.specs.Most.{most_pages, most_rate, most_loss}
use Rattle.model.specs.Valid.{ValidJob, ValidJobs}
use Rattle.model.proofs.Rounding.{round_up_le}

-- each permitted period is within the hour
pub period_to : (before : Seconds) (js : List Job) (ts : List Seconds) → ValidJobs js → PermittedAfter before js ts → (i : ℕ) → (get_or ts i (seconds 0)).0 ≤ 3600
period_to before [] [] v h i = omega arith
period_to before [] (t ∷ ts) v h i = absurd h
period_to before (j ∷ js) [] v h i = omega arith
period_to before (j ∷ js) (t ∷ ts) v h zero = le_trans h.0.below v.0.hi_to
period_to before (j ∷ js) (t ∷ ts) v h (suc i) = period_to t js ts v.1 h.1 i

pub cost_bound : (j : Job) → ValidJob j → cost j ≤ most_pages
unfolding cost
cost_bound j v = omega arith

-- so many pages once in t seconds
pub hourly_bound : (pages t : ℕ) → pages ≤ most_pages → 3600 * pages / t ≤ most_rate
hourly_bound pages t few = omega (arith, div-le_self (3600 * pages) t)

pub rate_bound : (j : Job) (t : ℕ) → ValidJob j → 3600 * cost j / t ≤ most_rate
rate_bound j t v = hourly_bound (cost j) t (cost_bound j v)

pub job_loss_bound : (j : Job) (t : Seconds) → ValidJob j → job_loss j t ≤ most_loss
unfolding job_loss rate
job_loss_bound j t v =
    let d : 3600 * cost j / j.lo.0 - 3600 * cost j / t.0 ≤ most_rate = omega (arith, rate_bound j j.lo.0 v) in
    mul-le-mul v.stiffness_to (pow-le-pow_left d 2)

-- the loss of eight jobs fits 64 bits
pub eight_losses : (l k : ℕ) → l ≤ most_loss * k → k ≤ 8 → l < 2 ^ 64
eight_losses l k h few = omega arith

-- k jobs that write at most 65,534 pages each in every second of `cycle` need at most k times the most
pub need_bound : (pages cycle k : ℕ) → 1 ≤ cycle → pages ≤ most_pages * cycle * k → round_up (3600 * pages) cycle ≤ most_rate * k
need_bound pages cycle k pos h = (round_up_le (3600 * pages) (most_rate * k) pos).1 (omega arith)

-- a rate falls as the period grows
pub rate_falls : (j : Job) {t u : Seconds} → 1 ≤ t.0 → t.0 ≤ u.0 → (rate j u).0 ≤ (rate j t).0
unfolding rate
rate_falls j {t} {u} pos h =
    let n = 3600 * cost j in
    (le-div_iff_mul-le pos).1 (le_trans (mul-le-mul_left (n / u.0) h) (div-mul-le_self n u.0))

pub square : (x : ℕ) → x ^ 2 ≡ x * x
square x = pow-suc x 1 ∙ ap (λ (y : ℕ). y * x) (pow-suc x 0 ∙ ap (λ (y : ℕ). y * x) (pow-zero x) ∙ one-mul x)
