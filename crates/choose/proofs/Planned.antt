-- The pages of a best plan, carried along from period to period. Assumes nothing.
use mathlib.Core.Path.{◌≡◌, refl, sym, ◌∙◌, ap, subst}
use mathlib.Core.List.{List, [], ◌∷◌}
use Prim.Native.Nat.{ℕ, zero, suc, ◌+◌, ◌≤◌, ◌<◌, zero-le}
use native.Mathlib.Omega.{arith}
use lib.ListN.{length, get_or}
use Rattle.model.specs.declared.Seconds.{Seconds}
use Rattle.model.specs.declared.Job.{Job}
use Rattle.model.specs.declared.Profile.{Profile}
use Rattle.model.specs.Model.{seconds, no_job, jobs_of, periods_of, Allowed, per_hour, exact_need, job_loss}
use Rattle.model.proofs.Entries.{entries_all, length_entries}
use Rattle.model.proofs.Allowing.{permitted_length}
use Rattle.step.specs.Step.{load_at, carried, NeedFits}
use Rattle.model.specs.Most.{most_pages}
use Rattle.model.proofs.Validity.{job_valid_at}
use Rattle.step.proofs.Bounds.{load_bound}
use Rattle.step.proofs.Along.{Along, along_fits, along_starts, along_allows, along_next, along_exact}
use Rattle.walk.specs.declared.JobNumbers.{JobNumbers}
use Rattle.walk.specs.declared.Numbers.{Numbers}
use Rattle.walk.specs.Numbers.{numbers_at}
use Rattle.choose.specs.Steps.{PlanHeld}

module _ {p : Profile} {m : Numbers} {ts : List Seconds} (h : PlanHeld p m ts) where
  pub all_held : length ts ≡ p.n
  all_held = permitted_length (seconds 1) (jobs_of p) ts h.permitted ∙ length_entries no_job p.jobs 0 p.n

  own : periods_of p ts ≡ ts
  own = entries_all (seconds 0) ts all_held

-- before a turn: what the jobs before place k write is carried along, whichever profile's plan it is
abbrev pub PeriodsLeft : Numbers → List Seconds → Seconds → ℕ → ℕ → Type 0
PeriodsLeft m ts before written k = (p : Profile) → PlanHeld p m ts → (lost : ℕ) × Along p ts k before written lost

pub first_periods : (m : Numbers) (ts : List Seconds) → PeriodsLeft m ts (seconds 1) 0 0
first_periods m ts = λ p h. (0, along_starts p ts)

module _ {m : Numbers} {ts : List Seconds} {before : Seconds} {written k : ℕ} (l : PeriodsLeft m ts before written k) where
  module _ (less : k < length ts) where
    -- the period at hand is allowed
    pub period_allowed : {p : Profile} → PlanHeld p m ts → Allowed (get_or p.jobs k no_job) before (get_or ts k (seconds 0))
    period_allowed h = along_allows (l _ h).1 h.valid (omega (arith, all_held h)) (rw (own h) h.permitted)

    -- the pages so far are few enough to be carried on, and so are its own
    pub period_fits : {p : Profile} → PlanHeld p m ts → NeedFits written before × ((get_or ts k (seconds 0)).0 ≤ 3600) × (before.0 ≤ 3600) × ((numbers_at m k).load ≤ most_pages)
    period_fits {p} h =
        let here : k < p.n = omega (arith, all_held h) in
        let j = job_valid_at p k h.valid here in
        let load : (numbers_at m k).load ≡ load_at p k = ap (λ (j : JobNumbers). j.load) (h.numbers.are k zero-le here) in
        (along_fits (l p h).1, omega (arith, (period_allowed h).below, j.hi_to), (l p h).1.to, rw load (load_bound _ _ j))

    pub next_period : PeriodsLeft m ts (get_or ts k (seconds 0)) (carried written before (get_or ts k (seconds 0)) (numbers_at m k).load) (k + 1)
    next_period = λ p h.
        (let here : k < p.n = omega (arith, all_held h) in
        let more = along_next (l p h).1 h.valid here (period_allowed h) in
        let load : (numbers_at m k).load ≡ load_at p k = ap (λ (j : JobNumbers). j.load) (h.numbers.are k zero-le here) in
        ((l p h).0 + job_loss (get_or p.jobs k no_job) (get_or ts k (seconds 0)), rw load more))

  -- past the last period
  pub all_periods : {p : Profile} → PlanHeld p m ts → length ts ≤ k → per_hour written before ≡ exact_need (jobs_of p) ts
  all_periods {p} h past = along_exact (l p h).1 (omega (arith, all_held h)) h.valid ∙ ap (exact_need (jobs_of p)) (own h)
