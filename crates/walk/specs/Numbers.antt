-- A profile's numbers as the walks are lent them, job by job. Contracts of inner functions cite this, and those of no
-- entry point.
-- Assumes nothing.
use Rattle.std.specs.Prelude.{◌≡◌, List, [], ◌∷◌, ℕ, ◌+◌, ◌-◌, ◌≤◌, ◌<◌, max, length, get_or}
use Rattle.model.specs.declared.Job.{Job}
use Rattle.model.specs.declared.Profile.{Profile}
use Rattle.model.specs.Model.{seconds, pages_per_hour, no_job, entries, cost, rate}
use Rattle.model.specs.Valid.{ValidJob}
use Rattle.step.specs.Step.{load, greatest_before, load_at}
use Rattle.walk.specs.declared.JobNumbers.{JobNumbers}
use Rattle.walk.specs.declared.Numbers.{Numbers}
use Rattle.walk.specs.Walk.{least_needs}

-- The job at place k of a profile.
abbrev pub job_at : Profile → ℕ → Job
job_at p k = get_or p.jobs k no_job

-- What the jobs from place k on need at least.
abbrev pub needs_from : Profile → ℕ → ℕ
needs_from p k = least_needs (greatest_before p k) (entries no_job p.jobs k (p.n - k))

-- The numbers of the job at place k.
abbrev pub numbers_of : Profile → ℕ → JobNumbers
numbers_of p k = record {
  lo = (job_at p k).lo;
  hi = (job_at p k).hi;
  load = load_at p k;
  cost = cost (job_at p k);
  fastest = rate (job_at p k) (job_at p k).lo;
  later = pages_per_hour (needs_from p (k + 1));
  stiffness = (job_at p k).stiffness;
}

-- Zeros stand for a job that there is not.
abbrev pub no_numbers : JobNumbers
no_numbers = record { lo = seconds 0; hi = seconds 0; load = 0; cost = 0; fastest = pages_per_hour 0; later = pages_per_hour 0; stiffness = 0 }

-- The numbers that stand at place k.
abbrev pub numbers_at : Numbers → ℕ → JobNumbers
numbers_at m k = get_or m.jobs k no_numbers

-- A profile's numbers, as far as they are made: those of its jobs from place k on.
pub record NumbersFrom (p : Profile) (k : ℕ) (m : Numbers) : Type 0 where
  pub count : m.n ≡ p.n
  pub are : (i : ℕ) → k ≤ i → i < p.n → numbers_at m i ≡ numbers_of p i

module _ (m : Numbers) where
  -- The numbers of the job j, which the jobs js follow, stand at place i, `greatest` being the greatest metadata before
  -- it: its interval, the pages of a run for need and for loss, its rate at the shortest period, what the jobs after it
  -- need at least, its stiffness.
  pub record HoldsJob (i greatest : ℕ) (j : Job) (js : List Job) : Type 0 where
    pub valid : ValidJob j
    pub shortest : (numbers_at m i).lo.0 ≡ j.lo.0
    pub longest : (numbers_at m i).hi.0 ≡ j.hi.0
    pub for_need : (numbers_at m i).load ≡ load greatest j
    pub for_loss : (numbers_at m i).cost ≡ cost j
    pub fastest : (numbers_at m i).fastest ≡ rate j j.lo
    pub later : (numbers_at m i).later.0 ≡ least_needs (max greatest j.metadata) js
    pub stiff : (numbers_at m i).stiffness ≡ j.stiffness

  abbrev pub HoldsJobs : ℕ → ℕ → List Job → Type 0
  HoldsJobs i greatest [] = Unit {0}
  HoldsJobs i greatest (j ∷ js) = HoldsJob i greatest j js × HoldsJobs (i + 1) (max greatest j.metadata) js

  -- The jobs js stand from place i on, and are the last.
  pub record Held (i greatest : ℕ) (js : List Job) : Type 0 where
    pub count : i + length js ≡ m.n
    pub most : m.n ≤ 8
    pub jobs : HoldsJobs i greatest js
