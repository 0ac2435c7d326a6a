-- Jobs and profiles within their bounds (document 01, Quantities): what a sound verdict means, as proofs/Validity.antt shows. Inner
-- functions ask for it; no contract of an entry point cites it. Assumes nothing.
use Rattle.std.specs.Prelude.{List, [], ◌∷◌, ◌≤◌}
use Rattle.model.specs.declared.Job.{Job}
use Rattle.model.specs.declared.Profile.{Profile}
use Rattle.model.specs.Model.{jobs_of}

-- A job within its bounds (Quantities).
pub record ValidJob (j : Job) : Type 0 where
  pub lo_from : 1 ≤ j.lo.0
  pub lo_to : j.lo.0 ≤ j.hi.0
  pub hi_to : j.hi.0 ≤ 3600
  pub data_to : j.«data» ≤ 32767
  pub metadata_to : j.metadata ≤ 32767
  pub stiffness_from : 1 ≤ j.stiffness
  pub stiffness_to : j.stiffness ≤ 32

-- Each of these jobs is valid.
abbrev pub ValidJobs : List Job → Type 0
ValidJobs [] = Unit {0}
ValidJobs (j ∷ js) = ValidJob j × ValidJobs js

-- A profile of 1 to 8 jobs, each within its bounds (Quantities).
pub record Valid (p : Profile) : Type 0 where
  pub n_from : 1 ≤ p.n
  pub n_to : p.n ≤ 8
  pub jobs : ValidJobs (jobs_of p)
