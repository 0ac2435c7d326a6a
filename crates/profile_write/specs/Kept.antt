-- What is left of a profile that is written and read back: what `written_reads_back` in proofs/RoundTrip.antt is stated with. No contract
-- cites this. Assumes nothing.
use Rattle.model.specs.declared.Profile.{Profile}
use Rattle.model.specs.Model.{no_job, jobs_of, padded}

-- A profile without what stands beyond its n jobs.
abbrev pub kept : Profile → Profile
kept p = record { n = p.n; jobs = padded no_job (jobs_of p) }
