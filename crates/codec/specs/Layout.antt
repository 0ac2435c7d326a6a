-- A profile as bytes (document 01, Packing): which fields it has, how wide they are, and in which order they stand.
-- Cited by public contracts. Assumes nothing.
use mathlib.Core.List.{List, [], ◌∷◌, ◌++◌, flat_map}
use Rattle.std.specs.Prelude.{ℕ, ◌+◌, ◌*◌, replicate}
use Rattle.model.specs.declared.Job.{Job}
use Rattle.model.specs.declared.Profile.{Profile}
use Rattle.model.specs.Model.{jobs_of}
use Rattle.codec.specs.Packing.{recut}

-- The first byte: edition and n.
abbrev pub header_widths : List ℕ
header_widths = 4 ∷ 4 ∷ []

-- A job's record: lo, hi, d, g, w, spare.
abbrev pub job_widths : List ℕ
job_widths = 12 ∷ 12 ∷ 15 ∷ 15 ∷ 6 ∷ 4 ∷ []

-- The widths of k bytes.
abbrev pub byte_widths : ℕ → List ℕ
byte_widths k = replicate k 8

-- The length of a profile of n jobs in bytes.
abbrev pub profile_length : ℕ → ℕ
profile_length n = 1 + 8 * n

-- The fields of a job's record; the spare bits are zero.
abbrev pub fields_of : Job → List ℕ
fields_of j = j.lo.0 ∷ j.hi.0 ∷ j.«data» ∷ j.metadata ∷ j.stiffness ∷ 0 ∷ []

-- The bytes of job records, one after the other.
unfoldable pub record_bytes : List Job → List ℕ
record_bytes js = flat_map (λ j. recut job_widths (byte_widths 8) (fields_of j)) js

-- A profile as bytes: edition 1 and n, then the records.
unfoldable pub profile_bytes : Profile → List ℕ
profile_bytes p = recut header_widths (byte_widths 1) (1 ∷ p.n ∷ []) ++ record_bytes (jobs_of p)
