-- What bytes stand for as a profile, and what reading them answers (document 01, Packing and Refusal numbers): the layout
-- of codec, cut back into its fields. Cited by public contracts. Assumes nothing.
use Rattle.std.specs.Prelude.{◌≡◌, Result, Ok, List, [], ◌∷◌, map, not, ◌||◌, ℕ, zero, suc, length, get_or, take, drop, eqb, ltb}
use Rattle.model.specs.declared.Job.{Job}
use Rattle.model.specs.declared.Profile.{Profile}
use Rattle.model.specs.declared.Refusal.{Refusal}
use Rattle.model.specs.declared.Refusal.TheVariants.{NoBytes, Edition, JobCount, Length, Spare}
use Rattle.model.specs.Model.{Verdict, sound, seconds, no_job, refuse_if, or_else, first_refused, judge_interval_and_stiffness, padded}
use Rattle.codec.specs.Packing.{recut}
use Rattle.codec.specs.Layout.{header_widths, job_widths, byte_widths, profile_length}

-- The two fields of the first byte, edition and n; and that n.
unfoldable pub header_of : List ℕ → List ℕ
header_of bytes = recut (byte_widths 1) header_widths (take 1 bytes)

abbrev pub count_of : List ℕ → ℕ
count_of bytes = get_or (header_of bytes) 1 0

-- The fields of k records that stand one after the other.
unfoldable pub records_in : ℕ → List ℕ → List (List ℕ)
records_in zero bytes = []
records_in (suc k) bytes = recut (byte_widths 8) job_widths (take 8 bytes) ∷ records_in k (drop 8 bytes)

abbrev pub records_of : List ℕ → List (List ℕ)
records_of bytes = records_in (count_of bytes) (drop 1 bytes)

abbrev pub job_of : List ℕ → Job
job_of fields = record { lo = seconds (get_or fields 0 0); hi = seconds (get_or fields 1 0); «data» = get_or fields 2 0; metadata = get_or fields 3 0; stiffness = get_or fields 4 0 }

-- 5, 6, then 7, for the record numbered k; its last field holds the spare bits.
unfoldable pub judge_record : List ℕ → ℕ → Verdict
judge_record fields k = or_else (judge_interval_and_stiffness (job_of fields) k) (refuse_if (not (eqb (get_or fields 5 0) 0)) (Spare k) sound)

-- 1, 2, 3, 4: the bytes as a whole.
unfoldable pub judge_header : List ℕ → Verdict
judge_header bytes =
    refuse_if (eqb (length bytes) 0) NoBytes
    (refuse_if (not (eqb (get_or (header_of bytes) 0 0) 1)) Edition
    (refuse_if (eqb (count_of bytes) 0 || ltb 8 (count_of bytes)) JobCount
    (refuse_if (not (eqb (length bytes) (profile_length (count_of bytes)))) Length sound)))

-- The verdict on a profile given as bytes: the whole, then the first bad record.
unfoldable pub verdict_of_bytes : List ℕ → Verdict
verdict_of_bytes bytes = or_else (judge_header bytes) (first_refused judge_record 0 (records_of bytes))

-- The values that bytes stand for.
abbrev pub values_of : List ℕ → Profile
values_of bytes = record { n = count_of bytes; jobs = padded no_job (map job_of (records_of bytes)) }

-- A profile of zeros.
abbrev pub no_profile : Profile
no_profile = record { n = 0; jobs = padded no_job [] }

-- What `read_profile` may answer to these bytes: the values, unless they are refused.
abbrev pub Reads : List ℕ → Result Profile Refusal → Type 0
Reads bytes r = r ≡ or_else (verdict_of_bytes bytes) (Ok (values_of bytes))
