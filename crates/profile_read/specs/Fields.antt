-- Names for what this crate's own functions hand to one another. No public contract cites this file.
-- Assumes nothing.
use Rattle.std.specs.Prelude.{List, map, not, ℕ, ◌+◌, ◌*◌, get_or, take, drop, eqb}
use Rattle.model.specs.declared.Profile.{Profile}
use Rattle.model.specs.declared.Refusal.TheVariants.{Spare}
use Rattle.model.specs.Model.{Verdict, sound, refuse_if, or_else, judge_interval_and_stiffness, padded, no_job}
use Rattle.codec.specs.Packing.{recut}
use Rattle.codec.specs.Layout.{job_widths, byte_widths}
use Rattle.profile_read.specs.declared.Record.{Record}
use Rattle.profile_read.specs.Reading.{header_of, job_of, records_in}

-- The edition in the first byte.
abbrev pub edition_of : List ℕ → ℕ
edition_of bytes = get_or (header_of bytes) 0 0

-- A record from its fields.
abbrev pub record_of : List ℕ → Record
record_of fields = record { job = job_of fields; spare = get_or fields 5 0 }

-- The fields of the record at place k, counted from 0.
abbrev pub fields_at : List ℕ → ℕ → List ℕ
fields_at bytes k = recut (byte_widths 8) job_widths (take 8 (drop (1 + 8 * k) bytes))

-- `judge_record` of a record that is cut already.
abbrev pub judge_cut : Record → ℕ → Verdict
judge_cut r k = or_else (judge_interval_and_stiffness r.job k) (refuse_if (not (eqb r.spare 0)) (Spare k) sound)

-- The values of n records.
abbrev pub profile_of : List ℕ → ℕ → Profile
profile_of bytes n = record { n = n; jobs = padded no_job (map job_of (records_in n (drop 1 bytes))) }
