-- What was written reads back, and what was read is written back: each record's bits are cut there and back, by the laws of packing.
-- Assumes nothing.
use mathlib.Core.Path.{◌≡◌, refl, sym, ◌∙◌, ap, ap₂, subst}
use mathlib.Core.List.{List, [], ◌∷◌, ◌++◌, map, flat_map}
use Prim.Native.Nat.{ℕ, zero, suc, ◌+◌, ◌*◌, ◌≤◌}
use native.Mathlib.Nat.{suc-ne-zero}
use native.Mathlib.Omega.{arith}
use lib.ListN.{length, get_or, take, drop, length-map, take-append-drop, length-drop}
use lib.Seq.{take_at, drop_at}
use lib.Dec.{ltb}
use borrow.Author.Tests.{eq-eqb, ne_eqb, le-ltb, eqb-true, not-false}
use Rattle.std.specs.Prelude.{Result, Ok}
use Rattle.model.specs.declared.Job.{Job}
use Rattle.model.specs.declared.Profile.{Profile}
use Rattle.model.specs.declared.Refusal.{Refusal}
use Rattle.model.specs.declared.Refusal.TheVariants.{Room}
use Rattle.model.specs.Model.{sound, no_job, entries, jobs_of, refuse_if, or_else, if_sound, first_refused, judge_interval_and_stiffness, verdict_of, padded}
use Rattle.model.specs.Valid.{ValidJob, ValidJobs, Valid}
use Rattle.model.proofs.Entries.{length_entries, entries_front}
use Rattle.model.proofs.Validity.{in_range, in_range_sound, sound_valid, valid_sound}
use Rattle.model.proofs.Verdicts.{test_passed, both_sound, sound_passes}
use Rattle.codec.specs.Packing.{recut}
use Rattle.codec.specs.Layout.{header_widths, job_widths, byte_widths, profile_length, fields_of, record_bytes, profile_bytes}
use Rattle.codec.specs.Fit.{Within, Bytes}
use Rattle.codec.proofs.Bytes.{within_split}
use Rattle.codec.proofs.Packing.{recut_back, recut_within, length_recut}
use Rattle.profile_read.specs.Reading.{header_of, count_of, records_in, records_of, job_of, judge_record, judge_header, verdict_of_bytes, values_of, Reads}
use Rattle.profile_read.specs.Fields.{edition_of}
use Rattle.profile_read.proofs.Headers.{SoundHeader, sound_header}
use Rattle.profile_read.proofs.Records.{header_fields, edition_is, count_is, length_records}
use Rattle.profile_write.specs.Writing.{Writes}
use Rattle.profile_write.specs.Kept.{kept}
use Rattle.profile_write.proofs.Records.{length_profile_bytes, same_bits, header_bits}

-- Written, then read.

-- a valid job's fields lie within their widths
fields_within : (j : Job) → ValidJob j → Within job_widths (fields_of j)
fields_within j v = omega arith

-- the bytes of jobs are cut back into their fields
records_back : (js : List Job) → ValidJobs js → records_in (length js) (record_bytes js) ≡ map fields_of js
unfolding records_in record_bytes flat_map
records_back [] v = refl
records_back (j ∷ js) v =
    let R = recut job_widths (byte_widths 8) (fields_of j) in
    let size : length R ≡ 8 = length_recut job_widths (byte_widths 8) (fields_of j) in
    ap₂ ◌∷◌
    (ap (recut (byte_widths 8) job_widths) (take_at R (record_bytes js) 8 size)
    ∙ recut_back job_widths (byte_widths 8) (fields_of j) same_bits (fields_within j v.0))
    (ap (records_in (length js)) (drop_at R (record_bytes js) 8 size) ∙ records_back js v.1)

jobs_back : (js : List Job) → map job_of (map fields_of js) ≡ js
jobs_back [] = refl
jobs_back (j ∷ js) = ap (λ (l : List Job). j ∷ l) (jobs_back js)

-- a valid job's fields pass 5, 6 and 7
fields_sound : (j : Job) (k : ℕ) → ValidJob j → judge_record (fields_of j) k ≡ sound
unfolding judge_record refuse_if
fields_sound j k v = sound_passes {v = judge_interval_and_stiffness j k} _ refl (in_range_sound j k (omega arith))

all_fields_sound : (js : List Job) (k : ℕ) → ValidJobs js → first_refused judge_record k (map fields_of js) ≡ sound
unfolding first_refused
all_fields_sound [] k v = refl
all_fields_sound (j ∷ js) k v = sound_passes {v = judge_record (fields_of j) (k + 1)} _ refl (fields_sound j (k + 1) v.0) ∙ all_fields_sound js (k + 1) v.1

-- the bytes of a valid profile are accepted, and stand for its values
module _ (p : Profile) (v : Valid p) where
  abbrev head : List ℕ
  head = recut header_widths (byte_widths 1) (1 ∷ p.n ∷ [])

  length_head : length head ≡ 1
  length_head = length_recut header_widths (byte_widths 1) (1 ∷ p.n ∷ [])

  header_back : header_of (profile_bytes p) ≡ 1 ∷ p.n ∷ []
  unfolding header_of profile_bytes
  header_back =
      ap (recut (byte_widths 1) header_widths) (take_at head (record_bytes (jobs_of p)) 1 length_head)
      ∙ recut_back header_widths (byte_widths 1) (1 ∷ p.n ∷ []) header_bits (omega arith)

  count_back : count_of (profile_bytes p) ≡ p.n
  count_back = ap (λ (l : List ℕ). get_or l 1 0) header_back

  edition_back : edition_of (profile_bytes p) ≡ 1
  edition_back = ap (λ (l : List ℕ). get_or l 0 0) header_back

  all_records_back : records_of (profile_bytes p) ≡ map fields_of (jobs_of p)
  unfolding profile_bytes
  all_records_back =
      ap (λ (n : ℕ). records_in n (drop 1 (profile_bytes p))) (count_back ∙ sym (length_entries no_job p.jobs 0 p.n))
      ∙ ap (records_in (length (jobs_of p))) (drop_at head (record_bytes (jobs_of p)) 1 length_head)
      ∙ records_back (jobs_of p) v.jobs

  header_sound : judge_header (profile_bytes p) ≡ sound
  unfolding judge_header refuse_if
  header_sound =
      let size = length_profile_bytes p in
      simp (
        ne_eqb (length (profile_bytes p)) 0 (omega (arith, size)),
        edition_back,
        count_back,
        ne_eqb p.n 0 (omega arith),
        le-ltb 8 p.n v.n_to,
        eq-eqb (length (profile_bytes p)) (profile_length p.n) size,
      )

  bytes_accepted : verdict_of_bytes (profile_bytes p) ≡ sound
  unfolding verdict_of_bytes
  bytes_accepted =
      sound_passes {v = judge_header (profile_bytes p)} _ refl header_sound
      ∙ ap (first_refused judge_record 0) all_records_back
      ∙ all_fields_sound (jobs_of p) 0 v.jobs

  values_back : values_of (profile_bytes p) ≡ kept p
  values_back = λ i. record { n = count_back i; jobs = padded no_job ((ap (map job_of) all_records_back ∙ jobs_back (jobs_of p)) i) }

-- what was written reads back as the same values, with zeros beyond n
pub written_reads_back : (p : Profile) (old : List ℕ) {w : Result ℕ Refusal} {count : ℕ} {new : List ℕ} {r : Result Profile Refusal} → Writes p old w new → w ≡ Ok count →
    Reads (take count new) r → r ≡ Ok (kept p)
unfolding if_sound
written_reads_back p old {w} {count} {new} {r} written done read =
    let passed = both_sound (verdict_of p) (sym written.answer ∙ done) in
    let v = sound_valid p passed.0 in
    let own : profile_length p.n ≡ count = let told = (both_sound _ passed.1).1 in cc in
    let rest = drop (length (profile_bytes p)) old in
    let bytes : new ≡ profile_bytes p ++ rest = written.bytes ∙ ap (λ (a : Result ℕ Refusal). if_sound a (profile_bytes p ++ rest) old) done in
    let front : take count new ≡ profile_bytes p = ap₂ take (sym own) bytes ∙ take_at (profile_bytes p) rest (profile_length p.n) (length_profile_bytes p) in
    read
    ∙ ap (λ (l : List ℕ). or_else (verdict_of_bytes l) (Ok (values_of l))) front
    ∙ sound_passes {v = verdict_of_bytes (profile_bytes p)} _ refl (bytes_accepted p v)
    ∙ ap (λ (q : Profile). Ok q) (values_back p v)

-- Read, then written.

-- a record's six fields by their places, with the bounds that 15 bits give
record Six (fs : List ℕ) : Type 0 where
  data_to : get_or fs 2 0 ≤ 32767
  metadata_to : get_or fs 3 0 ≤ 32767
  all : get_or fs 0 0 ∷ get_or fs 1 0 ∷ get_or fs 2 0 ∷ get_or fs 3 0 ∷ get_or fs 4 0 ∷ get_or fs 5 0 ∷ [] ≡ fs

six : (fs : List ℕ) → Within job_widths fs → Six fs
six [] h = absurd h
six (a ∷ []) h = absurd h.1
six (a ∷ b ∷ []) h = absurd h.1.1
six (a ∷ b ∷ c ∷ []) h = absurd h.1.1.1
six (a ∷ b ∷ c ∷ d ∷ []) h = absurd h.1.1.1.1
six (a ∷ b ∷ c ∷ d ∷ e ∷ []) h = absurd h.1.1.1.1.1
six (a ∷ b ∷ c ∷ d ∷ e ∷ f ∷ []) h = record { data_to = omega arith; metadata_to = omega arith; all = refl }
six (a ∷ b ∷ c ∷ d ∷ e ∷ f ∷ g ∷ fs) h = absurd h.1.1.1.1.1.1

-- a record that passes 5, 6 and 7 is a valid job's, and its fields are that job's
record_valid : (fs : List ℕ) (k : ℕ) → Within job_widths fs → judge_record fs k ≡ sound → ValidJob (job_of fs)
unfolding judge_record
record_valid fs k h e =
    let r = in_range (job_of fs) k (both_sound (judge_interval_and_stiffness (job_of fs) k) e).0 in
    let s = six fs h in
    omega arith

record_kept : (fs : List ℕ) (k : ℕ) → Within job_widths fs → judge_record fs k ≡ sound → fields_of (job_of fs) ≡ fs
unfolding judge_record
record_kept fs k h e =
    let spare : get_or fs 5 0 ≡ 0 = eqb-true _ _ (not-false _ (test_passed _ _ _ (both_sound (judge_interval_and_stiffness (job_of fs) k) e).1).0) in
    ap (λ (x : ℕ). get_or fs 0 0 ∷ get_or fs 1 0 ∷ get_or fs 2 0 ∷ get_or fs 3 0 ∷ get_or fs 4 0 ∷ x ∷ []) (sym spare) ∙ (six fs h).all

-- records that are all sound are written back the same
records_kept : (n : ℕ) (bytes : List ℕ) (k : ℕ) → length bytes ≡ 8 * n → Within (byte_widths (8 * n)) bytes → first_refused judge_record k (records_in n bytes) ≡ sound
    → ValidJobs (map job_of (records_in n bytes)) × (record_bytes (map job_of (records_in n bytes)) ≡ bytes)
unfolding first_refused records_in record_bytes flat_map
records_kept zero [] k size h e = (tt, refl)
records_kept zero (b ∷ bytes) k size h e = absurd (suc-ne-zero _ size)
records_kept (suc n) bytes k size h e =
    let more : 8 * suc n ≡ 8 + 8 * n = omega arith in
    let parts = within_split 8 (8 * n) bytes (subst (λ (m : ℕ). Within (byte_widths m) bytes) more h) in
    let fs = recut (byte_widths 8) job_widths (take 8 bytes) in
    let w = recut_within (byte_widths 8) job_widths (take 8 bytes) (sym same_bits) parts.0 in
    let both = both_sound (judge_record fs (k + 1)) e in
    let rest = records_kept n (drop 8 bytes) (k + 1) (length-drop 8 bytes ∙ omega arith) parts.1 both.1 in
    let front : recut job_widths (byte_widths 8) (fields_of (job_of fs)) ≡ take 8 bytes =
    ap (recut job_widths (byte_widths 8)) (record_kept fs (k + 1) w both.0)
    ∙ recut_back (byte_widths 8) job_widths (take 8 bytes) (sym same_bits) parts.0 in
    ((record_valid fs (k + 1) w both.0, rest.0), ap₂ ◌++◌ front rest.1 ∙ take-append-drop 8 bytes)

-- accepted bytes stand for a valid profile, whose bytes they are
module _ (bytes : List ℕ) (h : Bytes bytes) (accepted : verdict_of_bytes bytes ≡ sound) where
  both : (judge_header bytes ≡ sound) × (first_refused judge_record 0 (records_of bytes) ≡ sound)
  unfolding verdict_of_bytes
  both = both_sound (judge_header bytes) accepted

  header : SoundHeader bytes
  header = sound_header bytes both.0

  parts : Within (byte_widths 1) (take 1 bytes) × Within (byte_widths (8 * count_of bytes)) (drop 1 bytes)
  parts = within_split 1 (8 * count_of bytes) bytes (subst (λ (n : ℕ). Within (byte_widths n) bytes) header.size h)

  kept_records : ValidJobs (map job_of (records_of bytes)) × (record_bytes (map job_of (records_of bytes)) ≡ drop 1 bytes)
  kept_records = records_kept (count_of bytes) (drop 1 bytes) 0 (length-drop 1 bytes ∙ omega (arith, header.size)) parts.1 both.1

  jobs_read_lem : jobs_of (values_of bytes) ≡ map job_of (records_of bytes)
  jobs_read_lem =
      let js = map job_of (records_of bytes) in
      let size : length js ≡ count_of bytes = length-map (records_of bytes) job_of ∙ length_records (count_of bytes) (drop 1 bytes) in
      ap (entries no_job (padded no_job js) 0) (sym size) ∙ entries_front no_job js _

  values_valid : Valid (values_of bytes)
  values_valid = record { n_from = header.n_from; n_to = header.n_to; jobs = subst ValidJobs (sym jobs_read_lem) kept_records.0 }

  header_kept : recut header_widths (byte_widths 1) (1 ∷ count_of bytes ∷ []) ≡ take 1 bytes
  unfolding header_of
  header_kept =
      let some : 1 ≤ length bytes = omega (arith, header.size) in
      let fields = sym (header_fields bytes some) in
      let two : 1 ∷ count_of bytes ∷ [] ≡ header_of bytes =
      ap₂ (λ (a b : ℕ). a ∷ b ∷ []) (sym header.edition ∙ edition_is bytes some) (count_is bytes some) ∙ fields in
      ap (recut header_widths (byte_widths 1)) two ∙ recut_back (byte_widths 1) header_widths (take 1 bytes) (sym header_bits) parts.0

  bytes_kept : profile_bytes (values_of bytes) ≡ bytes
  unfolding profile_bytes
  bytes_kept = ap₂ ◌++◌ header_kept (ap record_bytes jobs_read_lem ∙ kept_records.1) ∙ take-append-drop 1 bytes

-- accepted bytes are written back the same
pub read_writes_back : (bytes : List ℕ) (old : List ℕ) {r : Result Profile Refusal} {p : Profile} {w : Result ℕ Refusal} {new : List ℕ} → Bytes bytes → Reads bytes r → r ≡ Ok p →
    length bytes ≤ length old → Writes p old w new → (w ≡ Ok (length bytes)) × (take (length bytes) new ≡ bytes)
unfolding if_sound refuse_if
read_writes_back bytes old {r} {p} {w} {new} h read done room written =
    let passed = both_sound (verdict_of_bytes bytes) (sym read ∙ done) in
    let accepted = passed.0 in
    let values : p ≡ values_of bytes = let told = passed.1 in cc in
    let size = (header bytes h accepted).size in
    let wrote = subst (λ (q : Profile). Writes q old w new) values written in
    let valid = valid_sound (values_of bytes) (values_valid bytes h accepted) in
    let own = profile_length (count_of bytes) in
    let fits : refuse_if (ltb (length old) own) (Room own) sound ≡ sound = simp (le-ltb (length old) own (omega arith)) in
    let answer : w ≡ Ok (length bytes) =
    wrote.answer
    ∙ sound_passes {v = verdict_of (values_of bytes)} _ refl valid
    ∙ sound_passes {v = refuse_if (ltb (length old) own) (Room own) sound} _ refl fits
    ∙ ap (λ (k : ℕ). Ok k) (sym size) in
    let rest = drop (length bytes) old in
    let front : new ≡ bytes ++ rest =
    wrote.bytes
    ∙ ap (λ (a : Result ℕ Refusal). if_sound a (profile_bytes (values_of bytes) ++ drop (length (profile_bytes (values_of bytes))) old) old) answer
    ∙ ap (λ (l : List ℕ). l ++ drop (length l) old) (bytes_kept bytes h accepted) in
    (answer, ap (take (length bytes)) front ∙ take_at bytes rest (length bytes) refl)
