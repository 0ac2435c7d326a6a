-- Records one after the other: the step of the loops that go through a profile's records and read them.
-- Assumes nothing.
use mathlib.Core.Path.{◌≡◌, refl, sym, ◌∙◌, ap}
use mathlib.Core.List.{List, [], ◌∷◌, ◌++◌, map, map-append}
use Prim.Native.Nat.{ℕ, zero, suc, ◌+◌, ◌*◌, ◌-◌, ◌/◌, ◌%◌, ◌≤◌, ◌<◌}
use native.Mathlib.Nat.{div-one, mul-one, add-zero}
use native.Mathlib.Numerals.{add-one}
use native.Mathlib.Omega.{arith}
use lib.ListN.{length, get_or, take, drop, set, replicate, length-map}
use lib.Seq.{drop-drop, set_at, append_snoc}
use Rattle.model.specs.declared.Job.{Job}
use Rattle.model.specs.Model.{Verdict, sound, no_job, or_else, first_refused, padded}
use Rattle.codec.specs.Packing.{bits, pack, unpack, recut}
use Rattle.codec.specs.Layout.{job_widths, byte_widths}
use Rattle.profile_read.specs.Reading.{header_of, count_of, records_in, job_of, judge_record}
use Rattle.profile_read.specs.Fields.{edition_of, fields_at, record_of, judge_cut}

-- the two fields of the first byte
pub header_fields : (bytes : List ℕ) → 1 ≤ length bytes → header_of bytes ≡ get_or bytes 0 0 / 16 ∷ get_or bytes 0 0 % 16 ∷ []
unfolding header_of recut pack unpack bits
header_fields [] h = absurd (omega arith)
header_fields (b ∷ bytes) h = simp (mul-one, add-zero, div-one)

pub edition_is : (bytes : List ℕ) → 1 ≤ length bytes → edition_of bytes ≡ get_or bytes 0 0 / 16
edition_is bytes h = ap (λ (l : List ℕ). get_or l 0 0) (header_fields bytes h)

pub count_is : (bytes : List ℕ) → 1 ≤ length bytes → count_of bytes ≡ get_or bytes 0 0 % 16
count_is bytes h = ap (λ (l : List ℕ). get_or l 1 0) (header_fields bytes h)

-- one record more, in front
pub records_step : (bytes : List ℕ) (k n : ℕ) → k < n →
    records_in (n - k) (drop (1 + 8 * k) bytes) ≡ fields_at bytes k ∷ records_in (n - (k + 1)) (drop (1 + 8 * (k + 1)) bytes)
unfolding records_in
records_step bytes k n h =
    let e : n - k ≡ suc (n - (k + 1)) = omega arith in
    let f : 1 + 8 * (k + 1) ≡ 1 + 8 * k + 8 = omega arith in
    rw (e, f, drop-drop 8 (1 + 8 * k) bytes)

pub records_end : (bytes : List ℕ) (k n : ℕ) → n ≤ k → records_in (n - k) (drop (1 + 8 * k) bytes) ≡ []
unfolding records_in
records_end bytes k n h =
    let e : n - k ≡ 0 = omega arith in
    rw e

-- the verdict on the records from the k-th on: the k-th one's, or else that of those after it
abbrev pub judged_from : List ℕ → ℕ → ℕ → Verdict
judged_from bytes k n = first_refused judge_record k (records_in (n - k) (drop (1 + 8 * k) bytes))

pub one_judged : (bytes : List ℕ) (k n : ℕ) → k < n →
    judged_from bytes k n ≡ or_else (judge_cut (record_of (fields_at bytes k)) (k + 1)) (judged_from bytes (k + 1) n)
unfolding first_refused judge_record
one_judged bytes k n h = ap (first_refused judge_record k) (records_step bytes k n h)

pub all_judged : (bytes : List ℕ) (k n : ℕ) → n ≤ k → judged_from bytes k n ≡ sound
unfolding first_refused
all_judged bytes k n h = ap (first_refused judge_record k) (records_end bytes k n h)

-- one record more, behind
snoc_from : (k : ℕ) (l : List ℕ) → records_in (suc k) l ≡ records_in k l ++ (recut (byte_widths 8) job_widths (take 8 (drop (8 * k) l)) ∷ [])
unfolding records_in
snoc_from zero l = refl
snoc_from (suc k) l =
    let cut : List ℕ → List ℕ = λ m. recut (byte_widths 8) job_widths (take 8 m) in
    let place : 8 + 8 * k ≡ 8 * suc k = omega arith in
    let next = drop-drop (8 * k) 8 l ∙ ap (λ (n : ℕ). drop n l) place in
    ap (λ (rs : List (List ℕ)). cut l ∷ rs) (snoc_from k (drop 8 l) ∙ ap (λ (m : List ℕ). records_in k (drop 8 l) ++ (cut m ∷ [])) next)

pub records_snoc : (bytes : List ℕ) (k : ℕ) → records_in (suc k) (drop 1 bytes) ≡ records_in k (drop 1 bytes) ++ (fields_at bytes k ∷ [])
records_snoc bytes k =
    let more : List ℕ → List (List ℕ) = λ l. records_in k (drop 1 bytes) ++ (recut (byte_widths 8) job_widths (take 8 l) ∷ []) in
    snoc_from k (drop 1 bytes) ∙ ap more (drop-drop (8 * k) 1 bytes)

pub length_records : (k : ℕ) (l : List ℕ) → length (records_in k l) ≡ k
unfolding records_in
length_records zero l = refl
length_records (suc k) l = ap suc (length_records k (drop 8 l))

-- the jobs of the first k records, and zeros in the places beyond
abbrev pub jobs_read : List ℕ → ℕ → List Job
jobs_read bytes k = map job_of (records_in k (drop 1 bytes)) ++ replicate (8 - k) no_job

pub job_read : (bytes : List ℕ) (k : ℕ) → k < 8 → set (jobs_read bytes k) k (job_of (fields_at bytes k)) ≡ jobs_read bytes (k + 1)
job_read bytes k h =
    let records = records_in k (drop 1 bytes) in
    let read = map job_of records in
    let j = job_of (fields_at bytes k) in
    let zeros = replicate (8 - (k + 1)) no_job in
    let place : length read ≡ k = length-map records job_of ∙ length_records k (drop 1 bytes) in
    let room : 8 - k ≡ suc (8 - (k + 1)) = omega arith in
    let grown : read ++ (j ∷ []) ≡ map job_of (records_in (suc k) (drop 1 bytes)) =
    sym (ap (map job_of) (records_snoc bytes k) ∙ map-append job_of records (fields_at bytes k ∷ [])) in
    ap (λ (n : ℕ). set (read ++ replicate n no_job) k j) room
    ∙ set_at read no_job zeros j k place
    ∙ sym (append_snoc read j zeros)
    ∙ ap (λ (l : List Job). l ++ zeros) grown
    ∙ ap (λ (n : ℕ). map job_of (records_in n (drop 1 bytes)) ++ zeros) (sym (add-one k))

pub eight_read : (bytes : List ℕ) (n : ℕ) → padded no_job (map job_of (records_in n (drop 1 bytes))) ≡ jobs_read bytes n
eight_read bytes n =
    let records = records_in n (drop 1 bytes) in
    ap (λ (k : ℕ). map job_of records ++ replicate (8 - k) no_job) (length-map records job_of ∙ length_records n (drop 1 bytes))
