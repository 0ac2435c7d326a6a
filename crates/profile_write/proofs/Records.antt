-- Records one after the other: the step of the loop that writes a profile's records.
-- Assumes nothing.
use mathlib.Core.Path.{◌≡◌, refl, sym, ◌∙◌, ap}
use mathlib.Core.List.{List, [], ◌∷◌, ◌++◌, append_assoc, flat_map}
use Prim.Native.Nat.{ℕ, ◌+◌, ◌*◌, ◌≤◌}
use native.Mathlib.Nat.{div-one, mul-one, add-zero, zero-add}
use native.Mathlib.Numerals.{add-one}
use native.Mathlib.Omega.{arith}
use lib.ListN.{length, get_or, take, drop, set, length-append}
use lib.Seq.{drop-drop, take_at, drop-append-add}
use Rattle.model.specs.declared.Job.{Job}
use Rattle.model.specs.declared.Profile.{Profile}
use Rattle.model.specs.Model.{no_job, entries, jobs_of}
use Rattle.model.proofs.Entries.{entries_snoc, length_entries}
use Rattle.model.proofs.Lists.{flat_length, flat_snoc}
use Rattle.codec.specs.Packing.{bits, pack, unpack, recut}
use Rattle.codec.specs.Layout.{header_widths, job_widths, byte_widths, fields_of, record_bytes, profile_bytes, profile_length}
use Rattle.codec.proofs.Packing.{length_recut}

-- the bytes of one job, and of one job more, behind
abbrev pub job_bytes : Job → List ℕ
job_bytes j = recut job_widths (byte_widths 8) (fields_of j)

pub record_bytes_snoc : (js : List Job) (j : Job) → record_bytes (js ++ (j ∷ [])) ≡ record_bytes js ++ job_bytes j
unfolding record_bytes
record_bytes_snoc js j = flat_snoc job_bytes js j

pub length_record_bytes : (js : List Job) → length (record_bytes js) ≡ 8 * length js
unfolding record_bytes
length_record_bytes js = flat_length job_bytes 8 (λ j. length_recut job_widths (byte_widths 8) (fields_of j)) js

pub length_profile_bytes : (p : Profile) → length (profile_bytes p) ≡ profile_length p.n
unfolding profile_bytes
length_profile_bytes p =
    length-append (recut header_widths (byte_widths 1) (1 ∷ p.n ∷ [])) (record_bytes (jobs_of p))
    ∙ omega (arith, length_recut header_widths (byte_widths 1) (1 ∷ p.n ∷ []), length_record_bytes (jobs_of p), length_entries no_job p.jobs 0 p.n)

-- the first byte of a profile of n jobs
pub header_byte : (n : ℕ) → recut header_widths (byte_widths 1) (1 ∷ n ∷ []) ≡ (16 + n) ∷ []
unfolding recut pack unpack bits
header_byte n = simp (mul-one, add-zero, div-one)

-- a buffer that held `old`, after k jobs: the first byte and their records stand at the front
module _ (p : Profile) (old : List ℕ) where
  unfoldable pub filled : ℕ → List ℕ
  filled k = (16 + p.n) ∷ (record_bytes (entries no_job p.jobs 0 k) ++ drop (1 + 8 * k) old)

  pub nothing_filled : 1 ≤ length old → filled 0 ≡ set old 0 (16 + p.n)
  unfolding filled record_bytes entries flat_map
  nothing_filled = first old
    where
      first : (l : List ℕ) → 1 ≤ length l → (16 + p.n) ∷ drop 1 l ≡ set l 0 (16 + p.n)
      first [] h = absurd (omega arith)
      first (b ∷ l) h = refl

  pub one_filled : (k : ℕ) →
      filled (k + 1) ≡ take (1 + 8 * k) (filled k) ++ (unpack (byte_widths 8) (pack job_widths (fields_of (get_or p.jobs k no_job))) ++ drop (1 + 8 * k + 8) (filled k))
  unfolding filled recut
  one_filled k =
      let j = get_or p.jobs k no_job in
      let js = entries no_job p.jobs 0 k in
      let at = 1 + 8 * k in
      let P = (16 + p.n) ∷ record_bytes js in
      let rest = drop at old in
      let E = drop (1 + 8 * (k + 1)) old in
      let size : length P ≡ at = omega (arith, length_record_bytes js, length_entries no_job p.jobs 0 k) in
      let front : take at (P ++ rest) ≡ P = take_at P rest at size in
      let next : at + 8 ≡ 1 + 8 * (k + 1) = omega arith in
      let back : drop (at + 8) (P ++ rest) ≡ E =
      ap (λ (n : ℕ). drop (n + 8) (P ++ rest)) (sym size) ∙ drop-append-add P rest 8 ∙ drop-drop 8 at old ∙ ap (λ (n : ℕ). drop n old) next in
      let more : entries no_job p.jobs 0 (k + 1) ≡ js ++ (j ∷ []) =
      ap (entries no_job p.jobs 0) (add-one k) ∙ entries_snoc no_job p.jobs 0 k ∙ ap (λ (m : ℕ). js ++ (get_or p.jobs m no_job ∷ [])) (zero-add k) in
      let joined : record_bytes (entries no_job p.jobs 0 (k + 1)) ≡ record_bytes js ++ job_bytes j = ap record_bytes more ∙ record_bytes_snoc js j in
      rw (front, back, joined) (ap (λ (l : List ℕ). (16 + p.n) ∷ l) (append_assoc (record_bytes js) (job_bytes j) E))

  pub all_filled : (k : ℕ) → k ≡ p.n → filled k ≡ profile_bytes p ++ drop (profile_length p.n) old
  unfolding filled profile_bytes
  all_filled k e = rw (e, header_byte p.n) refl

-- a record is as wide as its eight bytes
pub same_bits : bits job_widths ≡ bits (byte_widths 8)
unfolding bits
same_bits = refl

-- and the two fields of the header as wide as one
pub header_bits : bits header_widths ≡ bits (byte_widths 1)
unfolding bits
header_bits = refl
