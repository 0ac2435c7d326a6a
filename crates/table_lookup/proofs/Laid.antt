-- Table rows that stand in bytes one after the other are read at their places: each has sixteen bytes, whose bits are cut there and back.
-- Assumes nothing.
use mathlib.Core.Path.{◌≡◌, refl, sym, ◌∙◌, ap, ap₂}
use mathlib.Core.List.{List, [], ◌∷◌, ◌++◌, map, append-nil, append_assoc, Memᴰ, flat_map}
use Prim.Native.Nat.{ℕ, zero, suc, ◌+◌, ◌*◌, ◌-◌, ◌≤◌, ◌<◌}
use native.Mathlib.Nat.{zero-add, suc-add, not-suc-le-zero, le_of_suc-le-suc}
use native.Mathlib.Omega.{arith}
use lib.ListN.{length, get_or, take, drop, replicate, length-append, length-replicate}
use lib.Seq.{take_at, drop-append-add}
use Rattle.model.specs.declared.Seconds.{Seconds}
use Rattle.model.specs.declared.Job.{Job}
use Rattle.model.specs.declared.Profile.{Profile}
use Rattle.model.specs.Model.{seconds, pages_per_hour, no_job, entries, jobs_of, periods_of, PermittedAfter, Permitted, need, loss, padded}
use Rattle.model.specs.Valid.{ValidJobs, Valid}
use Rattle.model.proofs.Bounds.{period_to}
use Rattle.model.proofs.Entries.{length_entries, entries_front, entries_all, entries_same}
use Rattle.codec.specs.Packing.{bits, recut}
use Rattle.codec.specs.Layout.{byte_widths}
use Rattle.codec.specs.Fit.{Within, Bytes}
use Rattle.model.proofs.Allowing.{permitted_length}
use Rattle.codec.proofs.Packing.{recut_back, recut_within}
use Rattle.table.specs.Table.{table_bytes}
use Rattle.table.proofs.Best.{need_small}
use Rattle.table.proofs.TableRows.{get_d_padded}
use Rattle.table_row.specs.Table.{table_widths, table_row, row_fields, start_at, periods_at, loss_at}
use Rattle.table_row.proofs.Words.{seconds_again, length_table_row}

-- One row.

-- eight entries are the list and the zeros behind it
eight_entries : (ts : List Seconds) → length ts ≤ 8 → entries (seconds 0) ts 0 8 ≡ padded (seconds 0) ts
eight_entries ts few =
    let size : length (padded (seconds 0) ts) ≡ 8 =
    length-append ts (replicate (8 - length ts) (seconds 0)) ∙ omega (arith, length-replicate (8 - length ts) (seconds 0)) in
    entries_same (seconds 0) ts (padded (seconds 0) ts) 0 8 (λ j. sym (get_d_padded ts (8 - length ts) j)) ∙ entries_all (seconds 0) (padded (seconds 0) ts) size

-- the numbers that a row holds: its start, which is the need, and eight periods
abbrev pub fields_for : List Job → List Seconds → List ℕ
fields_for js ts = (need js ts).0 ∷ map (λ t. t.0) (entries (seconds 0) ts 0 8)

pub row_bits : bits table_widths ≡ bits (byte_widths 16)
unfolding bits
row_bits = refl

module _ (js : List Job) (v : ValidJobs js) (few : length js ≤ 8) (ts : List Seconds) (h : Permitted js ts) where
  fields_within : Within table_widths (fields_for js ts)
  unfolding entries
  fields_within = omega (arith, need_small js ts v few h, at 0, at 1, at 2, at 3, at 4, at 5, at 6, at 7)
    where
      at : (i : ℕ) → (get_or ts i (seconds 0)).0 ≤ 3600
      at = period_to (seconds 1) js ts v h

  row_within : Within (byte_widths 16) (table_row (need js ts) ts)
  unfolding table_row
  row_within = recut_within table_widths (byte_widths 16) (fields_for js ts) row_bits fields_within

  row_back : recut (byte_widths 16) table_widths (table_row (need js ts) ts) ≡ fields_for js ts
  unfolding table_row
  row_back = recut_back table_widths (byte_widths 16) (fields_for js ts) row_bits fields_within

-- Rows one after the other.

pub row_member : (rows : List (List Seconds)) (k : ℕ) → k < length rows → Memᴰ (get_or rows k []) rows
row_member [] k less = absurd (not-suc-le-zero less)
row_member (ts ∷ rows) zero less = Memᴰ.head refl
row_member (ts ∷ rows) (suc k) less = Memᴰ.tail (row_member rows k (le_of_suc-le-suc less))

pub member_row : {ts : List Seconds} {rows : List (List Seconds)} → Memᴰ ts rows → (k : ℕ) × (k < length rows) × (get_or rows k [] ≡ ts)
member_row (Memᴰ.head e) = (0, omega arith, sym e)
member_row (Memᴰ.tail m) =
    let r = member_row m in
    (suc r.0, omega (arith, r.1), r.2)

within_append : (k m : ℕ) (xs ys : List ℕ) → Within (byte_widths k) xs → Within (byte_widths m) ys → Within (byte_widths (k + m)) (xs ++ ys)
within_append zero m [] ys h g = rw (zero-add m) g
within_append zero m (x ∷ xs) ys h g = absurd h
within_append (suc k) m [] ys h g = absurd h
within_append (suc k) m (x ∷ xs) ys h g = rw (suc-add k m) (h.0, within_append k m xs ys h.1 g)

-- the sixteen bytes at a row's place, whatever stands behind the table
row_there : (js : List Job) (rows : List (List Seconds)) (rest : List ℕ) (k : ℕ) → k < length rows →
    take 16 (drop (16 * k) (table_bytes js rows ++ rest)) ≡ table_row (need js (get_or rows k [])) (get_or rows k [])
unfolding table_bytes flat_map
row_there js [] rest k less = absurd (not-suc-le-zero less)
row_there js (ts ∷ rows) rest zero less =
    let R = table_row (need js ts) ts in
    ap (take 16) (append_assoc R (table_bytes js rows) rest) ∙ take_at R (table_bytes js rows ++ rest) 16 (length_table_row (need js ts) ts)
row_there js (ts ∷ rows) rest (suc k) less =
    let R = table_row (need js ts) ts in
    let place : 16 * suc k ≡ length R + 16 * k = omega (arith, length_table_row (need js ts) ts) in
    ap₂ (λ (n : ℕ) (l : List ℕ). take 16 (drop n l)) place (append_assoc R (table_bytes js rows) rest)
    ∙ ap (take 16) (drop-append-add R (table_bytes js rows ++ rest) (16 * k))
    ∙ row_there js rows rest k (le_of_suc-le-suc less)

-- bytes that begin with the rows
pub record Laid (js : List Job) (rows : List (List Seconds)) (bytes : List ℕ) : Type 0 where
  pub rest : List ℕ
  pub is : bytes ≡ table_bytes js rows ++ rest

-- the rows alone
pub laid_alone : (js : List Job) (rows : List (List Seconds)) → Laid js rows (table_bytes js rows)
laid_alone js rows = record { rest = []; is = sym (append-nil (table_bytes js rows)) }

abbrev pub AllPermitted : List Job → List (List Seconds) → Type 0
AllPermitted js rows = (ts : List Seconds) → Memᴰ ts rows → Permitted js ts

-- each of a table's bytes is one
pub table_is_bytes : (js : List Job) → ValidJobs js → length js ≤ 8 → (rows : List (List Seconds)) → AllPermitted js rows → Bytes (table_bytes js rows)
unfolding table_bytes flat_map
table_is_bytes js v few [] all = tt
table_is_bytes js v few (ts ∷ rows) all =
    let R = table_row (need js ts) ts in
    let row : Within (byte_widths 16) R = row_within js v few ts (all ts (Memᴰ.head refl)) in
    let rest = table_is_bytes js v few rows (λ us m. all us (Memᴰ.tail m)) in
    rw (length-append R (table_bytes js rows), length_table_row (need js ts) ts) (within_append 16 (length (table_bytes js rows)) R (table_bytes js rows) row rest)

-- what is read at a row's place
module _ (js : List Job) (v : ValidJobs js) (few : length js ≤ 8) {rows : List (List Seconds)} (all : AllPermitted js rows)
    {bytes : List ℕ} (l : Laid js rows bytes) (k : ℕ) (less : k < length rows) where
  permitted_there : Permitted js (get_or rows k [])
  permitted_there = all (get_or rows k []) (row_member rows k less)

  pub fields_at : row_fields bytes k ≡ fields_for js (get_or rows k [])
  unfolding row_fields
  fields_at =
      ap (λ (s : List ℕ). recut (byte_widths 16) table_widths (take 16 (drop (16 * k) s))) l.is
      ∙ ap (recut (byte_widths 16) table_widths) (row_there js rows l.rest k less)
      ∙ row_back js v few (get_or rows k []) permitted_there

  pub start_at_lem : start_at bytes k ≡ need js (get_or rows k [])
  start_at_lem = ap (λ (fs : List ℕ). pages_per_hour (get_or fs 0 0)) fields_at

  pub periods_at_lem : periods_at bytes k ≡ padded (seconds 0) (get_or rows k [])
  periods_at_lem =
      ap (λ (fs : List ℕ). map seconds (drop 1 fs)) fields_at
      ∙ seconds_again (entries (seconds 0) (get_or rows k []) 0 8)
      ∙ eight_entries (get_or rows k []) (omega (arith, permitted_length (seconds 1) js (get_or rows k []) permitted_there))

-- the periods that count are the list itself
pub unpadded : (p : Profile) (ts : List Seconds) → Permitted (jobs_of p) ts → periods_of p (padded (seconds 0) ts) ≡ ts
unpadded p ts h =
    ap (entries (seconds 0) (padded (seconds 0) ts) 0) (sym (length_entries no_job p.jobs 0 p.n) ∙ sym (permitted_length (seconds 1) (jobs_of p) ts h))
    ∙ entries_front (seconds 0) ts (replicate (8 - length ts) (seconds 0))

pub few_jobs : (p : Profile) → Valid p → length (jobs_of p) ≤ 8
few_jobs p v = omega (arith, length_entries no_job p.jobs 0 p.n, v.n_to)

module _ (p : Profile) (v : Valid p) {rows : List (List Seconds)} (all : AllPermitted (jobs_of p) rows)
    {bytes : List ℕ} (l : Laid (jobs_of p) rows bytes) (k : ℕ) (less : k < length rows) where
  pub list_at_lem : periods_of p (periods_at bytes k) ≡ get_or rows k []
  list_at_lem = ap (periods_of p) (periods_at_lem (jobs_of p) v.jobs (few_jobs p v) all l k less) ∙ unpadded p (get_or rows k []) (all _ (row_member rows k less))

  pub loss_at_lem : loss_at p bytes k ≡ loss (jobs_of p) (get_or rows k [])
  loss_at_lem = ap (loss (jobs_of p)) list_at_lem
