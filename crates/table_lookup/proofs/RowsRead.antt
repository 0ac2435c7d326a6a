-- A well-formed table is the bytes of the rows read in it: each row's bits are cut there and back.
-- Assumes nothing.
use mathlib.Core.Path.{◌≡◌, sym, ◌∙◌, ap, ap₂, subst}
use mathlib.Core.List.Memᴰ
use mathlib.Core.List.{List, [], ◌∷◌, ◌++◌, map, Memᴰ, flat_map}
use mathlib.Core.Logic.{⊎_elim}
use Prim.Native.Nat.{ℕ, zero, suc, ◌+◌, ◌*◌, ◌-◌, ◌≤◌, ◌<◌}
use native.Mathlib.Nat.{eq-or-lt_of_le}
use native.Mathlib.Decide.{dec_lt}
use native.Mathlib.Omega.{arith}
use lib.ListN.{length, get_or, take, drop, length-drop, length-map, take-append-drop, drop_of_length-le, get_or-eq_default}
use lib.Seq.{drop-cons, drop-drop}
use Rattle.model.specs.declared.Seconds.{Seconds}
use Rattle.model.specs.declared.Profile.{Profile}
use Rattle.model.specs.Model.{seconds, jobs_of, periods_of, need}
use Rattle.model.proofs.Entries.{length_entries, get_d_entries, entries_all, entries_same}
use Rattle.codec.specs.Packing.{recut}
use Rattle.codec.specs.Layout.{byte_widths}
use Rattle.codec.specs.Fit.{Within, Bytes}
use Rattle.codec.proofs.Packing.{recut_back, length_recut}
use Rattle.codec.proofs.Bytes.{within_split}
use Rattle.table.specs.Table.{table_bytes}
use Rattle.table.specs.Descent.{StartsRise}
use Rattle.table_row.specs.Table.{table_widths, table_row, rows_in, row_fields, start_at, periods_at}
use Rattle.table_row.proofs.Words.{numbers_again}
use Rattle.table_check.specs.Formed.{GoodRow, WellFormed}
use Rattle.table_lookup.proofs.Finding.{starts_climb}
use Rattle.table_lookup.proofs.Laid.{row_bits}

-- Bytes and fields.

length_fields : (bytes : List ℕ) (k : ℕ) → length (row_fields bytes k) ≡ 9
unfolding row_fields
length_fields bytes k = length_recut (byte_widths 16) table_widths (take 16 (drop (16 * k) bytes))

length_periods : (bytes : List ℕ) (k : ℕ) → length (periods_at bytes k) ≡ 8
length_periods bytes k = length-map (drop 1 (row_fields bytes k)) seconds ∙ length-drop 1 (row_fields bytes k) ∙ omega (arith, length_fields bytes k)

sixteen_within : (bytes : List ℕ) (k : ℕ) → Bytes bytes → k < rows_in bytes → Within (byte_widths 16) (take 16 (drop (16 * k) bytes))
sixteen_within bytes k h less =
    let rest = length bytes - (16 * k + 16) in
    let size : length bytes ≡ 16 * k + (16 + rest) = omega arith in
    (within_split 16 rest _ (within_split (16 * k) (16 + rest) bytes (subst (λ (n : ℕ). Within (byte_widths n) bytes) size h)).1).0

-- the sixteen bytes at a place are the row of the start and periods read there
pub row_kept : (bytes : List ℕ) (k : ℕ) → Bytes bytes → k < rows_in bytes → table_row (start_at bytes k) (periods_at bytes k) ≡ take 16 (drop (16 * k) bytes)
unfolding table_row row_fields
row_kept bytes k h less =
    let fs = row_fields bytes k in
    let periods = ap (map (λ t. t.0)) (entries_all (seconds 0) (periods_at bytes k) (length_periods bytes k)) ∙ numbers_again (drop 1 fs) in
    let fields = ap (λ (l : List ℕ). get_or fs 0 0 ∷ l) periods ∙ sym (drop-cons fs 0 0 (omega (arith, length_fields bytes k))) in
    let back = recut_back (byte_widths 16) table_widths (take 16 (drop (16 * k) bytes)) (sym row_bits) (sixteen_within bytes k h less) in
    ap (recut table_widths (byte_widths 16)) fields ∙ back

-- Rows.

-- the list of periods in row k
abbrev pub list_at : Profile → List ℕ → ℕ → List Seconds
list_at p bytes k = periods_of p (periods_at bytes k)

-- those of m rows from row k on
rows_from : Profile → List ℕ → ℕ → ℕ → List (List Seconds)
rows_from p bytes k zero = []
rows_from p bytes k (suc m) = list_at p bytes k ∷ rows_from p bytes (k + 1) m

pub rows_read : Profile → List ℕ → List (List Seconds)
rows_read p bytes = rows_from p bytes 0 (rows_in bytes)

module _ (p : Profile) (bytes : List ℕ) where
  module _ (k : ℕ) (g : GoodRow p bytes k) where
    -- beyond n both have zeros
    none_listed : (j : ℕ) → p.n ≤ j → get_or (list_at p bytes k) j (seconds 0) ≡ seconds 0
    none_listed j past = get_or-eq_default (list_at p bytes k) (seconds 0) (omega (arith, length_entries (seconds 0) (periods_at bytes k) 0 p.n))

    same_period : (j : ℕ) → Dec (j < p.n) → Dec (j < 8) → get_or (list_at p bytes k) j (seconds 0) ≡ get_or (periods_at bytes k) j (seconds 0)
    same_period j (yes less) in-eight = get_d_entries (seconds 0) (periods_at bytes k) less
    same_period j (no past) (yes in-eight) = none_listed j (omega arith) ∙ ap seconds (sym (g.zeros j (omega arith) in-eight))
    same_period j (no past) (no beyond) =
        none_listed j (omega arith) ∙ sym (get_or-eq_default (periods_at bytes k) (seconds 0) (omega (arith, length_periods bytes k)))

    row_again : Bytes bytes → k < rows_in bytes → table_row (need (jobs_of p) (list_at p bytes k)) (list_at p bytes k) ≡ take 16 (drop (16 * k) bytes)
    unfolding table_row
    row_again h less =
        let same = entries_same (seconds 0) (list_at p bytes k) (periods_at bytes k) 0 8 (λ j. same_period j (dec_lt j p.n) (dec_lt j 8)) in
        ap₂ (λ (q : ℕ) (ts : List Seconds). recut table_widths (byte_widths 16) (q ∷ map (λ t. t.0) ts)) g.start same ∙ row_kept bytes k h less

  bytes_from : (m k : ℕ) → length bytes ≡ 16 * (k + m) → Bytes bytes → ((i : ℕ) → i < rows_in bytes → GoodRow p bytes i) →
      table_bytes (jobs_of p) (rows_from p bytes k m) ≡ drop (16 * k) bytes
  unfolding rows_from table_bytes flat_map
  bytes_from zero k size h good = sym (drop_of_length-le bytes {i = 16 * k} (omega arith))
  bytes_from (suc m) k size h good =
      let here : k < rows_in bytes = omega arith in
      let next : 16 * (k + 1) ≡ 16 * k + 16 = omega arith in
      let rest = bytes_from m (k + 1) (size ∙ omega arith) h good ∙ ap (λ (n : ℕ). drop n bytes) next ∙ sym (drop-drop 16 (16 * k) bytes) in
      ap₂ ◌++◌ (row_again k (good k here) h here) rest ∙ take-append-drop 16 (drop (16 * k) bytes)

  read_from : (m k i : ℕ) → k ≤ i → i < k + m → Memᴰ (list_at p bytes i) (rows_from p bytes k m)
  unfolding rows_from
  read_from zero k i from to = absurd (omega arith)
  read_from (suc m) k i from to =
      ⊎_elim
      (λ (e : k ≡ i). Memᴰ.head (ap (list_at p bytes) (sym e)))
      (λ (less : k < i). Memᴰ.tail (read_from m (k + 1) i (omega arith) (omega arith)))
      (eq-or-lt_of_le from)

  place_from : (m k : ℕ) {ts : List Seconds} → Memᴰ ts (rows_from p bytes k m) → (i : ℕ) × (k ≤ i) × (i < k + m) × (list_at p bytes i ≡ ts)
  unfolding rows_from
  place_from zero k member = absurd (Memᴰ.not-nil member)
  place_from (suc m) k {ts} member =
      ⊎_elim
      (λ (e : ts ≡ list_at p bytes k). (k, omega arith, omega arith, sym e))
      (λ (later : Memᴰ ts (rows_from p bytes (k + 1) m)). go (place_from m (k + 1) later))
      (Memᴰ.cases_cons member)
    where
      go : (i : ℕ) × (k + 1 ≤ i) × (i < k + 1 + m) × (list_at p bytes i ≡ ts) → (i : ℕ) × (k ≤ i) × (i < k + suc m) × (list_at p bytes i ≡ ts)
      go r = (r.0, omega (arith, r.1), omega (arith, r.2), r.3)

  pub read_member : (i : ℕ) → i < rows_in bytes → Memᴰ (list_at p bytes i) (rows_read p bytes)
  unfolding rows_read
  read_member i less = read_from (rows_in bytes) 0 i (omega arith) (omega arith)

  pub member_place : {ts : List Seconds} → Memᴰ ts (rows_read p bytes) → (i : ℕ) × (i < rows_in bytes) × (list_at p bytes i ≡ ts)
  unfolding rows_read
  member_place m =
      let r = place_from (rows_in bytes) 0 m in
      (r.0, omega (arith, r.2), r.3)

  module _ (w : WellFormed p bytes) where
    rising_from_lem : (m k : ℕ) → k + m ≤ rows_in bytes → StartsRise (jobs_of p) (rows_from p bytes k m)
    unfolding rows_from
    rising_from_lem zero k room = tt
    rising_from_lem (suc m) k room = (after, rising_from_lem m (k + 1) (omega arith))
      where
        after : (us : List Seconds) → Memᴰ us (rows_from p bytes (k + 1) m) → (need (jobs_of p) (list_at p bytes k)).0 < (need (jobs_of p) us).0
        after us member =
            let r = place_from m (k + 1) member in
            let there : r.0 < rows_in bytes = omega (arith, r.2) in
            let here : k < rows_in bytes = omega arith in
            let climbs = starts_climb p bytes w r.0 k (omega (arith, r.1)) there in
            let same = ap (λ (l : List Seconds). (need (jobs_of p) l).0) r.3 in
            omega (arith, (w.rows k here).start, (w.rows r.0 there).start, climbs, same)

    pub read_rising : StartsRise (jobs_of p) (rows_read p bytes)
    unfolding rows_read
    read_rising = rising_from_lem (rows_in bytes) 0 (omega arith)

    pub formed_bytes : Bytes bytes → table_bytes (jobs_of p) (rows_read p bytes) ≡ bytes
    unfolding rows_read
    formed_bytes h = bytes_from (rows_in bytes) 0 (omega (arith, w.size.whole)) h w.rows
