-- The bytes of a table are well formed: at each place the row that stands there is read, and rows stand in order.
-- Assumes nothing.
use mathlib.Core.Path.{◌≡◌, sym, ◌∙◌, ap, subst}
use mathlib.Core.List.{List, []}
use Prim.Native.Nat.{ℕ, ◌+◌, ◌*◌, ◌-◌, ◌≤◌, ◌<◌}
use native.Mathlib.Omega.{arith}
use lib.ListN.{length, get_or, get_or-eq_default}
use Rattle.model.specs.declared.Seconds.{Seconds}
use Rattle.model.specs.declared.PagesPerHour.{PagesPerHour}
use Rattle.model.specs.declared.Profile.{Profile}
use Rattle.model.specs.Model.{seconds, no_job, jobs_of, Permitted, need, padded}
use Rattle.model.specs.Valid.{Valid}
use Rattle.model.proofs.Entries.{length_entries}
use Rattle.table.specs.Table.{TableOf, table_bytes}
use Rattle.table.proofs.Outcome.{length_table}
use Rattle.table.proofs.TableRows.{get_d_padded}
use Rattle.table_row.specs.Table.{rows_in, start_at, periods_at, loss_at}
use Rattle.table_check.specs.Formed.{GoodRow, WellFormed}
use Rattle.model.proofs.Allowing.{permitted_length}
use Rattle.table_lookup.proofs.Laid.{Laid, row_member, few_jobs, laid_alone, start_at_lem, periods_at_lem, list_at_lem, loss_at_lem}
use Rattle.table_lookup.proofs.InOrder.{table_permitted, starts_rise, losses_fall_along}

module _ (p : Profile) (v : Valid p) {rows : List (List Seconds)} (t : TableOf (jobs_of p) rows) {bytes : List ℕ} (l : Laid (jobs_of p) rows bytes) where
  module _ (k : ℕ) (less : k < length rows) where
    pub row_start : start_at bytes k ≡ need (jobs_of p) (get_or rows k [])
    row_start = start_at_lem (jobs_of p) v.jobs (few_jobs p v) (table_permitted t) l k less

    pub start_number : (start_at bytes k).0 ≡ (need (jobs_of p) (get_or rows k [])).0
    start_number = ap (λ (q : PagesPerHour). q.0) row_start

    pub row_periods : periods_at bytes k ≡ padded (seconds 0) (get_or rows k [])
    row_periods = periods_at_lem (jobs_of p) v.jobs (few_jobs p v) (table_permitted t) l k less

    row_permitted : Permitted (jobs_of p) (get_or rows k [])
    row_permitted = table_permitted t (get_or rows k []) (row_member rows k less)

    zeros : (i : ℕ) → p.n ≤ i → (get_or (periods_at bytes k) i (seconds 0)).0 ≡ 0
    zeros i past =
        let ts = get_or rows k [] in
        let end : length ts ≤ i = omega (arith, permitted_length (seconds 1) (jobs_of p) ts row_permitted, length_entries no_job p.jobs 0 p.n) in
        ap (λ (us : List Seconds). (get_or us i (seconds 0)).0) row_periods
        ∙ ap (λ (u : Seconds). u.0) (get_d_padded ts (8 - length ts) i ∙ get_or-eq_default ts (seconds 0) end)

  in_order : (j k : ℕ) → k ≡ j + 1 → k < length rows → ((start_at bytes j).0 < (start_at bytes k).0) × (loss_at p bytes k < loss_at p bytes j)
  in_order j k e less =
      let before : j < k = omega arith in
      let there : j < length rows = omega arith in (
        omega (arith, start_number j there, start_number k less, starts_rise t j k before less),
        omega (arith, loss_at_lem p v (table_permitted t) l j there, loss_at_lem p v (table_permitted t) l k less, losses_fall_along t j k before less),
      )

  pub rows_good : (k : ℕ) → k < length rows → GoodRow p bytes k
  rows_good k less =
      let list = list_at_lem p v (table_permitted t) l k less in
      record {
        permitted = subst (Permitted (jobs_of p)) (sym list) (row_permitted k less);
        zeros = λ i past to. zeros k less i past;
        start = ap (λ (us : List Seconds). (need (jobs_of p) us).0) list ∙ sym (start_number k less);
        start_rises = λ j e. (in_order j k e less).0;
        loss_falls = λ j e. (in_order j k e less).1;
      }

-- as many rows are read as were laid
pub rows_in_lem : (p : Profile) (rows : List (List Seconds)) → rows_in (table_bytes (jobs_of p) rows) ≡ length rows
rows_in_lem p rows = omega (arith, length_table (jobs_of p) rows)

pub table_well_formed : (p : Profile) → Valid p → {rows : List (List Seconds)} → TableOf (jobs_of p) rows → (length rows ≡ 0 → ⊥) →
    WellFormed p (table_bytes (jobs_of p) rows)
table_well_formed p v {rows} t some = record {
  size = record { some = omega (arith, size); whole = omega (arith, size) };
  rows = λ k less. rows_good p v t (laid_alone (jobs_of p) rows) k (rw (rows_in_lem p rows) at less);
}
  where
    size : length (table_bytes (jobs_of p) rows) ≡ 16 * length rows
    size = length_table (jobs_of p) rows
