-- One batch after the other, each below the last need of the one before: before each turn the rows seen and the rows up to the budget are
-- all rows, and where all have their places those seen stand there.
-- Assumes nothing.
use mathlib.Core.Path.{◌≡◌, refl, ◌∙◌, ap}
use mathlib.Core.List.{List, []}
use Prim.Native.Nat.{ℕ, suc, ◌+◌, ◌-◌, ◌/◌, ◌^◌, ◌≤◌, ◌<◌}
use native.Mathlib.Omega.{arith}
use native.Mathlib.Nat.{sub-zero}
use lib.ListN.{length}
use Rattle.model.specs.declared.Seconds.{Seconds}
use Rattle.model.specs.declared.PagesPerHour.{PagesPerHour}
use Rattle.model.specs.declared.Job.{Job}
use Rattle.model.specs.declared.Profile.{Profile}
use Rattle.model.specs.Model.{jobs_of, Permitted, FitsBudget, row_size}
use Rattle.model.specs.Valid.{Valid}
use Rattle.table_stairs.specs.Stairs.{Stair}
use Rattle.table_stairs.specs.Ordered.{row_at}
use Rattle.table_climb.specs.Next.{last_need, AnswersUnder}
use Rattle.table_batch.specs.Batch.{with_batch}
use Rattle.table.specs.declared.Batch.{Batch}
use Rattle.table.specs.Descent.{rows_below, all_budgets, Wrote, WroteBatch}
use Rattle.table.proofs.Descent.{rows_few, rows_zero}
use Rattle.table.proofs.Next.{batch_need, batch_count, batch_none}
use Rattle.table.proofs.TableRows.{Writing, none_written, all_written, batch_written}

-- so many rows seen, with those of the budgets below the limit still to come
pub record Seen (js : List Job) (end : ℕ) (old out : List ℕ) (seen limit : ℕ) : Type 0 where
  pub total : seen + length (rows_below js limit) ≡ length (rows_below js all_budgets)
  pub same : length out ≡ length old
  pub written : end ≡ length (rows_below js all_budgets) → end ≤ length old / row_size → Writing js end old out (end - seen) limit

pub none_seen : (js : List Job) (end : ℕ) (old : List ℕ) → Seen js end old old 0 (2 ^ 32)
none_seen js end old = record { total = omega arith; same = refl; written = λ is room. rw sub-zero (none_written js end old is) }

module _ {js : List Job} {end : ℕ} {old out : List ℕ} {seen limit : ℕ} (i : Seen js end old out seen limit) where
  pub few_seen : seen ≤ 2 ^ 32
  few_seen = omega (arith, i.total, rows_few js all_budgets)

  -- no row is left
  pub all_seen : length (rows_below js limit) ≡ 0 → Wrote js end old out seen
  all_seen none =
      let all : seen ≡ length (rows_below js all_budgets) = omega (arith, i.total) in
      record { count = all; bytes = λ is room. all_written js end old out (end - seen) limit (i.written is room) (omega arith) }

-- no budget is left
pub budgets_seen : {js : List Job} {end : ℕ} {old out : List ℕ} {seen : ℕ} → Seen js end old out seen 0 → Wrote js end old out seen
budgets_seen {js} i = all_seen i (ap length (rows_zero js))

module _ {p : Profile} {end : ℕ} {old out : List ℕ} {budget : PagesPerHour} {seen : ℕ} {rows : List Stair} (v : Valid p)
    (i : Seen (jobs_of p) end old out seen (suc budget.0)) (b : AnswersUnder (jobs_of p) budget rows) where
  pub none_found : length rows ≡ 0 → Wrote (jobs_of p) end old out seen
  none_found none = all_seen i (ap length (batch_none v b none))

  pub found_before : length (rows_below (jobs_of p) all_budgets) ≤ end → length rows ≤ end - seen
  found_before most = omega (arith, i.total, batch_count v b)

  -- one batch more
  pub batch_seen : 0 < length rows → {new : List ℕ} {next : ℕ} → length new ≡ length out → new ≡ with_batch rows (end - seen) out → next ≡ (row_at rows (length rows - 1)).its_need
      → Seen (jobs_of p) end old new (seen + length rows) next
  batch_seen some {new} {next} size e is =
      let place : end - seen - length rows ≡ end - (seen + length rows) = omega arith in
      let left : next ≡ last_need (suc budget.0) rows = is ∙ batch_need v b some in
      record {
        total = rw left (omega (arith, i.total, batch_count v b));
        same = size ∙ i.same;
        written = λ all room. rw (e, ← place, left) (batch_written v.jobs room rows b.next (i.written all room));
      }

module _ {p : Profile} {end : ℕ} {old out : List ℕ} {budget : PagesPerHour} {seen : ℕ} (v : Valid p) (i : Seen (jobs_of p) end old out seen (suc budget.0)) where
  -- nothing fits
  pub none_fits : ((ts : List Seconds) → Permitted (jobs_of p) ts → FitsBudget (jobs_of p) ts budget → ⊥) → Wrote (jobs_of p) end old out seen
  none_fits h =
      let none : AnswersUnder (jobs_of p) budget [] = record { next = tt; none = λ e. h } in
      none_found v i none refl

  -- one batch more, as it is told
  pub batch_told : {new : List ℕ} {next : ℕ} {r : Batch} → WroteBatch (jobs_of p) budget (end - seen) out new r → length new ≡ length out → next ≡ r.need.0 → Seen (jobs_of p) end old new (seen + r.rows) next
  batch_told w size is = rw w.number (batch_seen v i w.under (omega (arith, w.number, w.some)) size w.bytes (rw is (rw (← w.number) w.last)))
