-- The rows from one on whose starts are above a budget: what the loop that looks for the last row within it keeps. Assumes nothing.
use Prim.Native.Nat.{ℕ, zero, suc, ◌+◌, ◌≤◌, ◌<◌}
use mathlib.Core.Path.{◌≡◌, subst}
use mathlib.Core.List.{List}
use mathlib.Core.Logic.{⊎_elim}
use native.Mathlib.Nat.{eq-or-lt_of_le}
use native.Mathlib.Omega.{arith}
use Rattle.model.specs.declared.PagesPerHour.{PagesPerHour}
use Rattle.table_row.specs.Table.{rows_in, start_at}
use Rattle.table_lookup.specs.Lookup.{Answers}

-- before a turn
pub record Above (table : List ℕ) (budget : PagesPerHour) (k : ℕ) : Type 0 where
  pub above : (i : ℕ) → k ≤ i → i < rows_in table → budget.0 < (start_at table i).0

module _ {table : List ℕ} {budget : PagesPerHour} where
  pub none_above : {k : ℕ} → rows_in table ≤ k → Above table budget k
  none_above past = record { above = λ i from to. absurd (omega arith) }

  -- one row more, with the start found there
  module _ {k : ℕ} (a : Above table budget (k + 1)) {start : PagesPerHour} (e : start ≡ start_at table k) where
    pub one_above : budget.0 < start.0 → Above table budget k
    one_above h = record {
      above = λ i from to. ⊎_elim (λ (same : k ≡ i). subst (λ (j : ℕ). budget.0 < (start_at table j).0) same (rw e at h)) (λ (less : k < i). a.above i (omega arith) to) (eq-or-lt_of_le from);
    }

    pub last_above : k < rows_in table → start.0 ≤ budget.0 → Answers table budget k
    last_above there within = record { there = there; within = rw e at within; last = λ i after to. a.above i (omega arith) to }

  -- where every later row is above, the first answers, since some row does
  pub first_left : {k : ℕ} → k ≤ 1 → Above table budget k → {row : ℕ} → Answers table budget row → Answers table budget 0
  first_left le a {row = zero} answers = answers
  first_left le a {row = suc row} answers = absurd (omega (arith, a.above (suc row) (omega arith) answers.there, answers.within))
