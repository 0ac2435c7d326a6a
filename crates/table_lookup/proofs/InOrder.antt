-- From each place among a table's rows to every later one the need rises and the loss falls: each is best for some budget.
-- Assumes nothing.
use mathlib.Core.List.{List, [], ◌∷◌}
use Prim.Native.Nat.{ℕ, zero, suc, ◌<◌}
use native.Mathlib.Nat.{not-suc-le-zero, le_of_suc-le-suc}
use native.Mathlib.Omega.{arith}
use lib.ListN.{length, get_or}
use Rattle.model.specs.declared.Seconds.{Seconds}
use Rattle.model.specs.declared.Job.{Job}
use Rattle.model.specs.Model.{need, loss}
use Rattle.table.specs.Table.{TableOf}
use Rattle.table.specs.Descent.{StartsRise}
use Rattle.table.proofs.Best.{table_losses_fall}
use Rattle.table_lookup.proofs.Laid.{AllPermitted, row_member}

rising_at : (js : List Job) (rows : List (List Seconds)) → StartsRise js rows → (i j : ℕ) → i < j → j < length rows →
    (need js (get_or rows i [])).0 < (need js (get_or rows j [])).0
rising_at js [] h i j after less = absurd (not-suc-le-zero less)
rising_at js (ts ∷ rows) h i zero after less = absurd (not-suc-le-zero after)
rising_at js (ts ∷ rows) h zero (suc j) after less = h.0 (get_or rows j []) (row_member rows j (le_of_suc-le-suc less))
rising_at js (ts ∷ rows) h (suc i) (suc j) after less = rising_at js rows h.1 i j (le_of_suc-le-suc after) (le_of_suc-le-suc less)

module _ {js : List Job} {rows : List (List Seconds)} (t : TableOf js rows) where
  pub table_permitted : AllPermitted js rows
  table_permitted ts m = (t.some_budget ts m).2.permitted

  module _ (i j : ℕ) (after : i < j) (less : j < length rows) where
    pub starts_rise : (need js (get_or rows i [])).0 < (need js (get_or rows j [])).0
    starts_rise = rising_at js rows t.rising i j after less

    pub losses_fall_along : loss js (get_or rows j []) < loss js (get_or rows i [])
    losses_fall_along = table_losses_fall t (get_or rows i []) (get_or rows j []) (row_member rows i (omega arith)) (row_member rows j less) starts_rise
