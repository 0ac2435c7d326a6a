-- Needs rise strictly, so two rising lists with the same rows are the same list.
-- Assumes nothing.
use mathlib.Core.Path.{◌≡◌}
use mathlib.Core.List.Memᴰ
use mathlib.Core.List.{List, [], ◌∷◌, ◌++◌, Memᴰ}
use Prim.Native.Nat.{◌<◌}
use native.Mathlib.Omega.{arith}
use Rattle.model.specs.declared.Seconds.{Seconds}
use Rattle.model.specs.declared.Job.{Job}
use Rattle.model.specs.Model.{need}
use Rattle.model.proofs.Lists.{Holds, rising_append, rising_one}
use Rattle.table.specs.Descent.{StartsRise}

module _ (js : List Job) where
  less_strict : (ts us : List Seconds) → (need js ts).0 < (need js us).0 → (need js us).0 < (need js ts).0 → ⊥
  less_strict ts us h k = omega arith

  pub rows_one_list : (xs ys : List (List Seconds)) → StartsRise js xs → StartsRise js ys → Holds xs ys → Holds ys xs → xs ≡ ys
  rows_one_list = rising_one _ less_strict

  -- one row more, with a greater need than all
  pub rising_snoc : (rows : List (List Seconds)) (ts : List Seconds) → StartsRise js rows
      → ((us : List Seconds) → Memᴰ us rows → (need js us).0 < (need js ts).0) → StartsRise js (rows ++ (ts ∷ []))
  rising_snoc rows ts h last = rising_append _ rows (ts ∷ []) h (λ us m. absurd (Memᴰ.not-nil m), tt) (λ x y m n. rw (Memᴰ.eq_of_singleton n) (last x m))
