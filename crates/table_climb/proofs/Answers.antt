-- The next answers one by one: the row at each place is the best below the need of the row before it, and the last need is the last row's.
-- Assumes nothing.
use mathlib.Core.Path.{◌≡◌, refl, sym, ◌∙◌, ap}
use mathlib.Core.List.{List, [], ◌∷◌}
use Prim.Native.Nat.{ℕ, zero, suc, ◌<◌}
use native.Mathlib.Omega.{arith}
use lib.ListN.{length, get_or, take}
use lib.Seq.{take-length}
use Rattle.model.specs.declared.Job.{Job}
use Rattle.table_stairs.specs.Stairs.{Stair}
use Rattle.table_climb.specs.Next.{Answer, NextAnswers, last_need}

module _ (d : Stair) where
  pub answer_at : {js : List Job} (limit : ℕ) (rows : List Stair) (k : ℕ) → NextAnswers js limit rows → k < length rows → Answer js (last_need limit (take k rows)) (get_or rows k d)
  unfolding last_need
  answer_at limit [] k h less = absurd (omega arith)
  answer_at limit (r ∷ rows) zero h less = h.0
  answer_at limit (r ∷ rows) (suc k) h less = answer_at r.its_need rows k h.1 (omega arith)

  -- what the rows up to a place leave to come is below the need of the row there
  pub need_at_lem : (limit : ℕ) (rows : List Stair) (k : ℕ) → k < length rows → last_need limit (take (suc k) rows) ≡ (get_or rows k d).its_need
  unfolding last_need
  need_at_lem limit [] k less = absurd (omega arith)
  need_at_lem limit (r ∷ rows) zero less = refl
  need_at_lem limit (r ∷ rows) (suc k) less = need_at_lem r.its_need rows k (omega arith)

  pub need_last : (limit : ℕ) (rows : List Stair) (k : ℕ) → length rows ≡ suc k → last_need limit rows ≡ (get_or rows k d).its_need
  need_last limit rows k e = ap (last_need limit) (sym (take-length rows) ∙ ap (λ (n : ℕ). take n rows) e) ∙ need_at_lem limit rows k (omega arith)
