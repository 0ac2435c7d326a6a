-- A need without rounding: whole pages and remainder together are 3,600 times the pages of Tn seconds, and rounded up they are what the
-- need was before a remainder was told. Assumes nothing.
use mathlib.Core.Path.{◌≡◌, refl, ap}
use mathlib.Core.List.{List, [], ◌∷◌}
use mathlib.Core.Bool.{Bool, true, false, cond}
use Prim.Native.Nat.{ℕ, zero, suc, ◌+◌, ◌*◌, ◌-◌, ◌/◌, ◌%◌, ◌≤◌, ◌<◌}
use native.Mathlib.Omega.{arith}
use native.Mathlib.Nat.{le_antisymm, le_of_mul-le-mul_right, lt_of_mul-lt-mul_right, div-add-mod', mod-lt, zero-div}
use lib.Dec.{eqb}
use borrow.Author.Tests.{eqb-true, eqb-false}
use Rattle.model.specs.declared.Seconds.{Seconds}
use Rattle.model.specs.declared.Job.{Job}
use Rattle.model.specs.Model.{seconds, pages_per_hour, last_of, pages_at, sum_over, pages_in, per_hour, exact_need, rounded_up, need}
use Rattle.model.specs.Rounding.{round_up}
use Rattle.model.proofs.Rounding.{round_up_le, round_up_above}

-- a fraction rounded up is its whole part, and one more where something remains
round_up_parts : (a b : ℕ) → 1 ≤ b → cond (eqb (a % b) 0) (a / b) (a / b + 1) ≡ round_up a b
round_up_parts a b pos = go (eqb (a % b) 0) refl
  where
    go : (none : Bool) → eqb (a % b) 0 ≡ none → cond none (a / b) (a / b + 1) ≡ round_up a b
    go true e =
        let none = eqb-true (a % b) 0 e in
        let split = div-add-mod' a b in
        let above = round_up_above a pos in
        le_antisymm (le_of_mul-le-mul_right (omega arith) pos) ((round_up_le a (a / b) pos).1 (omega arith))
    go false e =
        let some = eqb-false (a % b) 0 e in
        let split = div-add-mod' a b in
        let below = mod-lt a pos in
        let above = round_up_above a pos in
        let more : a / b < round_up a b = lt_of_mul-lt-mul_right b (omega arith) in
        le_antisymm (omega arith) ((round_up_le a (a / b + 1) pos).1 (omega arith))

module _ (pages : ℕ) (t : Seconds) where
  -- whole pages and the remainder are all of them
  pub per_hour_is : (per_hour pages t).whole.0 * t.0 + (per_hour pages t).remainder.0 ≡ 3600 * pages
  per_hour_is = div-add-mod' (3600 * pages) t.0

  module _ (pos : 1 ≤ t.0) where
    pub remainder_below : (per_hour pages t).remainder.0 < t.0
    remainder_below = mod-lt (3600 * pages) pos

    pub rounded_up_is : (rounded_up (per_hour pages t)).0 ≡ round_up (3600 * pages) t.0
    unfolding rounded_up
    rounded_up_is = round_up_parts (3600 * pages) t.0 pos

-- in no time nothing is written
no_time : (js : List Job) (ts : List Seconds) → pages_in (seconds 0) js ts ≡ 0
unfolding pages_in sum_over
no_time js [] = refl
no_time js (t ∷ ts) = ap (sum_over (pages_at js (t ∷ ts)) t.0) (zero-div t.0)

module _ (js : List Job) (ts : List Seconds) where
  -- Whole pages and remainder are the exact need: 3,600 times the pages of Tn seconds, over Tn.
  pub exact_need_is : let cycle = last_of (seconds 1) ts in (exact_need js ts).whole.0 * cycle.0 + (exact_need js ts).remainder.0 ≡ 3600 * pages_in cycle js ts
  unfolding exact_need
  exact_need_is = per_hour_is _ _

  -- The need is what it was before the remainder was told, whatever the jobs and the periods: rounded up once.
  pub need_as_it_was : let cycle = last_of (seconds 1) ts in need js ts ≡ pages_per_hour ((3600 * pages_in cycle js ts + (cycle.0 - 1)) / cycle.0)
  unfolding need exact_need rounded_up
  need_as_it_was = ap pages_per_hour (go (last_of (seconds 1) ts).0)
    where
      go : (cycle : ℕ) → (rounded_up (per_hour (pages_in (seconds cycle) js ts) (seconds cycle))).0 ≡ round_up (3600 * pages_in (seconds cycle) js ts) cycle
      go zero = rw (no_time js ts) refl
      go (suc k) = rounded_up_is (pages_in (seconds (suc k)) js ts) (seconds (suc k)) (omega arith)
