-- From the greatest budget down: the choice at a budget is the last row of all budgets up to it, and the rows before it are those of the budgets below its need.
-- Assumes nothing.
use mathlib.Core.Path.{◌≡◌, refl, sym, subst}
use mathlib.Core.Logic.{◌↔◌, ⊎_elim}
use mathlib.Core.List.Memᴰ
use mathlib.Core.List.{List, [], ◌∷◌, ◌++◌, Memᴰ}
use Prim.Native.Nat.{ℕ, zero, suc, ◌≤◌, ◌<◌}
use native.Mathlib.Omega.{arith}
use native.Mathlib.Decide.{dec_lt}
use native.Mathlib.Nat.{le_refl}
use lib.ListN.{length, length-append}
use Rattle.model.specs.declared.Seconds.{Seconds}
use Rattle.model.specs.declared.PagesPerHour.{PagesPerHour}
use Rattle.model.specs.declared.Job.{Job}
use Rattle.model.specs.Model.{pages_per_hour, Permitted, need, FitsBudget, Best}
use Rattle.model.specs.Valid.{ValidJobs}
use Rattle.walk.specs.Walk.{walk, start}
use Rattle.choose_offer.specs.Found.{Found, nothing, found, pick}
use Rattle.choose_walk.specs.Best.{BestOrNone}
use Rattle.choose_walk.proofs.Fold.{walk_best}
use Rattle.choose.proofs.OneOutcome.{one_best}
use Rattle.table.specs.Table.{TableOf}
use Rattle.table.specs.Descent.{up_to, descent, rows_below, all_budgets, StartsRise}
use Rattle.table.proofs.Rising.{rows_one_list, rising_snoc}
use Rattle.table.proofs.Best.{best_between, some_best, need_small}

-- the rows of the budgets below a limit
pub record TableBelow (js : List Job) (limit : ℕ) (rows : List (List Seconds)) : Type 0 where
  pub some_budget : (ts : List Seconds) → Memᴰ ts rows → (b : PagesPerHour) × (b.0 < limit) × Best js b ts
  pub every_budget : (b : PagesPerHour) (ts : List Seconds) → b.0 < limit → Best js b ts → Memᴰ ts rows
  pub rising : StartsRise js rows

module _ {js : List Job} where
  pub below_one : {limit : ℕ} {xs ys : List (List Seconds)} → TableBelow js limit xs → TableBelow js limit ys → xs ≡ ys
  below_one {limit} {xs} {ys} a b = rows_one_list js xs ys a.rising b.rising (into a b) (into b a)
    where
      into : {us ws : List (List Seconds)} → TableBelow js limit us → TableBelow js limit ws → (ts : List Seconds) → Memᴰ ts us → Memᴰ ts ws
      into p q ts m =
          let s = p.some_budget ts m in
          q.every_budget s.0 ts s.1 s.2

  -- a table is that of all budgets
  pub table_below : {rows : List (List Seconds)} → TableOf js rows → TableBelow js all_budgets rows
  table_below t = record { some_budget = t.some_budget; every_budget = t.every_budget; rising = t.rising }

  -- where no budget has a best list there is no row
  below_empty : {limit : ℕ} → ((c : PagesPerHour) (ts : List Seconds) → c.0 < limit → Best js c ts → ⊥) → TableBelow js limit []
  below_empty none = record { some_budget = λ ts m. absurd (Memᴰ.not-nil m); every_budget = λ c ts h k. absurd (none c ts h k); rising = tt }

  pub below_none : (b : PagesPerHour) → ((ts : List Seconds) → Permitted js ts → FitsBudget js ts b → ⊥) → TableBelow js (suc b.0) []
  below_none b unfit = below_empty (λ c ts h k. unfit ts k.permitted (let fits = k.fits in omega arith))

  -- the best list for a budget, behind the rows of the budgets below its need
  pub below_more : (b : PagesPerHour) (ts : List Seconds) (rows : List (List Seconds)) → Best js b ts → TableBelow js (need js ts).0 rows
      → TableBelow js (suc b.0) (rows ++ (ts ∷ []))
  below_more b ts rows best t = record {
    some_budget = λ us m. ⊎_elim (earlier us) (here us) (Memᴰ.append_cases rows m);
    every_budget = λ c us h k. found_at c us h k (dec_lt c.0 (need js ts).0);
    rising = rising_snoc js rows ts t.rising less;
  }
    where
      earlier : (us : List Seconds) → Memᴰ us rows → (c : PagesPerHour) × (c.0 < suc b.0) × Best js c us
      earlier us m =
          let s = t.some_budget us m in
          (s.0, omega (arith, s.1, best.fits), s.2)

      here : (us : List Seconds) → Memᴰ us (ts ∷ []) → (c : PagesPerHour) × (c.0 < suc b.0) × Best js c us
      here us m = (b, le_refl _, subst (Best js b) (sym (Memᴰ.eq_of_singleton m)) best)

      found_at : (c : PagesPerHour) (us : List Seconds) → c.0 < suc b.0 → Best js c us → Dec (c.0 < (need js ts).0) → Memᴰ us (rows ++ (ts ∷ []))
      found_at c us h k (yes less_need_lem) = Memᴰ.append_left (ts ∷ []) (t.every_budget c us less_need_lem k)
      found_at c us h k (no enough) = Memᴰ.append_right rows (Memᴰ.head (one_best k (best_between c best (omega arith) (omega arith))))

      less : (us : List Seconds) → Memᴰ us rows → (need js us).0 < (need js ts).0
      less us m =
          let s = t.some_budget us m in
          omega (arith, s.1, s.2.fits)

module _ (js : List Job) (v : ValidJobs js) where
  up_to_lem : (most b : ℕ) (below : ℕ → List (List Seconds)) (f : Found) → BestOrNone js (pages_per_hour b) f → b ≤ most
      → ((limit : ℕ) → limit ≤ most → TableBelow js limit (below limit)) → TableBelow js (suc b) (up_to below f)
  unfolding up_to
  up_to_lem most b below nothing h le tables = below_none (pages_per_hour b) h
  up_to_lem most b below (found q l ts) h le tables =
      let t : TableBelow js q (below q) = tables q (omega (arith, h.its_need, h.best.fits)) in
      below_more (pages_per_hour b) ts (below q) h.best (subst (λ (k : ℕ). TableBelow js k (below q)) h.its_need t)

  descends : (most limit : ℕ) → limit ≤ most → TableBelow js limit (descent js most limit)
  unfolding descent
  descends zero limit le = below_empty (λ c ts h k. omega arith)
  descends (suc most) zero le = below_empty (λ c ts h k. omega arith)
  descends (suc most) (suc b) le = up_to_lem most b (descent js most) (walk (pick b) js start nothing) (walk_best js (pages_per_hour b) v) (omega arith) (descends most)

  pub rows_below_lem : (limit : ℕ) → TableBelow js limit (rows_below js limit)
  rows_below_lem limit = descends limit limit (le_refl limit)

  -- the step down from a budget
  pub rows_step : (b : PagesPerHour) (ts : List Seconds) → Best js b ts → rows_below js (suc b.0) ≡ rows_below js (need js ts).0 ++ (ts ∷ [])
  rows_step b ts best = below_one (rows_below_lem (suc b.0)) (below_more b ts (rows_below js (need js ts).0) best (rows_below_lem (need js ts).0))

  pub rows_none : (b : PagesPerHour) → ((ts : List Seconds) → Permitted js ts → FitsBudget js ts b → ⊥) → rows_below js (suc b.0) ≡ []
  rows_none b unfit = below_one (rows_below_lem (suc b.0)) (below_none b unfit)

  -- The table from the greatest budget down is the table.
  pub descent_table : TableOf js (rows_below js all_budgets)
  descent_table =
      let t = rows_below_lem all_budgets in
      record { some_budget = t.some_budget; every_budget = t.every_budget; rising = t.rising }

  -- A table has no row exactly where no list is permitted.
  pub no_rows : {rows : List (List Seconds)} → length js ≤ 8 → TableOf js rows → (length rows ≡ 0) ↔ ((ts : List Seconds) → Permitted js ts → ⊥)
  no_rows {rows} few t = (unpermitted rows t, empty rows t)
    where
      unpermitted : (xs : List (List Seconds)) → TableOf js xs → length xs ≡ 0 → (ts : List Seconds) → Permitted js ts → ⊥
      unpermitted [] s e ts h =
          let fits : (need js ts).0 ≤ 4294967295 = omega (arith, need_small js ts v few h) in
          let best = some_best js (pages_per_hour 4294967295) ts v h fits in
          Memᴰ.not-nil (s.every_budget (pages_per_hour 4294967295) best.0 (omega arith) best.1)
      unpermitted (x ∷ xs) s e ts h = omega arith

      empty : (xs : List (List Seconds)) → TableOf js xs → ((ts : List Seconds) → Permitted js ts → ⊥) → length xs ≡ 0
      empty [] s no-list = refl
      empty (x ∷ xs) s no-list = absurd (no-list x (s.some_budget x (Memᴰ.head refl)).2.permitted)

-- at most one row for each budget
few_up_to : (most : ℕ) (below : ℕ → List (List Seconds)) (f : Found) → ((limit : ℕ) → length (below limit) ≤ most) → length (up_to below f) ≤ suc most
unfolding up_to
few_up_to most below nothing h = omega arith
few_up_to most below (found q l ts) h = omega (arith, h q, length-append (below q) (ts ∷ []))

few_rows : (js : List Job) (most limit : ℕ) → length (descent js most limit) ≤ most
unfolding descent
few_rows js zero limit = le_refl 0
few_rows js (suc most) zero = omega arith
few_rows js (suc most) (suc b) = few_up_to most (descent js most) (walk (pick b) js start nothing) (few_rows js most)

pub rows_few : (js : List Job) (limit : ℕ) → length (rows_below js limit) ≤ limit
rows_few js limit = few_rows js limit limit

pub rows_zero : (js : List Job) → rows_below js 0 ≡ []
unfolding descent
rows_zero js = refl
