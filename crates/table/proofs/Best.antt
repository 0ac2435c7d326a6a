-- The best of all lists that fit a budget, where it fits a smaller one, is the best there too: fewer lists fit.
-- Assumes nothing.
use mathlib.Core.Path.{◌≡◌, ap}
use mathlib.Core.List.{List, [], ◌∷◌, Memᴰ}
use Prim.Native.Nat.{ℕ, ◌*◌, ◌/◌, ◌^◌, ◌≤◌, ◌<◌, max}
use native.Mathlib.Omega.{arith}
use native.Mathlib.Decide.{dec_le, ℕ_discrete}
use native.Mathlib.Nat.{le_trans, le_refl, mul-le-mul, div-le_self}
use lib.ListN.{length}
use Rattle.model.specs.declared.Seconds.{Seconds}
use Rattle.model.specs.declared.PagesPerHour.{PagesPerHour}
use Rattle.model.specs.declared.Job.{Job}
use Rattle.model.specs.Model.{seconds, Permitted, last_of, pages_in, need, FitsBudget, loss, Best}
use Rattle.model.specs.Most.{most_pages}
use Rattle.model.specs.Valid.{ValidJobs}
use Rattle.model.proofs.Bounds.{need_bound}
use Rattle.model.proofs.Exact.{need_as_it_was}
use Rattle.walk.specs.Walk.{walk, start}
use Rattle.choose_offer.specs.Found.{Found, nothing, found, pick}
use Rattle.choose_walk.specs.Best.{BestOrNone}
use Rattle.choose_walk.proofs.Fold.{walk_best}
use Rattle.choose.proofs.OneOutcome.{one_best}
use Rattle.step.specs.Step.{load, loads_in}
use Rattle.step.proofs.Bounds.{load_bound}
use Rattle.step.proofs.Pages.{last_positive}
use Rattle.step.proofs.Shared.{pages_by_load}
use Rattle.table.specs.Table.{TableOf}

pub same_need : (js : List Job) {ts us : List Seconds} → ts ≡ us → (need js ts).0 ≡ (need js us).0
same_need js e = ap (λ (xs : List Seconds). (need js xs).0) e

module _ {js : List Job} {ts : List Seconds} where
  -- Best for a budget is best for every budget from its need up to that one.
  pub best_between : {b : PagesPerHour} (c : PagesPerHour) → Best js b ts → (need js ts).0 ≤ c.0 → c.0 ≤ b.0 → Best js c ts
  best_between c h from to = record { permitted = h.permitted; fits = from; first = λ us k fits. h.first us k (le_trans fits to) }

  -- So its need is the least budget that gets it.
  pub best_at_need : {b : PagesPerHour} → Best js b ts → Best js (need js ts) ts
  best_at_need h = best_between (need js ts) h (le_refl _) h.fits

  pub need_least : {c : PagesPerHour} → Best js c ts → (need js ts).0 ≤ c.0
  need_least h = h.fits

module _ {js : List Job} {ts us : List Seconds} {b c : PagesPerHour} (h : Best js b ts) (k : Best js c us) where
  -- Where one best list needs more than another, it loses less.
  pub losses_fall : (need js ts).0 < (need js us).0 → loss js us < loss js ts
  losses_fall less = go (ℕ_discrete (loss js us) (loss js ts))
    where
      go : Dec (loss js us ≡ loss js ts) → loss js us < loss js ts
      go (yes e) =
          let fits : (need js ts).0 ≤ c.0 = omega (arith, k.fits) in
          absurd (omega (arith, (k.first ts h.permitted fits).need_next e))
      go (no ne) =
          let fits : (need js ts).0 ≤ c.0 = omega (arith, k.fits) in
          omega (arith, (k.first ts h.permitted fits).loss_first)

  -- The best list for a greater budget needs no less.
  pub needs_follow : b.0 ≤ c.0 → (need js ts).0 ≤ (need js us).0
  needs_follow le = go (dec_le (need js ts).0 (need js us).0)
    where
      go : Dec ((need js ts).0 ≤ (need js us).0) → (need js ts).0 ≤ (need js us).0
      go (yes order) = order
      go (no order) =
          let fits : (need js us).0 ≤ b.0 = omega (arith, h.fits) in
          let same = one_best h (best_between b k fits le) in
          absurd (omega (arith, same_need js same))

-- The best list for a budget, where some permitted list fits it.
pub some_best : (js : List Job) (b : PagesPerHour) (us : List Seconds) → ValidJobs js → Permitted js us → FitsBudget js us b → (ts : List Seconds) × Best js b ts
some_best js b us v h fits = go (walk (pick b.0) js start nothing) (walk_best js b v)
  where
    go : (f : Found) → BestOrNone js b f → (ts : List Seconds) × Best js b ts
    go nothing none-fits = absurd (none-fits us h fits)
    go (found q l ts) k = (ts, k.best)

loads_bound : (greatest : ℕ) (cycle : Seconds) (js : List Job) (ts : List Seconds) → ValidJobs js → loads_in greatest cycle js ts ≤ most_pages * cycle.0 * length js
unfolding loads_in
loads_bound g cycle [] ts v = omega arith
loads_bound g cycle (j ∷ js) [] v = omega arith
loads_bound g cycle (j ∷ js) (t ∷ ts) v =
    let here : load g j * (cycle.0 / t.0) ≤ most_pages * cycle.0 = mul-le-mul (load_bound g j v.0) (div-le_self cycle.0 t.0) in
    omega (arith, loads_bound (max g j.metadata) cycle js ts v.1)

-- Every permitted list of at most eight jobs fits some 32-bit budget.
pub need_small : (js : List Job) (ts : List Seconds) → ValidJobs js → length js ≤ 8 → Permitted js ts → (need js ts).0 < 2 ^ 32
need_small js ts v few h =
    let cycle = last_of (seconds 1) ts in
    let written : pages_in cycle js ts ≤ most_pages * cycle.0 * length js = rw (pages_by_load js ts v h cycle) (loads_bound 0 cycle js ts v) in
    let most = need_bound (pages_in cycle js ts) cycle.0 (length js) (last_positive (seconds 1) js ts v (le_refl 1) h) written in
    rw (need_as_it_was js ts) (omega arith)

-- the rows of a table
module _ {js : List Job} {rows : List (List Seconds)} (t : TableOf js rows) where
  -- A row's start is the least budget that gets it.
  pub starts_least : (ts : List Seconds) → Memᴰ ts rows → Best js (need js ts) ts × ((c : PagesPerHour) → Best js c ts → (need js ts).0 ≤ c.0)
  starts_least ts m = (best_at_need (t.some_budget ts m).2, λ c. need_least)

  -- Losses fall strictly as needs rise.
  pub table_losses_fall : (ts us : List Seconds) → Memᴰ ts rows → Memᴰ us rows → (need js ts).0 < (need js us).0 → loss js us < loss js ts
  table_losses_fall ts us m n = losses_fall (t.some_budget ts m).2 (t.some_budget us n).2
