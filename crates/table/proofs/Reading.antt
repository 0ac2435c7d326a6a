-- What a table answers to a budget is what choosing answers: the last row that fits has the greatest need of all best lists that fit.
-- Assumes nothing.
use mathlib.Core.Path.{◌≡◌, refl, sym, subst}
use mathlib.Core.Logic.{◌⊎◌, inl, inr, ⊎_elim}
use mathlib.Core.List.Memᴰ
use mathlib.Core.List.{List, [], ◌∷◌, Memᴰ}
use Prim.Native.Nat.{ℕ, ◌^◌, ◌≤◌, ◌<◌}
use native.Mathlib.Omega.{arith}
use native.Mathlib.Decide.{dec_le, dec_lt}
use native.Mathlib.Nat.{le_refl}
use lib.ListN.{length}
use Rattle.std.specs.Prelude.{Result, Ok}
use borrow.Author.Tests.{lt-ltb, le-ltb, le-leb, lt-leb}
use Rattle.model.specs.declared.Seconds.{Seconds}
use Rattle.model.specs.declared.PagesPerHour.{PagesPerHour}
use Rattle.model.specs.declared.Job.{Job}
use Rattle.model.specs.declared.Profile.{Profile}
use Rattle.model.specs.declared.Refusal.{Refusal}
use Rattle.model.specs.Model.{sound, no_job, jobs_of, Permitted, need, FitsBudget, Best, verdict_of}
use Rattle.model.specs.Valid.{ValidJobs}
use Rattle.model.proofs.Entries.{length_entries}
use Rattle.model.proofs.Validity.{sound_valid}
use Rattle.choose.specs.declared.Choice.{Choice}
use Rattle.choose.specs.Choice.{answered, LeastBudget, Outcome, given, none_permitted, none_fit, Chosen}
use Rattle.choose.proofs.OneOutcome.{one_outcome}
use Rattle.table.specs.Table.{TableOf, Built}
use Rattle.table.specs.Descent.{StartsRise}
use Rattle.table.specs.Reading.{last_row, read_table}
use Rattle.table.proofs.Best.{same_need, best_at_need, needs_follow, some_best}
use Rattle.table.proofs.Descent.{no_rows}

-- no row that fits needs more than us
abbrev Greatest : List Job → PagesPerHour → List (List Seconds) → List Seconds → Type 0
Greatest js b rows us = (xs : List Seconds) → Memᴰ xs rows → (need js xs).0 ≤ b.0 → (need js xs).0 ≤ (need js us).0

-- the row with the greatest need that fits is the one read
last_row_lem : (js : List Job) (b : PagesPerHour) (ts : List Seconds) (rows : List (List Seconds)) (us : List Seconds)
    → StartsRise js (ts ∷ rows) → Memᴰ us (ts ∷ rows) → (need js us).0 ≤ b.0 → Greatest js b (ts ∷ rows) us → last_row js b ts rows ≡ us
unfolding last_row
last_row_lem js b ts [] us rising m fits greatest = sym (Memᴰ.eq_of_singleton m)
last_row_lem js b ts (x ∷ rows) us rising m fits greatest = go (dec_le (need js x).0 b.0) (last_row_lem js b x rows us) (Memᴰ.cases_cons m)
  where
    go : Dec ((need js x).0 ≤ b.0)
        → (StartsRise js (x ∷ rows) → Memᴰ us (x ∷ rows) → (need js us).0 ≤ b.0 → Greatest js b (x ∷ rows) us → last_row js b x rows ≡ us)
        → (us ≡ ts) ⊎ Memᴰ us (x ∷ rows) → last_row js b ts (x ∷ rows) ≡ us
    go (yes le) later (inl e) = absurd (omega (arith, greatest x (Memᴰ.tail (Memᴰ.head refl)) le, rising.0 x (Memᴰ.head refl), same_need js e))
    go (yes le) later (inr n) = rw (le-leb (need js x).0 b.0 le) (later rising.1 n fits (λ xs k. greatest xs (Memᴰ.tail k)))
    go (no gt) later (inl e) = rw (lt-leb (need js x).0 b.0 (omega arith)) (sym e)
    go (no gt) later (inr n) = absurd (⊎_elim (λ e. omega (arith, same_need js e)) (λ k. omega (arith, rising.1.0 us k)) (Memᴰ.cases_cons n))

module _ (js : List Job) (v : ValidJobs js) (ts : List Seconds) (rows : List (List Seconds)) (t : TableOf js (ts ∷ rows)) where
  -- the first row has the least need
  first_least : (c : PagesPerHour) (us : List Seconds) → c.0 < 2 ^ 32 → Best js c us → (need js ts).0 ≤ (need js us).0
  first_least c us h k = ⊎_elim (λ e. omega (arith, same_need js e)) (λ m. omega (arith, t.rising.0 us m)) (Memᴰ.cases_cons (t.every_budget c us h k))

  its_budget : (b : PagesPerHour) × (b.0 < 2 ^ 32) × Best js b ts
  its_budget = t.some_budget ts (Memᴰ.head refl)

  fewest : (c : PagesPerHour) (us : List Seconds) → Permitted js us → FitsBudget js us c → (need js ts).0 ≤ c.0
  fewest c us h fits = go (dec_le (need js ts).0 c.0)
    where
      go : Dec ((need js ts).0 ≤ c.0) → (need js ts).0 ≤ c.0
      go (yes le) = le
      go (no gt) =
          let best = some_best js c us v h fits in
          let own : (need js ts).0 < 2 ^ 32 = omega (arith, its_budget.1, its_budget.2.fits) in
          absurd (omega (arith, first_least c best.0 (omega arith) best.1, best.1.fits))

  pub first_start : LeastBudget js (need js ts)
  first_start = record { enough = (ts, its_budget.2.permitted, le_refl _); fewest = fewest }

  answers : (b : PagesPerHour) → b.0 < 2 ^ 32 → Dec (b.0 < (need js ts).0) → Outcome js b (read_table js (ts ∷ rows) b)
  unfolding read_table
  answers b h (yes less) = rw (lt-ltb b.0 (need js ts).0 less) (none_fit first_start (λ us k fits. omega (arith, fewest b us k fits)))
  answers b h (no enough) =
      let fits : (need js ts).0 ≤ b.0 = omega arith in
      let best = some_best js b ts v its_budget.2.permitted fits in
      let m = t.every_budget b best.0 h best.1 in
      let greatest : Greatest js b (ts ∷ rows) best.0 = λ xs n le. needs_follow (best_at_need (t.some_budget xs n).2) best.1 le in
      let last = last_row_lem js b ts rows best.0 t.rising m best.1.fits greatest in
      rw (le-ltb b.0 (need js ts).0 fits) (subst (λ (l : List Seconds). Outcome js b (Ok (answered js l))) (sym last) (given best.1))

-- For every budget, the answer read from the table is the answer of choosing, the detail of 10 included.
pub table_answers : (js : List Job) → ValidJobs js → length js ≤ 8 → (rows : List (List Seconds)) → TableOf js rows
    → (b : PagesPerHour) → b.0 < 2 ^ 32 → Outcome js b (read_table js rows b)
unfolding read_table
table_answers js v few [] t b h = none_permitted ((no_rows js v few t).0 refl)
table_answers js v few (ts ∷ rows) t b h = answers js v ts rows t b h (dec_lt b.0 (need js ts).0)

-- So the rows that building went by answer every budget as `choose` does.
pub built_answers : (p : Profile) (old : List ℕ) {r : Result ℕ Refusal} {new : List ℕ} (t : Built p old r new) → verdict_of p ≡ sound
    → (b : PagesPerHour) → b.0 < 2 ^ 32 → {c : Result Choice Refusal} → Chosen p b c → c ≡ read_table (jobs_of p) t.rows b
built_answers p old t e b h chosen =
    let v = sound_valid p e in
    let few : length (jobs_of p) ≤ 8 = omega (arith, length_entries no_job p.jobs 0 p.n) in
    one_outcome (chosen.rest e) (table_answers (jobs_of p) v.jobs few t.rows (t.are e) b h)
