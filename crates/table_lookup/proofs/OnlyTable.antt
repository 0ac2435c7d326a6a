-- No other bytes answer every budget as choosing does: each row read is the answer to its own start, and each answer is a row read.
-- Assumes nothing.
use mathlib.Core.Path.{◌≡◌, refl, sym, ◌∙◌, ap, subst}
use mathlib.Core.List.Memᴰ
use mathlib.Core.List.{List, Memᴰ}
use Prim.Native.Nat.{ℕ, ◌*◌, ◌-◌, ◌^◌, ◌<◌}
use native.Mathlib.Nat.{le_refl}
use native.Mathlib.Omega.{arith}
use lib.ListN.{take}
use borrow.Author.Tests.{eqb-false}
use Rattle.std.specs.Prelude.{Result, Ok}
use Rattle.model.specs.declared.Seconds.{Seconds}
use Rattle.model.specs.declared.PagesPerHour.{PagesPerHour}
use Rattle.model.specs.declared.Job.{Job}
use Rattle.model.specs.declared.Profile.{Profile}
use Rattle.model.specs.declared.Refusal.{Refusal}
use Rattle.model.specs.Model.{pages_per_hour, jobs_of, periods_of, Best, verdict_in, number_of}
use Rattle.model.specs.Valid.{Valid}
use Rattle.model.proofs.ProfileFirst.{past_profile}
use Rattle.model.proofs.Validity.{valid_sound}
use Rattle.model.proofs.Verdicts.{some_answer}
use Rattle.codec.specs.Fit.{Bytes}
use Rattle.choose.specs.declared.Choice.{Choice}
use Rattle.choose.specs.Choice.{answered, Outcome, given, none_permitted, none_fit, Chosen}
use Rattle.table.specs.Table.{TableOf, table_bytes, Built}
use Rattle.table.specs.Descent.{rows_below, all_budgets}
use Rattle.table.specs.Reading.{read_table}
use Rattle.table.proofs.Best.{need_small}
use Rattle.table.proofs.Descent.{descent_table}
use Rattle.table.proofs.OneOutcome.{table_one}
use Rattle.table.proofs.Reading.{table_answers}
use Rattle.table_row.specs.Table.{rows_in, start_at}
use Rattle.table_check.specs.Formed.{WellFormed}
use Rattle.table_lookup.specs.Lookup.{Answers, Finds, wrong_length, bad_row, below_first, answering}
use Rattle.table_lookup.specs.AsChosen.{LooksUpAs, LooksUpAll}
use Rattle.table_lookup.proofs.Computed.{locate_for, locate_meets}
use Rattle.table_lookup.proofs.Finding.{one_answers, starts_climb}
use Rattle.table_lookup.proofs.OneOutcome.{sound_answers}
use Rattle.table_lookup.proofs.Laid.{few_jobs, unpadded}
use Rattle.table_lookup.proofs.LookedUp.{built_holds}
use Rattle.table_lookup.proofs.RowsRead.{list_at, rows_read, read_member, member_place, read_rising, formed_bytes}

-- choosing is never refused with 12
no_twelve : {js : List Job} {b : PagesPerHour} {c : Result Choice Refusal} → Outcome js b c → number_of (verdict_in c) ≡ 12 → ⊥
unfolding verdict_in
no_twelve (given best) e = eqb-false 0 12 refl e
no_twelve (none_permitted no-list) e = eqb-false 9 12 refl e
no_twelve (none_fit l unfit) e = eqb-false 10 12 refl e

-- what is found in a table, where it is not refused with 12
not_twelve : {p : Profile} {bytes : List ℕ} {b : PagesPerHour} {r : Result ℕ Refusal} → Finds p bytes b r → (number_of (verdict_in r) ≡ 12 → ⊥) → WellFormed p bytes
unfolding verdict_in
not_twelve (wrong_length odd) h = absurd (h refl)
not_twelve (bad_row w f) h = absurd (h refl)
not_twelve (below_first w l) h = w
not_twelve (answering w a) h = w

module _ (p : Profile) (v : Valid p) where
  outcome_chosen : {b : PagesPerHour} {c : Result Choice Refusal} → Outcome (jobs_of p) b c → Chosen p b c
  outcome_chosen o = past_profile (valid_sound p v) o

  -- every budget has its answer
  some_outcome : (b : PagesPerHour) → b.0 < 2 ^ 32 → Outcome (jobs_of p) b (read_table (jobs_of p) (rows_below (jobs_of p) all_budgets) b)
  some_outcome b small = table_answers (jobs_of p) v.jobs (few_jobs p v) (rows_below (jobs_of p) all_budgets) (descent_table (jobs_of p) v.jobs) b small

  module _ (bytes : List ℕ) (same : LooksUpAll p bytes) where
    pub all_formed : WellFormed p bytes
    all_formed =
        let b = pages_per_hour 0 in
        let o = some_outcome b (omega arith) in
        let found = locate_meets p bytes b in
        let alike = same b (omega arith) _ (outcome_chosen o) _ found in
        not_twelve (found.rest (valid_sound p v)) (λ e. no_twelve o (ap number_of (sym alike.verdict) ∙ e))

    module _ {b : PagesPerHour} (small : b.0 < 2 ^ 32) {ts : List Seconds} (best : Best (jobs_of p) b ts) where
      as_chosen : LooksUpAs p bytes (locate_for p bytes b) (Ok (answered (jobs_of p) ts))
      as_chosen = same b small (Ok (answered (jobs_of p) ts)) (outcome_chosen (given best)) (locate_for p bytes b) (locate_meets p bytes b)

      row_told : (k : ℕ) × (locate_for p bytes b ≡ Ok k)
      unfolding verdict_in
      row_told = some_answer (locate_for p bytes b) as_chosen.verdict

      found : Answers bytes b (row_told.0 - 1)
      found = sound_answers p bytes b (locate_meets p bytes b) row_told.1

      found_best : list_at p bytes (row_told.0 - 1) ≡ ts
      found_best = ap (periods_of p) (as_chosen.row row_told.1 refl).periods ∙ unpadded p ts best.permitted

      best_read : Memᴰ ts (rows_read p bytes)
      best_read = Memᴰ.cast (sym found_best) (read_member p bytes _ found.there)

    module _ (i : ℕ) (less : i < rows_in bytes) where
      start_small : (start_at bytes i).0 < 2 ^ 32
      start_small =
          let good = all_formed.rows i less in
          omega (arith, good.start, need_small (jobs_of p) (list_at p bytes i) v.jobs (few_jobs p v) good.permitted)

      -- a row answers its own start
      own_start : Answers bytes (start_at bytes i) i
      own_start = record { there = less; within = le_refl _; last = λ j after to. starts_climb p bytes all_formed j i after to }

      row_best : Best (jobs_of p) (start_at bytes i) (list_at p bytes i)
      row_best = go (some_outcome (start_at bytes i) start_small)
        where
          go : {c : Result Choice Refusal} → Outcome (jobs_of p) (start_at bytes i) c → Best (jobs_of p) (start_at bytes i) (list_at p bytes i)
          go (given best) =
              let same = one_answers bytes (start_at bytes i) _ i (found start_small best) own_start in
              subst (Best (jobs_of p) (start_at bytes i)) (sym (found_best start_small best) ∙ ap (list_at p bytes) same) best
          go (none_permitted no-list) = absurd (no-list _ (all_formed.rows i less).permitted)
          go (none_fit l unfit) = absurd (unfit _ (all_formed.rows i less).permitted (omega (arith, (all_formed.rows i less).start)))

    -- the rows read are the table
    pub read_table_lem : TableOf (jobs_of p) (rows_read p bytes)
    read_table_lem = record {
      some_budget = λ ts m. at_start (member_place p bytes m);
      every_budget = λ b ts small best. best_read small best;
      rising = read_rising p bytes all_formed;
    }
      where
        at_start : {ts : List Seconds} → (i : ℕ) × (i < rows_in bytes) × (list_at p bytes i ≡ ts) → (b : PagesPerHour) × (b.0 < 2 ^ 32) × Best (jobs_of p) b ts
        at_start r = (start_at bytes r.0, start_small r.0 r.1, subst (Best (jobs_of p) (start_at bytes r.0)) r.2 (row_best r.0 r.1))

-- Bytes in which every budget is looked up as it is chosen for are the bytes of the profile's table.
pub only_table : (p : Profile) → Valid p → (bytes : List ℕ) → Bytes bytes → LooksUpAll p bytes →
    {rows : List (List Seconds)} → TableOf (jobs_of p) rows → bytes ≡ table_bytes (jobs_of p) rows
only_table p v bytes h same t =
    let rows = table_one (jobs_of p) (read_table_lem p v bytes same) t in
    sym (formed_bytes p bytes (all_formed p v bytes same) h) ∙ ap (table_bytes (jobs_of p)) rows

-- So they are what `build_table` writes.
pub only_built : (p : Profile) (old : List ℕ) {r : Result ℕ Refusal} {new : List ℕ} → Built p old r new → {count : ℕ} → r ≡ Ok count →
    (bytes : List ℕ) → Bytes bytes → LooksUpAll p bytes → bytes ≡ take (16 * count) new
only_built p old built e bytes h same =
    let held = built_holds p old built e in
    only_table p held.valid bytes h same held.table ∙ sym held.is
