-- Looking a budget up in its table answers as choosing does: the best list is a row, and every later row needs more than the budget.
-- Assumes nothing.
use mathlib.Core.Path.{◌≡◌, refl, sym, ◌∙◌, ap, ap₂, subst, subst₂}
use mathlib.Core.List.{List, [], ◌∷◌, ◌++◌}
use Prim.Native.Nat.{ℕ, ◌+◌, ◌*◌, ◌-◌, ◌^◌, ◌≤◌, ◌<◌}
use native.Mathlib.Omega.{arith}
use native.Mathlib.Decide.{dec_le}
use lib.ListN.{length, get_or, take, drop}
use lib.Seq.{take_at}
use borrow.Author.Tests.{eqb-false}
use Rattle.std.specs.Prelude.{Result, Ok, Err}
use Rattle.model.specs.declared.Seconds.{Seconds}
use Rattle.model.specs.declared.PagesPerHour.{PagesPerHour}
use Rattle.model.specs.declared.Job.{Job}
use Rattle.model.specs.declared.Profile.{Profile}
use Rattle.model.specs.declared.Refusal.{Refusal}
use Rattle.model.specs.declared.Refusal.TheVariants.{Budget}
use Rattle.model.specs.Model.{seconds, jobs_of, need, loss, Best, verdict_in, if_sound, verdict_of, count_verdict, padded}
use Rattle.model.specs.Valid.{ValidJobs, Valid}
use Rattle.model.proofs.Validity.{sound_valid, valid_sound}
use Rattle.model.proofs.Verdicts.{refusal_is_none, both_sound, test_passed}
use Rattle.choose.specs.declared.Choice.{Choice}
use Rattle.choose.specs.Choice.{answered, LeastBudget, Outcome, given, none_permitted, none_fit}
use Rattle.choose.proofs.OneOutcome.{one_least_budget}
use Rattle.table.specs.Table.{TableOf, table_bytes, Built}
use Rattle.table.proofs.Best.{best_at_need, needs_follow}
use Rattle.table.proofs.Outcome.{length_table}
use Rattle.table.proofs.Reading.{first_start}
use Rattle.table_row.specs.Table.{start_at}
use Rattle.table_check.specs.Formed.{WellFormed}
use Rattle.table_lookup.specs.Lookup.{Answers, Finds, below_first, answering}
use Rattle.table_lookup.specs.AsChosen.{Shows, LooksUpAs, LooksUpAll}
use Rattle.table_lookup.proofs.OneOutcome.{finds_one}
use Rattle.table_lookup.proofs.Laid.{row_member, member_row, laid_alone, loss_at_lem}
use Rattle.table_lookup.proofs.InOrder.{table_permitted, starts_rise}
use Rattle.table_lookup.proofs.TableFormed.{row_start, start_number, row_periods, rows_in_lem, table_well_formed}

-- the first row's need is the least budget that would do
first_least : (js : List Job) → ValidJobs js → (rows : List (List Seconds)) → TableOf js rows → 0 < length rows → LeastBudget js (need js (get_or rows 0 []))
first_least js v [] t some = absurd (omega arith)
first_least js v (ts ∷ rows) t some = first_start js v ts rows t

-- the row that shows a plan, told by its number
shown_alike : (p : Profile) {bytes : List ℕ} {i : ℕ} {plan : Choice} → Shows p bytes i plan → LooksUpAs p bytes (Ok (i + 1)) (Ok plan)
unfolding verdict_in
shown_alike p {bytes} {i} {plan} s = record {
  verdict = refl;
  row = λ {k} {plan = other} e f.
      (let number : i + 1 ≡ k = cc in
      let back : i ≡ k - 1 = omega arith in
      let same : plan ≡ other = cc in
      subst₂ (Shows p bytes) back same s);
}

module _ (p : Profile) (v : Valid p) {rows : List (List Seconds)} (t : TableOf (jobs_of p) rows) (some : 0 < length rows) (b : PagesPerHour) (small : b.0 < 2 ^ 32) where
  formed : WellFormed p (table_bytes (jobs_of p) rows)
  formed = table_well_formed p v t (λ none. omega arith)

  first : LeastBudget (jobs_of p) (need (jobs_of p) (get_or rows 0 []))
  first = first_least (jobs_of p) v.jobs rows t some

  first_there : start_at (table_bytes (jobs_of p) rows) 0 ≡ need (jobs_of p) (get_or rows 0 [])
  first_there = row_start p v t (laid_alone (jobs_of p) rows) 0 some

  -- what is found is what was chosen
  FoundAs : Result Choice Refusal → Type 0
  FoundAs c = (r : Result ℕ Refusal) × Finds p (table_bytes (jobs_of p) rows) b r × LooksUpAs p (table_bytes (jobs_of p) rows) r c

  module _ {ts : List Seconds} (best : Best (jobs_of p) b ts) where
    -- the row of the best list answers the budget
    best_answers : (i : ℕ) → i < length rows → get_or rows i [] ≡ ts → Answers (table_bytes (jobs_of p) rows) b i
    best_answers i less e = record {
      there = rw (rows_in_lem p rows) less;
      within = omega (arith, start_number p v t (laid_alone (jobs_of p) rows) i less, its_need, best.fits);
      last = λ j after to. later j after (rw (rows_in_lem p rows) at to) (dec_le (need (jobs_of p) (get_or rows j [])).0 b.0);
    }
      where
        its_need : (need (jobs_of p) (get_or rows i [])).0 ≡ (need (jobs_of p) ts).0
        its_need = ap (λ (us : List Seconds). (need (jobs_of p) us).0) e

        later : (j : ℕ) → i < j → j < length rows → Dec ((need (jobs_of p) (get_or rows j [])).0 ≤ b.0) → b.0 < (start_at (table_bytes (jobs_of p) rows) j).0
        later j after to (yes le) =
            let own-best = best_at_need (t.some_budget _ (row_member rows j to)).2 in
            absurd (omega (arith, needs_follow own-best best le, starts_rise t i j after to, its_need))
        later j after to (no gt) = omega (arith, start_number p v t (laid_alone (jobs_of p) rows) j to)

    best_shown : (i : ℕ) → i < length rows → get_or rows i [] ≡ ts → Shows p (table_bytes (jobs_of p) rows) i (answered (jobs_of p) ts)
    unfolding need
    best_shown i less e = record {
      start = row_start p v t (laid_alone (jobs_of p) rows) i less ∙ ap (need (jobs_of p)) e;
      periods = row_periods p v t (laid_alone (jobs_of p) rows) i less ∙ ap (padded (seconds 0)) e;
      loss = loss_at_lem p v (table_permitted t) (laid_alone (jobs_of p) rows) i less ∙ ap (loss (jobs_of p)) e;
    }

    best_looked_up : FoundAs (Ok (answered (jobs_of p) ts))
    unfolding FoundAs
    best_looked_up =
        let at = member_row (t.every_budget b ts small best) in
        (Ok (at.0 + 1), answering formed (best_answers at.0 at.1 at.2), shown_alike p (best_shown at.0 at.1 at.2))

  outcome_looked_up : {c : Result Choice Refusal} → Outcome (jobs_of p) b c → FoundAs c
  unfolding FoundAs verdict_in
  outcome_looked_up (given best) = best_looked_up best
  outcome_looked_up (none_permitted no-list) = absurd (no-list _ first.enough.1)
  outcome_looked_up (none_fit l unfit) =
      let below : b.0 < (start_at (table_bytes (jobs_of p) rows) 0).0 = too_small (dec_le (need (jobs_of p) (get_or rows 0 [])).0 b.0) in (
        Err (Budget (start_at (table_bytes (jobs_of p) rows) 0)),
        below_first formed below,
        record { verdict = ap (λ (q : PagesPerHour). Err (Budget q)) (first_there ∙ one_least_budget first l); row = λ e. absurd (refusal_is_none e) },
      )
    where
      too_small : Dec ((need (jobs_of p) (get_or rows 0 [])).0 ≤ b.0) → b.0 < (start_at (table_bytes (jobs_of p) rows) 0).0
      too_small (yes le) = absurd (unfit _ (table_permitted t _ (row_member rows 0 some)) le)
      too_small (no gt) = omega (arith, ap (λ (q : PagesPerHour). q.0) first_there)

-- Every budget is looked up in the bytes of a profile's table as it is chosen for.
pub table_looked_up : (p : Profile) → Valid p → {rows : List (List Seconds)} → TableOf (jobs_of p) rows → (length rows ≡ 0 → ⊥) →
    LooksUpAll p (table_bytes (jobs_of p) rows)
unfolding FoundAs
table_looked_up p v {rows} t some b small c chosen r located =
    let sound = valid_sound p v in
    let found = outcome_looked_up p v t (omega arith) b small (chosen.rest sound) in
    subst (λ (s : Result ℕ Refusal). LooksUpAs p (table_bytes (jobs_of p) rows) s c) (finds_one found.1 (located.rest sound)) found.2

-- bytes that are a valid profile's table, which has rows
pub record HoldsTable (p : Profile) (bytes : List ℕ) : Type 0 where
  pub valid : Valid p
  pub rows : List (List Seconds)
  pub table : TableOf (jobs_of p) rows
  pub some : length rows ≡ 0 → ⊥
  pub is : bytes ≡ table_bytes (jobs_of p) rows

-- what building wrote is that
pub built_holds : (p : Profile) (old : List ℕ) {r : Result ℕ Refusal} {new : List ℕ} → Built p old r new → {count : ℕ} → r ≡ Ok count → HoldsTable p (take (16 * count) new)
unfolding if_sound
built_holds p old {r} {new} built {count} e =
    let rows = built.rows in
    let T = table_bytes (jobs_of p) rows in
    let profile = both_sound (verdict_of p) (sym built.puts.answer ∙ e) in
    let room = both_sound (count_verdict (length rows) (length old)) profile.1 in
    let told = room.1 in
    let number : count ≡ length rows = cc in
    let bytes : new ≡ T ++ drop (length T) old = rw e at built.puts.bytes in
    record {
      valid = sound_valid p profile.0;
      rows = rows;
      table = built.are profile.0;
      some = eqb-false _ 0 (test_passed _ _ _ room.0).0;
      is = ap₂ (λ (k : ℕ) (l : List ℕ). take (16 * k) l) number bytes ∙ take_at T (drop (length T) old) (16 * length rows) (length_table (jobs_of p) rows);
    }

-- Whatever `build_table`, `choose` and `locate` may answer, every budget is looked up in the bytes written as it is chosen for.
pub built_looked_up : (p : Profile) (old : List ℕ) {r : Result ℕ Refusal} {new : List ℕ} → Built p old r new → {count : ℕ} → r ≡ Ok count → LooksUpAll p (take (16 * count) new)
built_looked_up p old built e =
    let h = built_holds p old built e in
    subst (LooksUpAll p) (sym h.is) (table_looked_up p h.valid h.table h.some)
