-- What building answers: the rows of the one table, put by the rule that all rows share.
-- Assumes nothing.
use mathlib.Core.Path.{◌≡◌, sym, ◌∙◌, ap}
use mathlib.Core.Logic.{◌↔◌}
use mathlib.Core.List.{List, ◌++◌}
use Prim.Native.Nat.{ℕ, ◌*◌}
use native.Mathlib.Omega.{arith}
use lib.ListN.{length, drop}
use Rattle.std.specs.Prelude.{Result, Ok, Err}
use Rattle.model.specs.declared.Seconds.{Seconds}
use Rattle.model.specs.declared.Job.{Job}
use Rattle.model.specs.declared.Profile.{Profile}
use Rattle.model.specs.declared.Refusal.{Refusal}
use Rattle.model.specs.Model.{sound, no_job, jobs_of, Permitted, verdict_of, need, row_size, count_verdict, PutsFront}
use Rattle.model.proofs.Entries.{length_entries}
use Rattle.model.proofs.Lists.{flat_length}
use Rattle.model.specs.Valid.{Valid}
use Rattle.model.proofs.Validity.{sound_valid, valid_sound}
use Rattle.model.proofs.FrontPut.{own_alone, room_enough, count_refused, rows_put}
use Rattle.table_row.specs.Table.{table_row}
use Rattle.table_row.proofs.Words.{length_table_row}
use Rattle.table.specs.Table.{TableOf, table_bytes, Built}
use Rattle.table.specs.Descent.{rows_below, all_budgets, Wrote}
use Rattle.table.proofs.Descent.{descent_table, no_rows}

abbrev pub rows_of : Profile → List (List Seconds)
rows_of p = rows_below (jobs_of p) all_budgets

pub are_rows : (p : Profile) → verdict_of p ≡ sound → TableOf (jobs_of p) (rows_of p)
are_rows p e = descent_table (jobs_of p) (sound_valid p e).jobs

pub none_of : (p : Profile) → verdict_of p ≡ sound → (length (rows_of p) ≡ 0) ↔ ((ts : List Seconds) → Permitted (jobs_of p) ts → ⊥)
none_of p e =
    let v = sound_valid p e in
    no_rows (jobs_of p) v.jobs (omega (arith, length_entries no_job p.jobs 0 p.n)) (are_rows p e)

-- these rows, put, are what building may answer
pub built : (p : Profile) (old : List ℕ) {r : Result ℕ Refusal} {new : List ℕ}
    → PutsFront p (count_verdict (length (rows_of p)) (length old)) (length (rows_of p)) (table_bytes (jobs_of p) (rows_of p)) old r new → Built p old r new
built p old put = record { rows = rows_of p; are = are_rows p; none = none_of p; puts = put }

-- the profile's own refusal is told first
pub refused_built : {p : Profile} {old : List ℕ} {refusal : Refusal} → Err refusal ≡ verdict_of p → Built p old (Err refusal) old
refused_built {p} {old} e = built p old (own_alone p _ _ _ old (sym e))

-- rows one after the other
pub length_table : (js : List Job) (rows : List (List Seconds)) → length (table_bytes js rows) ≡ row_size * length rows
unfolding table_bytes
length_table js rows = flat_length (λ (ts : List Seconds). table_row (need js ts) ts) row_size (λ ts. length_table_row (need js ts) ts) rows

-- past the profile's own verdict, what is told of the rows counted
module _ {p : Profile} {old : List ℕ} (v : Valid p) {count : ℕ} (is : count ≡ length (rows_of p)) where
  pub count_built : {refusal : Refusal} → Err refusal ≡ count_verdict count (length old) → Built p old (Err refusal) old
  count_built e = built p old (count_refused p _ _ old count (valid_sound p v) is (sym e))

  pub all_built : {none : Unit {0}} → Ok none ≡ count_verdict count (length old) → {new : List ℕ} {written : ℕ} → Wrote (jobs_of p) count old new written
      → Built p old (Ok count) new
  all_built e wrote =
      let room = room_enough count (length old) (sym e) in
      let bytes = wrote.bytes is room ∙ ap (λ (k : ℕ). table_bytes (jobs_of p) (rows_of p) ++ drop (row_size * k) old) is in
      built p old (rows_put p _ _ old count (valid_sound p v) is (sym e) (length_table (jobs_of p) (rows_of p)) bytes)
