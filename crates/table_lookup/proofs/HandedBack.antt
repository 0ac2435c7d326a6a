-- The sixteen bytes that a lookup hands back are the row of the plan that choosing answers: they hold its need and its periods.
-- Assumes nothing.
use mathlib.Core.Path.{◌≡◌, refl, sym, ◌∙◌, ap₂, subst}
use mathlib.Core.List.{List}
use Prim.Native.Nat.{ℕ, ◌*◌, ◌-◌, ◌^◌, ◌<◌}
use lib.ListN.{take}
use Rattle.std.specs.Prelude.{Result, Ok}
use Rattle.model.specs.declared.PagesPerHour.{PagesPerHour}
use Rattle.model.specs.declared.Profile.{Profile}
use Rattle.model.specs.declared.Refusal.{Refusal}
use Rattle.model.specs.Model.{verdict_in, jobs_of, rounded_up}
use Rattle.model.proofs.Verdicts.{some_answer}
use Rattle.codec.specs.Fit.{Bytes}
use Rattle.table_row.specs.Table.{table_row}
use Rattle.choose.specs.declared.Choice.{Choice}
use Rattle.choose.specs.Choice.{Chosen}
use Rattle.table.specs.Table.{Built}
use Rattle.table_lookup.specs.Lookup.{LooksUp}
use Rattle.table_lookup.specs.AsChosen.{LooksUpAs}
use Rattle.table_lookup.proofs.OneOutcome.{sound_answers, located_part}
use Rattle.table_lookup.proofs.Laid.{few_jobs, table_is_bytes}
use Rattle.table_lookup.proofs.InOrder.{table_permitted}
use Rattle.table_lookup.proofs.RowsRead.{row_kept}
use Rattle.table_lookup.proofs.LookedUp.{HoldsTable, built_holds, built_looked_up}

part_is_row : (p : Profile) {bytes : List ℕ} {lies : ℕ × ℕ} {b : PagesPerHour} {c : Choice} {part : List ℕ} {at : ℕ × ℕ} → Bytes bytes →
    (handed : LooksUp p bytes lies b part at) → LooksUpAs p bytes handed.found (Ok c) → part ≡ table_row (rounded_up c.need) c.periods
unfolding verdict_in
part_is_row p {bytes} {lies} {b} h handed same =
    let found = some_answer handed.found same.verdict in
    let row = same.row found.1 refl in
    let there = (sound_answers p bytes b handed.located found.1).there in
    located_part p bytes lies b handed handed.located found.1 ∙ sym (row_kept bytes (found.0 - 1) h there) ∙ ap₂ table_row row.start row.periods

holds_bytes : (p : Profile) {bytes : List ℕ} → HoldsTable p bytes → Bytes bytes
holds_bytes p h = subst Bytes (sym h.is) (table_is_bytes (jobs_of p) h.valid.jobs (few_jobs p h.valid) h.rows (table_permitted h.table))

-- Whatever `build_table`, `choose` and `lookup` may answer to a budget that is not refused.
pub built_handed_back : (p : Profile) (old : List ℕ) {r : Result ℕ Refusal} {new : List ℕ} → Built p old r new → {count : ℕ} → r ≡ Ok count
    → (b : PagesPerHour) → b.0 < 2 ^ 32 → {c : Result Choice Refusal} → Chosen p b c → {plan : Choice} → c ≡ Ok plan
    → {lies : ℕ × ℕ} {part : List ℕ} {at : ℕ × ℕ} → LooksUp p (take (16 * count) new) lies b part at → part ≡ table_row (rounded_up plan.need) plan.periods
built_handed_back p old built e b small {c} chosen given handed =
    let same = rw given at (built_looked_up p old built e b small c chosen handed.found handed.located) in
    part_is_row p (holds_bytes p (built_holds p old built e)) handed same
