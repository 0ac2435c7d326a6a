-- The lines of a sound listing, one by one: row k of the built bytes is the k-th list of the table, so line k + 1 is its line.
-- Assumes nothing.
use mathlib.Core.Path.{◌≡◌, refl, sym, ◌∙◌, ap, ap₂}
use mathlib.Core.List.{List, [], ◌∷◌, ◌++◌, append_assoc, append-nil}
use Prim.Native.Nat.{ℕ, zero, suc, ◌≤◌, ◌<◌}
use native.Mathlib.Omega.{arith}
use lib.ListN.{length, get_or, take, length-append}
use Rattle.std.specs.Prelude.{Ok}
use lib.Seq.{take-suc, take-length}
use borrow.Author.Tests.{lt-ltb}
use Rattle.model.specs.declared.Seconds.{Seconds}
use Rattle.model.specs.declared.Job.{Job}
use Rattle.model.specs.declared.Profile.{Profile}
use Rattle.model.specs.Model.{sound, seconds, jobs_of, periods_of, need, loss, verdict_of, if_sound}
use Rattle.model.specs.Valid.{Valid}
use Rattle.model.proofs.Validity.{valid_sound}
use Rattle.model.proofs.Verdicts.{sound_passes}
use Rattle.score.specs.Judging.{first_unpermitted, score_verdict}
use Rattle.score.proofs.Permission.{permitted_sound}
use Rattle.table.specs.Table.{table_bytes}
use Rattle.table.proofs.Outcome.{length_table}
use Rattle.table_row.specs.Table.{rows_in, periods_at}
use Rattle.table_lookup.proofs.Laid.{Laid, AllPermitted, row_member, few_jobs, start_at_lem, list_at_lem, loss_at_lem}
use Rattle.ladder_listing.specs.declared.Listing.{Listing}
use Rattle.ladder_line.specs.Lines.{header_line, row_line}
use Rattle.ladder_listing.specs.Listing.{line_of_row, line_at}
use Rattle.ladder_listing.specs.Text.{row_lines, lines_to}

-- the line of a list of periods
abbrev line_of : List Job → List Seconds → List ℕ
line_of js ts = row_line (need js ts) (loss js ts) ts

-- one row more
rows_snoc : (js : List Job) (rows : List (List Seconds)) (ts : List Seconds) → row_lines js (rows ++ (ts ∷ [])) ≡ row_lines js rows ++ line_of js ts
unfolding row_lines
rows_snoc js [] ts = append-nil (line_of js ts)
rows_snoc js (us ∷ rows) ts =
    ap (λ (l : List ℕ). line_of js us ++ l) (rows_snoc js rows ts) ∙ sym (append_assoc (line_of js us) (row_lines js rows) (line_of js ts))

module _ (p : Profile) (v : Valid p) {rows : List (List Seconds)} (all : AllPermitted (jobs_of p) rows) {table : List ℕ} (laid : Laid (jobs_of p) rows table) where
  within : length rows ≤ rows_in table
  within = omega (arith, ap length laid.is, length-append (table_bytes (jobs_of p) rows) laid.rest, length_table (jobs_of p) rows)

  module _ (k : ℕ) (less : k < length rows) where
    scores : score_verdict p (periods_at table k) ≡ sound
    unfolding score_verdict
    scores =
        let listed = ap (first_unpermitted 0 (seconds 1) (jobs_of p)) (list_at_lem p v all laid k less) in
        let permitted = permitted_sound 0 (seconds 1) (jobs_of p) (get_or rows k []) (all _ (row_member rows k less)) in
        sound_passes {v = verdict_of p} _ refl (valid_sound p v) ∙ listed ∙ permitted

    pub row_line_is : line_of_row p table k ≡ line_of (jobs_of p) (get_or rows k [])
    unfolding line_of_row if_sound
    row_line_is =
        let ts = get_or rows k [] in
        let start = start_at_lem (jobs_of p) v.jobs (few_jobs p v) all laid k less in
        rw (lt-ltb k (rows_in table) (omega (arith, within)), scores)
        (ap₂ (λ (s : _) (l : ℕ). row_line s l (periods_of p (periods_at table k))) start (loss_at_lem p v all laid k less)
        ∙ ap (row_line (need (jobs_of p) ts) (loss (jobs_of p) ts)) (list_at_lem p v all laid k less))

-- the lines up to line k are the header and the lines of k rows
module _ (l : Listing) (v : Valid l.profile) {rows : List (List Seconds)}
    (all : AllPermitted (jobs_of l.profile) rows) {table : List ℕ} (laid : Laid (jobs_of l.profile) rows table) (count : l.rows ≡ length rows) where
  line_is : (k : ℕ) → k < length rows → line_at (Ok l) table (suc k) ≡ line_of (jobs_of l.profile) (get_or rows k [])
  unfolding line_at
  line_is k less = rw (lt-ltb k l.rows (omega arith)) (row_line_is l.profile v all laid k less)

  lines_to_lem : (k : ℕ) → k ≤ length rows → lines_to (Ok l) table k ≡ header_line l.profile.n l.rows ++ row_lines (jobs_of l.profile) (take k rows)
  unfolding lines_to row_lines line_at
  lines_to_lem zero to = sym (append-nil _)
  lines_to_lem (suc k) to =
      let H = header_line l.profile.n l.rows in
      let js = jobs_of l.profile in
      ap₂ ◌++◌ (lines_to_lem k (omega arith)) (line_is k to)
      ∙ append_assoc H (row_lines js (take k rows)) _
      ∙ ap (λ (t : List ℕ). H ++ t) (sym (ap (row_lines js) (take-suc rows k [] to) ∙ rows_snoc js (take k rows) (get_or rows k [])))

  pub sound_lines : lines_to (Ok l) table l.rows ≡ header_line l.profile.n (length rows) ++ row_lines (jobs_of l.profile) rows
  sound_lines =
      let lines : ℕ → List (List Seconds) → List ℕ = λ n r. header_line l.profile.n n ++ row_lines (jobs_of l.profile) r in
      lines_to_lem l.rows (omega arith) ∙ ap₂ lines count (ap (λ (k : ℕ). take k rows) count ∙ take-length rows)
