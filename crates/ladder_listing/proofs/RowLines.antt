-- A row as a line: what stands where the row is there and its periods score, and nothing elsewhere. Scored periods are
-- permitted, and so small enough for the text. Assumes nothing.
use mathlib.Core.Path.{◌≡◌, refl, sym, ◌∙◌, ap}
use mathlib.Core.List.{List, []}
use Prim.Native.Nat.{ℕ, ◌≤◌, ◌<◌}
use borrow.Author.Tests.{lt-ltb, le-ltb}
use Rattle.std.specs.Prelude.{Ok, Err}
use Rattle.model.specs.declared.Seconds.{Seconds}
use Rattle.model.specs.declared.Profile.{Profile}
use Rattle.model.specs.declared.Refusal.{Refusal}
use Rattle.model.specs.Model.{seconds, jobs_of, periods_of, loss, if_sound, verdict_in}
use Rattle.model.proofs.Bounds.{period_to}
use Rattle.model.proofs.Entries.{get_d_entries}
use Rattle.model.proofs.Validity.{sound_valid}
use Rattle.score.specs.declared.Scored.{Scored}
use Rattle.score.specs.Scoring.{Scores}
use Rattle.score.specs.Judging.{score_verdict}
use Rattle.score.proofs.Computed.{verdict_is, sound_own, sound_allowed, sound_loss}
use Rattle.table_row.specs.declared.TableRow.{TableRow}
use Rattle.table_row.specs.Table.{rows_in}
use Rattle.table_row.specs.Cut.{row_at}
use Rattle.ladder_line.specs.Lines.{row_line}
use Rattle.ladder_listing.specs.Listing.{line_of_row}
use Rattle.ladder_line.specs.Writing.{Puts, Printable}
use Rattle.ladder_line.proofs.Putting.{put_none}

-- periods that score
pub scored_printable : {p : Profile} {ts : List Seconds} {a : Scored} → Scores p ts (Ok a) → Printable ts p.n
scored_printable {p} {ts} s =
    let v = sound_valid p (sound_own p ts s refl) in
    record { few = v.n_to; each = λ i h. rw (get_d_entries (seconds 0) ts h) at (period_to (seconds 1) (jobs_of p) (periods_of p ts) v.jobs (sound_allowed p ts s refl) i) }

-- the line of a row that has been read
abbrev line_read : Profile → TableRow → List ℕ
line_read p row =
    let ts = periods_of p row.periods in
    if_sound (score_verdict p row.periods) (row_line row.start (loss (jobs_of p) ts) ts) []

module _ (p : Profile) (table : List ℕ) (k : ℕ) where
  pub no_such_row : rows_in table ≤ k → line_of_row p table k ≡ []
  unfolding line_of_row
  no_such_row h = rw (le-ltb k (rows_in table) h) refl

  module _ (there : k < rows_in table) {row : TableRow} (is : row ≡ row_at table k) where
    here : line_of_row p table k ≡ line_read p row
    unfolding line_of_row
    here = rw (lt-ltb k (rows_in table) there) (ap (line_read p) (sym is))

    pub periods_refused : {refusal : Refusal} → Scores p row.periods (Err refusal) → line_of_row p table k ≡ []
    unfolding if_sound verdict_in
    periods_refused scores = here ∙ rw (← verdict_is p row.periods scores) refl

    pub line_there : {a : Scored} → Scores p row.periods (Ok a) → line_of_row p table k ≡ row_line row.start a.loss (periods_of p row.periods)
    unfolding if_sound verdict_in
    line_there scores = here ∙ rw (← verdict_is p row.periods scores, ← sound_loss p row.periods scores refl) refl

module _ (p : Profile) (table : List ℕ) (k : ℕ) {text : List ℕ} where
  pub no_row_put : rows_in table ≤ k → Puts text 0 (line_of_row p table k) 0 text
  no_row_put h = rw (no_such_row p table k h) (put_none text)

  pub refused_put : k < rows_in table → {row : TableRow} {refusal : Refusal} → row ≡ row_at table k → Scores p row.periods (Err refusal)
      → Puts text 0 (line_of_row p table k) 0 text
  refused_put there is scores = rw (periods_refused p table k there is scores) (put_none text)

  pub row_put : k < rows_in table → {row : TableRow} {a : Scored} → row ≡ row_at table k → Scores p row.periods (Ok a) → {r : ℕ} {new : List ℕ}
      → Puts text 0 (row_line row.start a.loss (periods_of p row.periods)) r new → Puts text 0 (line_of_row p table k) r new
  row_put there is scores puts = rw (line_there p table k there is scores) puts
