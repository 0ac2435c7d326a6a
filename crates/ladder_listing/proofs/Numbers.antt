-- Document 01's listing of profile A: whatever the definitions allow for its 25 bytes is that text. Its nine rows are computed by
-- the checker, and the text of these rows too. Assumes nothing.
use mathlib.Core.Path.{◌≡◌, refl, subst}
use mathlib.Core.List.{List, [], ◌∷◌}
use Prim.Native.Nat.{ℕ}
use lib.ListN.{replicate}
use Rattle.std.specs.Prelude.{Result, Ok}
use Rattle.model.specs.declared.Seconds.{Seconds}
use Rattle.model.specs.declared.Job.{Job}
use Rattle.model.specs.declared.Profile.{Profile}
use Rattle.model.specs.declared.Refusal.{Refusal}
use Rattle.model.specs.Model.{seconds, no_job, entries, jobs_of, last_of, running, data_of, commit_of, pages_at, sum_over, pages_in, exact_need, rounded_up, need, cost, rate, job_loss, loss}
use Rattle.model.specs.Model.{sound, refuse_if, or_else, first_refused, judge_interval_and_stiffness, judge_job, verdict_of}
use Rattle.model.specs.Climb.{in_turn, climb_to}
use Rattle.model.specs.ProfileA.{bytes_a}
use Rattle.model.proofs.Validity.{sound_valid}
use Rattle.codec.specs.Packing.{bits, pack, unpack, recut}
use Rattle.profile_read.specs.Reading.{header_of, records_in, judge_record, judge_header, verdict_of_bytes, Reads}
use Rattle.step.specs.Step.{load, need_at}
use Rattle.walk.specs.Walk.{walk_by, visit}
use Rattle.choose_offer.specs.Found.{pick, beats}
use Rattle.walk.specs.Chains.{multiples, rising_from}
use Rattle.table.specs.Table.{TableOf}
use Rattle.table.specs.Descent.{up_to, descent, rows_below, all_budgets}
use Rattle.table.proofs.Descent.{descent_table, no_rows}
use Rattle.table_lookup.proofs.Laid.{few_jobs}
use Rattle.ladder_listing.specs.declared.Listing.{Listing}
use Rattle.ladder_line.specs.Lines.{digits_of, decimal, spaced, spaced_periods, header_line, row_line}
use Rattle.ladder_listing.specs.Listing.{Prepares}
use Rattle.ladder_listing.specs.ProfileA.{text_a}
use Rattle.ladder_listing.specs.Text.{row_lines, listing_verdict, text_for, text_of, Text, last_line, lines_to}
use Rattle.ladder_listing.proofs.OneText.{text_one}
use Rattle.ladder_listing.proofs.WholeText.{lines_are_text}

job : ℕ → ℕ → ℕ → ℕ → Job
job lo hi d g = record { lo = seconds lo; hi = seconds hi; «data» = d; metadata = g; stiffness = 1 }

profile_a : Profile
profile_a = record { n = 3; jobs = job 20 25 9 1 ∷ job 43 74 18 2 ∷ job 45 100 36 4 ∷ replicate 5 no_job }

reading_a : Result Profile Refusal
reading_a = Ok profile_a

three : ℕ → ℕ → ℕ → List Seconds
three a b c = seconds a ∷ seconds b ∷ seconds c ∷ []

rows_a : List (List Seconds)
rows_a = three 25 50 100 ∷ three 24 72 72 ∷ three 23 69 69 ∷ three 22 66 66 ∷ three 21 63 63 ∷ three 20 60 60 ∷ three 25 50 50 ∷ three 24 48 48 ∷ three 23 46 46 ∷ []

reads : Reads bytes_a reading_a
unfolding reading_a profile_a job verdict_of_bytes judge_header header_of judge_record judge_interval_and_stiffness first_refused or_else refuse_if records_in recut pack unpack bits
reads = refl

sound_a : verdict_of profile_a ≡ sound
unfolding profile_a job verdict_of judge_job judge_interval_and_stiffness first_refused or_else refuse_if entries
sound_a = refl

rows_are : rows_below (jobs_of profile_a) all_budgets ≡ rows_a
unfolding profile_a job rows_a three descent up_to walk_by visit pick beats multiples rising_from climb_to in_turn load need_at rounded_up cost rate job_loss entries
rows_are = refl

table_is : TableOf (jobs_of profile_a) rows_a
table_is = subst (TableOf (jobs_of profile_a)) rows_are (descent_table (jobs_of profile_a) (sound_valid profile_a sound_a).jobs)

text_is : text_a ≡ text_of reading_a rows_a
unfolding text_a reading_a profile_a job rows_a three text_of listing_verdict verdict_of judge_job judge_interval_and_stiffness first_refused
    or_else refuse_if text_for entries header_line row_lines row_line spaced_periods spaced decimal digits_of need rounded_up exact_need loss cost pages_in sum_over pages_at running data_of commit_of last_of rate job_loss
text_is = refl

-- Profile A's text is `text_a`.
pub text_of_a : (text : List ℕ) → Text bytes_a text → text ≡ text_a
unfolding reading_a
text_of_a text t = text_one bytes_a t (record {
  reading = reading_a;
  read = reads;
  rows = rows_a;
  are = λ {p} e _. let same : profile_a ≡ p = cc in rw (← same) table_is;
  none = λ {p} e _. let same : profile_a ≡ p = cc in rw (← same) (no_rows (jobs_of profile_a) (sound_valid profile_a sound_a).jobs (few_jobs profile_a (sound_valid profile_a sound_a)) table_is);
  is = text_is;
})

-- So are the lines that a listing of its bytes prints.
pub lines_of_a : {old new : List ℕ} {l : Result Listing Refusal} → Prepares bytes_a old l new → lines_to l new (last_line l) ≡ text_a
lines_of_a {old} {new} {l} prepared = text_of_a (lines_to l new (last_line l)) (lines_are_text prepared)
