-- Every input has a text, and one only. Past a sound profile two texts speak of the same rows; a refused profile decides whatever
-- the rows are. Assumes nothing.
use mathlib.Core.Path.{◌≡◌, refl, sym, ◌∙◌, ap}
use mathlib.Core.Logic.{◌↔◌}
use mathlib.Core.List.{List, []}
use Prim.Native.Nat.{ℕ}
use lib.ListN.{length}
use Rattle.std.specs.Prelude.{Result, Ok, Err}
use Rattle.model.specs.declared.Seconds.{Seconds}
use Rattle.model.specs.declared.Profile.{Profile}
use Rattle.model.specs.declared.Refusal.{Refusal}
use Rattle.model.specs.Model.{Verdict, sound, jobs_of, Permitted, or_else, verdict_of}
use Rattle.profile_read.specs.Reading.{verdict_of_bytes, values_of}
use Rattle.profile_read.proofs.OneOutcome.{reads_one}
use Rattle.table.specs.Table.{TableOf}
use Rattle.table.proofs.OneOutcome.{table_one}
use Rattle.table.proofs.Outcome.{rows_of, are_rows, none_of}
use Rattle.ladder_listing.specs.Text.{listing_verdict, text_for, text_of, Text}

pub text_one : (input : List ℕ) {text other_text : List ℕ} → Text input text → Text input other_text → text ≡ other_text
unfolding text_of listing_verdict text_for or_else
text_one input one other = one.is ∙ go one.reading refl ∙ ap (λ (r : Result Profile Refusal). text_of r other.rows) same ∙ sym other.is
  where
    same : one.reading ≡ other.reading
    same = reads_one input one.read other.read

    of_profile : (p : Profile) → one.reading ≡ Ok p → (v : Verdict) → verdict_of p ≡ v → text_of (Ok p) one.rows ≡ text_of (Ok p) other.rows
    of_profile p e (Ok none) f = ap (text_of (Ok p)) (table_one (jobs_of p) (one.are e f) (other.are (sym same ∙ e) f))
    of_profile p e (Err refusal) f = rw f refl

    go : (r : Result Profile Refusal) → one.reading ≡ r → text_of r one.rows ≡ text_of r other.rows
    go (Ok p) e = of_profile p e (verdict_of p) refl
    go (Err refusal) e = refl

-- the rows of what is read
rows_read : Result Profile Refusal → List (List Seconds)
rows_read (Ok p) = rows_of p
rows_read (Err refusal) = []

pub text_some : (input : List ℕ) → (text : List ℕ) × Text input text
unfolding rows_read
text_some input = (text_of reading rows, record { reading = reading; read = refl; rows = rows; are = are; none = none; is = refl })
  where
    reading : Result Profile Refusal
    reading = or_else (verdict_of_bytes input) (Ok (values_of input))

    rows : List (List Seconds)
    rows = rows_read reading

    are : {p : Profile} → reading ≡ Ok p → verdict_of p ≡ sound → TableOf (jobs_of p) rows
    are {p} e f = rw (ap rows_read e) (are_rows p f)

    none : {p : Profile} → reading ≡ Ok p → verdict_of p ≡ sound → (length rows ≡ 0) ↔ ((ts : List Seconds) → Permitted (jobs_of p) ts → ⊥)
    none {p} e f = rw (ap rows_read e) (none_of p f)
