-- The lines of a prepared listing, one after the other, are the text of its input: a refused listing has its refusal alone, and a
-- sound one its header and rows. Assumes nothing.
use mathlib.Core.Path.{◌≡◌, refl, sym, ◌∙◌, ap}
use mathlib.Core.Logic.{◌↔◌}
use mathlib.Core.List.{List, []}
use Prim.Native.Nat.{ℕ, ◌*◌}
use lib.ListN.{length, drop}
use Rattle.std.specs.Prelude.{Result, Ok, Err}
use Rattle.model.specs.declared.Seconds.{Seconds}
use Rattle.model.specs.declared.Profile.{Profile}
use Rattle.model.specs.declared.Refusal.{Refusal}
use Rattle.model.specs.Model.{Verdict, sound, jobs_of, Permitted, or_else, if_sound, verdict_of, row_size, count_verdict}
use Rattle.model.proofs.Validity.{sound_valid}
use Rattle.model.proofs.Verdicts.{refusal_is_none, both_sound}
use Rattle.profile_read.specs.Reading.{Reads}
use Rattle.table.specs.Table.{TableOf, table_bytes, Built}
use Rattle.table_lookup.proofs.Laid.{Laid, AllPermitted}
use Rattle.ladder_listing.specs.declared.Listing.{Listing}
use Rattle.ladder_line.specs.Lines.{refusal_line}
use Rattle.ladder_listing.specs.Listing.{line_at, Prepared, unread, unbuilt, built, Prepares}
use Rattle.ladder_listing.specs.Text.{listing_verdict, text_for, text_of, Text, last_line, lines_to}
use Rattle.ladder_listing.proofs.Laying.{sound_lines}

abbrev reading_of : Profile → Result Profile Refusal
reading_of p = Ok p

abbrev counted : ℕ → Result ℕ Refusal
counted n = Ok n

-- the text of a profile that is read, by the rows that building has
text_built : {input text : List ℕ} {p : Profile} {old new : List ℕ} {r : Result ℕ Refusal} → Reads input (Ok p) → (b : Built p old r new) → text ≡ text_of (Ok p) b.rows → Text input text
text_built {p = p} read b is = record { reading = Ok p; read = read; rows = b.rows; are = are; none = none; is = is }
  where
    are : {q : Profile} → reading_of p ≡ Ok q → verdict_of q ≡ sound → TableOf (jobs_of q) b.rows
    are {q} e = let same : p ≡ q = cc in rw (← same) b.are

    none : {q : Profile} → reading_of p ≡ Ok q → verdict_of q ≡ sound → (length b.rows ≡ 0) ↔ ((ts : List Seconds) → Permitted (jobs_of q) ts → ⊥)
    none {q} e = let same : p ≡ q = cc in rw (← same) b.none

-- three in a row, however they are taken together
in_turn : {A : Type 0} (v w : Verdict) (rest : Result A Refusal) → or_else v (or_else w rest) ≡ or_else (or_else v w) rest
unfolding or_else
in_turn (Ok none) w rest = refl
in_turn (Err refusal) w rest = refl

module _ {p : Profile} {old new : List ℕ} (room : length old ≡ row_size * 4096) where
  -- what building answers in the room that is lent
  answer_is : {r : Result ℕ Refusal} (b : Built p old r new) → r ≡ or_else (listing_verdict p (length b.rows)) (Ok (length b.rows))
  unfolding listing_verdict
  answer_is b =
      let n = length b.rows in
      b.puts.answer ∙ ap (λ (size : ℕ). or_else (verdict_of p) (or_else (count_verdict n size) (Ok n))) room ∙ in_turn (verdict_of p) (count_verdict n (row_size * 4096)) (Ok n)

  refused_text : {refusal : Refusal} (b : Built p old (Err refusal) new) → refusal_line (Err refusal) ≡ text_of (Ok p) b.rows
  unfolding text_of text_for or_else
  refused_text {refusal} b = go (listing_verdict p (length b.rows)) (answer_is b)
    where
      go : (v : Verdict) → Err refusal ≡ or_else v (Ok (length b.rows)) → refusal_line (Err refusal) ≡ text_for p b.rows v
      go (Ok none) e = absurd (refusal_is_none e)
      go (Err other) e = let same : refusal ≡ other = cc in ap (λ (x : Refusal). refusal_line (Err x)) same

  module _ {count : ℕ} (b : Built p old (Ok count) new) where
    both : (listing_verdict p (length b.rows) ≡ sound) × (counted (length b.rows) ≡ Ok count)
    both = both_sound (listing_verdict p (length b.rows)) (sym (answer_is b))

    own : verdict_of p ≡ sound
    unfolding listing_verdict
    own = (both_sound (verdict_of p) both.0).0

    all_permitted : AllPermitted (jobs_of p) b.rows
    all_permitted ts m = ((b.are own).some_budget ts m).2.permitted

    laid : Laid (jobs_of p) b.rows new
    unfolding if_sound
    laid = record { rest = drop (length (table_bytes (jobs_of p) b.rows)) old; is = b.puts.bytes }

    count_is : count ≡ length b.rows
    count_is = let e = both.1 in cc

    sound_text : lines_to (Ok (record { profile = p; rows = count })) new count ≡ text_of (Ok p) b.rows
    unfolding text_of text_for
    sound_text = sound_lines (record { profile = p; rows = count }) (sound_valid p own) all_permitted laid count_is ∙ sym (ap (text_for p b.rows) both.0)

-- Line 0 to the last line, written one after the other, are the text of the input.
pub lines_are_text : {input old : List ℕ} {l : Result Listing Refusal} {new : List ℕ} → Prepares input old l new → Text input (lines_to l new (last_line l))
unfolding lines_to last_line line_at text_of
lines_are_text {input} {old} prepared = go prepared.outcome prepared.room
  where
    go : {l : Result Listing Refusal} {new : List ℕ} → Prepared input old l new → length old ≡ row_size * 4096 → Text input (lines_to l new (last_line l))
    go (unread {refusal} read) room =
        record { reading = Err refusal; read = read; rows = []; are = λ e. absurd (refusal_is_none e); none = λ e. absurd (refusal_is_none e); is = refl }
    go (unbuilt read b) room = text_built read b (refused_text room b)
    go (built read b) room = text_built read b (sound_text room b)
