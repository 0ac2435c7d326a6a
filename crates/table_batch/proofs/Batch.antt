-- Writing a batch row by row: what is left to write is one row less.
-- Assumes nothing.
use mathlib.Core.Path.{◌≡◌, refl, sym, ◌∙◌, ap, ap₂}
use mathlib.Core.List.{List, [], ◌∷◌, ◌++◌, map}
use Prim.Native.Nat.{ℕ, zero, suc, ◌+◌, ◌-◌, ◌≤◌, ◌<◌}
use native.Mathlib.Omega.{arith}
use native.Mathlib.Numerals.{add-one}
use lib.ListN.{length, get_or, drop, replicate, drop_of_length-le}
use lib.Seq.{drop-cons}
use Rattle.std.proofs.lemmas.Grind.{common_steps}
use Rattle.model.specs.declared.Seconds.{Seconds}
use Rattle.model.specs.declared.PagesPerHour.{PagesPerHour}
use Rattle.model.specs.Model.{seconds, pages_per_hour, padded, row_size}
use Rattle.model.proofs.Entries.{entries_same}
use Rattle.codec.specs.declared.RowWords.{RowWords}
use Rattle.codec.specs.RowWords.{with_row}
use Rattle.codec.specs.Packing.{recut}
use Rattle.codec.specs.Layout.{byte_widths}
use Rattle.table_row.specs.Table.{table_widths, table_row}
use Rattle.table_row.specs.Cut.{word_start, word_periods}
use Rattle.table_stairs.specs.Stairs.{Stair}
use Rattle.table_stairs.specs.Held.{Written}
use Rattle.table_batch.specs.Batch.{batch_row, with_batch}

-- periods with zeros behind them have the same row
row_of_padded : (start : PagesPerHour) (ts : List Seconds) → table_row start (padded (seconds 0) ts) ≡ table_row start ts
unfolding table_row
row_of_padded start ts = ap (λ (us : List Seconds). recut table_widths (byte_widths row_size) (start.0 ∷ map (λ t. t.0) us)) (entries_same (seconds 0) (padded (seconds 0) ts) ts 0 8 (λ i. grind (arith, common_steps)))

-- the row of a stair's words is the stair's
row_of_words : (r : Stair) (w : RowWords) → Written r w → table_row (pages_per_hour (word_start w.high)) (map seconds (word_periods w.high w.low)) ≡ batch_row r
row_of_words r w is = ap₂ (λ (start : ℕ) (ts : List Seconds). table_row (pages_per_hour start) ts) is.start is.periods ∙ row_of_padded (pages_per_hour r.its_need) r.periods

-- one row of a batch more
pub one_written : (rows : List Stair) (end k : ℕ) (r : Stair) (w : RowWords) (out new whole : List ℕ) → k < length rows → r ≡ get_or rows k r → Written r w →
    new ≡ with_row out (end - 1 - k) (table_row (pages_per_hour (word_start w.high)) (map seconds (word_periods w.high w.low))) → with_batch (drop k rows) (end - k) out ≡ whole → with_batch (drop (k + 1) rows) (end - (k + 1)) new ≡ whole
unfolding with_batch
one_written rows end k r w out new whole inside is words put left =
    let rest : drop k rows ≡ r ∷ drop (k + 1) rows = drop-cons rows k r inside ∙ ap₂ (λ (x : Stair) (m : ℕ). x ∷ drop m rows) (sym is) (sym (add-one k)) in
    let place : end - 1 - k ≡ end - k - 1 = omega arith in
    let next : end - (k + 1) ≡ end - k - 1 = omega arith in
    ap₂ (with_batch (drop (k + 1) rows)) next (put ∙ ap₂ (with_row out) place (row_of_words r w words)) ∙ sym (ap (λ (rs : List Stair). with_batch rs (end - k) out) rest) ∙ left

-- all of them
pub all_written : (rows : List Stair) (end k : ℕ) (out whole : List ℕ) → length rows ≤ k → with_batch (drop k rows) end out ≡ whole → out ≡ whole
unfolding with_batch
all_written rows end k out whole done left = ap (λ (rs : List Stair). with_batch rs end out) (sym (drop_of_length-le rows done)) ∙ left
