-- A row's two words: what is put together is cut apart again, and what is cut apart has the words' own bytes. Both follow from
-- the laws of packing, over the list of a row's widths.
-- Assumes nothing.
use mathlib.Core.Path.{◌≡◌, refl, sym, ◌∙◌, ap, subst}
use mathlib.Core.List.{List, [], ◌∷◌, map}
use Prim.Native.Nat.{ℕ, zero, suc, ◌+◌, ◌*◌, ◌/◌, ◌%◌, ◌^◌, ◌≤◌, ◌<◌}
use native.Mathlib.Nat.{mod-lt}
use native.Mathlib.Decide.{dec_lt}
use native.Mathlib.Omega.{arith}
use lib.Arith.{digits_lt}
use lib.Pow.{pow_pos, split, high, low}
use lib.ListN.{length, get_or, take, drop, length-take, length-drop, length-map, get_or-eq_default}
use lib.Seq.{get_or-take, drop-cons}
use Rattle.model.specs.declared.Seconds.{Seconds}
use Rattle.model.specs.declared.PagesPerHour.{PagesPerHour}
use Rattle.model.specs.Model.{seconds, pages_per_hour, entries, row_size}
use Rattle.model.proofs.Entries.{entries_all, entries_same}
use Rattle.codec.specs.Packing.{bits, pack, unpack, recut}
use Rattle.codec.specs.Layout.{byte_widths}
use Rattle.codec.specs.RowWords.{row_bytes}
use Rattle.codec.specs.Fit.{Within}
use Rattle.codec.proofs.Packing.{pack_lt, unpack_pack, pack_unpack, length_unpack, length_recut}
use Rattle.codec.proofs.Rows.{row_of_words}
use Rattle.table_row.specs.Table.{table_widths, table_row}
use Rattle.table_row.specs.Cut.{words_of, word_fields, word_start, word_periods, Fields}
use Rattle.table_row.proofs.Cutting.{high_widths, low_widths, start_cut}

-- The numbers of a row.

-- periods as numbers, and numbers as periods
pub numbers_again : (xs : List ℕ) → map (λ t. t.0) (map seconds xs) ≡ xs
numbers_again [] = refl
numbers_again (x ∷ xs) = ap (λ (l : List ℕ). x ∷ l) (numbers_again xs)

pub seconds_again : (ts : List Seconds) → map seconds (map (λ t. t.0) ts) ≡ ts
seconds_again [] = refl
seconds_again (t ∷ ts) = ap (λ (l : List Seconds). t ∷ l) (seconds_again ts)

number_at : (ts : List Seconds) (k : ℕ) → get_or (map (λ t. t.0) ts) k 0 ≡ (get_or ts k (seconds 0)).0
number_at [] k = refl
number_at (t ∷ ts) zero = refl
number_at (t ∷ ts) (suc k) = number_at ts k

-- the bytes of a row of eight periods
row_of_eight : (start : ℕ) (ps : List ℕ) → length ps ≡ 8 → table_row (pages_per_hour start) (map seconds ps) ≡ recut table_widths (byte_widths row_size) (start ∷ ps)
unfolding table_row
row_of_eight start ps size =
    ap (λ (l : List ℕ). recut table_widths (byte_widths row_size) (start ∷ l)) (ap (map (λ t. t.0)) (entries_all (seconds 0) (map seconds ps) (length-map ps seconds ∙ size)) ∙ numbers_again ps)

pub length_table_row : (start : PagesPerHour) (ts : List Seconds) → length (table_row start ts) ≡ row_size
unfolding table_row
length_table_row start ts = length_recut table_widths (byte_widths row_size) (start.0 ∷ map (λ t. t.0) (entries (seconds 0) ts 0 8))

-- where only zeros stand from place n on, the first n periods have the same row
second_at : (ps : List ℕ) (k : ℕ) → get_or (map seconds ps) k (seconds 0) ≡ seconds (get_or ps k 0)
second_at [] k = refl
second_at (x ∷ ps) zero = refl
second_at (x ∷ ps) (suc k) = second_at ps k

beyond : (n : ℕ) (ps : List ℕ) (k : ℕ) → n ≤ k → get_or (take n ps) k 0 ≡ 0
beyond n ps k le = get_or-eq_default (take n ps) 0 (omega (arith, length-take n ps))

pub row_of_front : (start : PagesPerHour) (n : ℕ) (ps : List ℕ) → ((k : ℕ) → n ≤ k → get_or ps k 0 ≡ 0) → table_row start (map seconds (take n ps)) ≡ table_row start (map seconds ps)
unfolding table_row
row_of_front start n ps zeros = ap (λ (ts : List Seconds). recut table_widths (byte_widths row_size) (start.0 ∷ map (λ t. t.0) ts)) (entries_same (seconds 0) (map seconds (take n ps)) (map seconds ps) 0 8 same)
  where
    at : (k : ℕ) → Dec (k < n) → get_or (take n ps) k 0 ≡ get_or ps k 0
    at k (yes h) = get_or-take n ps k 0 h
    at k (no h) = beyond n ps k (omega arith) ∙ sym (zeros k (omega arith))

    same : (k : ℕ) → get_or (map seconds (take n ps)) k (seconds 0) ≡ get_or (map seconds ps) k (seconds 0)
    same k = second_at (take n ps) k ∙ ap seconds (at k (dec_lt k n)) ∙ sym (second_at ps k)

-- Put together: the third period's upper eight bits end the first word, and its lower four begin the second.

module _ (start : ℕ) (ts : List Seconds) (f : Fields (map (λ t. t.0) ts)) where
  abbrev number : ℕ → ℕ
  number k = (get_or ts k (seconds 0)).0

  abbrev high_fields : List ℕ
  high_fields = start ∷ number 0 ∷ number 1 ∷ number 2 / 16 ∷ []

  abbrev low_fields : List ℕ
  low_fields = number 2 % 16 ∷ number 3 ∷ number 4 ∷ number 5 ∷ number 6 ∷ number 7 ∷ []

  low_small : pack low_widths low_fields < 2 ^ 64
  unfolding bits
  low_small = pack_lt low_widths low_fields (omega (arith, number_at ts 3, number_at ts 4, number_at ts 5, number_at ts 6, number_at ts 7))

  each_added : pack table_widths (start ∷ map (λ t. t.0) (entries (seconds 0) ts 0 8)) ≡ pack high_widths high_fields * 2 ^ 64 + pack low_widths low_fields
  unfolding pack bits entries
  each_added = omega arith

  added : pack table_widths (start ∷ map (λ t. t.0) ts) ≡ pack high_widths high_fields * 2 ^ 64 + pack low_widths low_fields
  added =
      let eight : length ts ≡ 8 = sym (length-map ts (λ t. t.0)) ∙ f.size in
      ap (λ (us : List Seconds). pack table_widths (start ∷ map (λ t. t.0) us)) (sym (entries_all (seconds 0) ts eight)) ∙ each_added

  pub words_added : {high_word low_word : ℕ} → high_word ≡ pack high_widths high_fields → low_word ≡ pack low_widths low_fields →
      record { high = high_word; low = low_word } ≡ words_of start (map (λ t. t.0) ts)
  words_added first second =
      let H = pack high_widths high_fields in
      rw (first, second, added, high H 64 low_small, low H 64 low_small) refl

-- Cut apart.

module _ (h l : ℕ) where
  pub length_fields : length (word_fields h l) ≡ 9
  unfolding word_fields
  length_fields = length_unpack table_widths (h * 2 ^ 64 + l)

  pub length_periods : length (word_periods h l) ≡ 8
  length_periods = length-drop 1 (word_fields h l) ∙ omega (arith, length_fields)

  -- the start is the first field
  pub start_first : l < 2 ^ 64 → word_start h ∷ word_periods h l ≡ word_fields h l
  start_first ll =
      ap (λ (x : ℕ). x ∷ word_periods h l) (start_cut h l ll)
      ∙ sym (drop-cons (word_fields h l) 0 0 (omega (arith, length_fields)))

  packed : h < 2 ^ 64 → l < 2 ^ 64 → pack table_widths (word_fields h l) ≡ h * 2 ^ 64 + l
  unfolding word_fields bits
  packed hh hl = pack_unpack table_widths (h * 2 ^ 64 + l) (digits_lt hh hl)

  -- what is cut apart is put together: the row of what two words hold has their bytes
  pub row_of_cut : h < 2 ^ 64 → l < 2 ^ 64 → table_row (pages_per_hour (word_start h)) (map seconds (word_periods h l)) ≡ row_bytes h l
  row_of_cut hh hl =
      row_of_eight (word_start h) (word_periods h l) length_periods
      ∙ ap (recut table_widths (byte_widths row_size)) (start_first hl)
      ∙ row_of_words table_widths (word_fields h l) h l (packed hh hl) hh hl

-- what is put together is cut apart
module _ (start : ℕ) (ps : List ℕ) (f : Fields ps) (small : start < 2 ^ 32) where
  each_within : Within table_widths (start ∷ entries 0 ps 0 8)
  unfolding entries
  each_within = omega arith

  fields_within : Within table_widths (start ∷ ps)
  fields_within = subst (λ (l : List ℕ). Within table_widths (start ∷ l)) (entries_all 0 ps f.size) each_within

  fields_back : word_fields (words_of start ps).high (words_of start ps).low ≡ start ∷ ps
  unfolding word_fields
  fields_back = ap (unpack table_widths) (split (pack table_widths (start ∷ ps)) 64) ∙ unpack_pack table_widths (start ∷ ps) fields_within

  both_back : word_start (words_of start ps).high ∷ word_periods (words_of start ps).high (words_of start ps).low ≡ start ∷ ps
  both_back =
      let whole = pack table_widths (start ∷ ps) in
      start_first (words_of start ps).high (words_of start ps).low (mod-lt whole (pow_pos 64)) ∙ fields_back

  pub start_back : word_start (words_of start ps).high ≡ start
  start_back = ap (λ (l : List ℕ). get_or l 0 0) both_back

  pub periods_back : word_periods (words_of start ps).high (words_of start ps).low ≡ ps
  periods_back = ap (drop 1) both_back
