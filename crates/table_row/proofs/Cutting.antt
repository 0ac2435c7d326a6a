-- A row's fields out of its two words: cut by the widths of both, one after the other, the third period would be two fields, which stand
-- side by side. Assumes nothing.
use mathlib.Core.Path.{◌≡◌, sym, ◌∙◌, ap, ap₂}
use mathlib.Core.List.{List, [], ◌∷◌, ◌++◌, map}
use Prim.Native.Nat.{ℕ, zero, suc, ◌+◌, ◌*◌, ◌/◌, ◌%◌, ◌^◌, ◌<◌}
use native.Mathlib.Nat.{add_comm, div-one, mod-lt}
use native.Mathlib.Omega.{arith}
use lib.Pow.{pow_pos, shr_lt, shr-shr, split, high, low, field, mod-mod-pow}
use lib.ListN.{length, get_or}
use Rattle.model.specs.Model.{seconds, pages_per_hour}
use Rattle.codec.specs.Packing.{bits, unpack, recut}
use Rattle.codec.specs.RowWords.{words_at}
use Rattle.codec.proofs.Packing.{unpack_within}
use Rattle.codec.proofs.Rows.{bits_append, unpack_append_first, row_words}
use Rattle.table_row.specs.Table.{table_widths, rows_in, row_fields}
use Rattle.table_row.specs.Cut.{row_of, word_fields, word_start}

-- what the two words hold
abbrev pub high_widths : List ℕ
high_widths = 32 ∷ 12 ∷ 12 ∷ 8 ∷ []

abbrev pub low_widths : List ℕ
low_widths = 4 ∷ 12 ∷ 12 ∷ 12 ∷ 12 ∷ 12 ∷ []

-- of some fields the n-th and the one after it, of b bits, as one
abbrev joined : ℕ → ℕ → List ℕ → List ℕ
joined b n [] = []
joined b zero (f ∷ []) = f ∷ []
joined b zero (f ∷ g ∷ fs) = (f * 2 ^ b + g) ∷ fs
joined b (suc n) (f ∷ fs) = f ∷ joined b n fs

-- a field of a + b bits is one of a bits and one of b
unpack_joined : (vs us : List ℕ) (a b x : ℕ) → unpack (vs ++ (a + b) ∷ us) x ≡ joined b (length vs) (unpack (vs ++ a ∷ b ∷ us) x)
unfolding unpack bits
unpack_joined [] us a b x =
    let u = bits us in
    let upper : x / 2 ^ (b + u) ≡ x / 2 ^ u / 2 ^ b = ap (λ (n : ℕ). x / 2 ^ n) (add_comm b u) ∙ sym (shr-shr x u b) in
    ap₂ ◌∷◌ (sym (ap₂ (λ (m n : ℕ). m * 2 ^ b + n) upper (field x b u) ∙ split (x / 2 ^ u) b)) (ap (unpack us) (sym (mod-mod-pow x b u)))
unpack_joined (v ∷ vs) us a b x =
    let same : bits (vs ++ (a + b) ∷ us) ≡ bits (vs ++ a ∷ b ∷ us) = omega (arith, bits_append vs ((a + b) ∷ us), bits_append vs (a ∷ b ∷ us)) in
    rw same (ap (λ (l : List ℕ). x / 2 ^ bits (vs ++ a ∷ b ∷ us) ∷ l) (unpack_joined vs us a b (x % 2 ^ bits (vs ++ a ∷ b ∷ us))))

pub cut_words : (h l : ℕ) → l < 2 ^ 64 → word_fields h l ≡ joined 4 3 (unpack high_widths h ++ unpack low_widths l)
unfolding word_fields bits
cut_words h l ll =
    unpack_joined (32 ∷ 12 ∷ 12 ∷ []) (12 ∷ 12 ∷ 12 ∷ 12 ∷ 12 ∷ []) 8 4 (h * 2 ^ 64 + l)
    ∙ ap (joined 4 3)
    (unpack_append_first 32 (12 ∷ 12 ∷ 8 ∷ []) low_widths (h * 2 ^ 64 + l)
    ∙ ap₂ (λ (x y : ℕ). unpack high_widths x ++ unpack low_widths y) (high h 64 ll) (low h 64 ll))

-- the start is the first of them, whatever the upper word is
pub start_cut : (h l : ℕ) → l < 2 ^ 64 → word_start h ≡ get_or (word_fields h l) 0 0
unfolding word_fields unpack bits
start_cut h l ll = sym (sym (shr-shr (h * 2 ^ 64 + l) 64 32) ∙ ap (λ (n : ℕ). n / 2 ^ 32) (high h 64 ll))

-- the third period's two parts
pub upper_small : {h : ℕ} {hs : List ℕ} → h < 2 ^ 64 → hs ≡ unpack high_widths h → get_or hs 3 0 < 2 ^ 8
unfolding unpack bits
upper_small {h} hh first = rw first (unpack_within high_widths h hh).1.1.1.0

pub lower_small : {l : ℕ} {ls : List ℕ} → l < 2 ^ 64 → ls ≡ unpack low_widths l → get_or ls 0 0 < 2 ^ 4
unfolding unpack bits
lower_small {l} ll second = rw second (unpack_within low_widths l ll).0

pub third_small : (h l : ℕ) → l < 2 ^ 64 → h % 256 * 16 + l / 2 ^ 60 < 4096
third_small h l small =
    let a : h % 256 < 256 = mod-lt h (pow_pos 8) in
    let b : l / 2 ^ 60 < 16 = shr_lt 4 60 small in
    omega arith

-- the five periods of the lower word
abbrev pub low_five : ℕ → List ℕ
low_five y = y / 2 ^ 48 ∷ y % 2 ^ 48 / 2 ^ 36 ∷ y % 2 ^ 48 % 2 ^ 36 / 2 ^ 24 ∷ y % 2 ^ 48 % 2 ^ 36 % 2 ^ 24 / 2 ^ 12 ∷ y % 2 ^ 48 % 2 ^ 36 % 2 ^ 24 % 2 ^ 12 ∷ []

pub low_five_lem : (y : ℕ) → unpack (12 ∷ 12 ∷ 12 ∷ 12 ∷ 12 ∷ []) y ≡ low_five y
unfolding unpack bits
low_five_lem y = simp div-one

-- the row of what is cut
pub row_cut : {h l : ℕ} {hs ls : List ℕ} → h < 2 ^ 64 → l < 2 ^ 64 → hs ≡ unpack high_widths h → ls ≡ unpack low_widths l →
    record {
      start = pages_per_hour (get_or hs 0 0);
      periods = map seconds (get_or hs 1 0 ∷ get_or hs 2 0 ∷ (get_or hs 3 0 * 16 + get_or ls 0 0)
          ∷ get_or ls 1 0 ∷ get_or ls 2 0 ∷ get_or ls 3 0 ∷ get_or ls 4 0 ∷ get_or ls 5 0 ∷ []);
    } ≡ row_of (word_fields h l)
unfolding unpack bits
row_cut {h} {l} hh ll first second = rw (first, second) (sym (ap row_of (cut_words h l ll)))

-- a row's fields are those of its two words
pub fields_of_words : (bytes : List ℕ) (k : ℕ) → k < rows_in bytes → word_fields (words_at bytes k).high (words_at bytes k).low ≡ row_fields bytes k
unfolding row_fields word_fields recut
fields_of_words bytes k h = ap (unpack table_widths) (sym (row_words bytes k h))

-- and its start is the upper half of the first
pub start_of_words : (bytes : List ℕ) (k : ℕ) → k < rows_in bytes → (words_at bytes k).low < 2 ^ 64 → word_start (words_at bytes k).high ≡ get_or (row_fields bytes k) 0 0
start_of_words bytes k h small = start_cut (words_at bytes k).high (words_at bytes k).low small ∙ ap (λ (l : List ℕ). get_or l 0 0) (fields_of_words bytes k h)
