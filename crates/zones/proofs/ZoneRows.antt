-- Zone rows: the two words of a zone are the bytes of its row, and row follows row from the front of the buffer.
-- Assumes nothing.
use mathlib.Core.Path.{◌≡◌, refl, sym, ◌∙◌, ap, ap₂, subst}
use mathlib.Core.List.{List, [], ◌∷◌, ◌++◌, append_assoc, flat_map}
use Prim.Native.Nat.{ℕ, ◌+◌, ◌*◌, ◌/◌, ◌^◌, ◌≤◌, ◌<◌}
use native.Mathlib.Omega.{arith}
use lib.ListN.{length, take, drop, length-append}
use lib.Seq.{take_at, drop-drop, drop-append-add}
use Rattle.model.specs.Model.{entries, row_size}
use Rattle.model.proofs.Lists.{flat_length, flat_snoc}
use Rattle.codec.specs.Packing.{bits, pack, recut}
use Rattle.codec.specs.Layout.{byte_widths}
use Rattle.codec.specs.RowWords.{row_bytes, with_row}
use Rattle.codec.proofs.Packing.{length_recut}
use Rattle.codec.proofs.Rows.{row_of_words, row_in}
use Rattle.zone_walk.specs.Zone.{Zone}
use Rattle.zones.specs.Zones.{zone_widths, zone_fields, rows_of}
use Rattle.zones.specs.ZoneRows.{Wrote, high_word, low_word}

-- a zone's row
abbrev row_of : Zone → List ℕ
row_of z = recut zone_widths (byte_widths row_size) (zone_fields z)

-- the fields side by side are the two words
words : (z : Zone) → pack zone_widths (zone_fields z) ≡ high_word z * 2 ^ 64 + low_word z
unfolding pack bits entries
words z = omega arith

pub row_of_zone : (z : Zone) (high low : ℕ) → high ≡ high_word z → low ≡ low_word z → high < 2 ^ 64 → low < 2 ^ 64 → row_of z ≡ row_bytes high low
row_of_zone z high low eh el h l = row_of_words zone_widths (zone_fields z) high low (words z ∙ ap₂ (λ (a b : ℕ). a * 2 ^ 64 + b) (sym eh) (sym el)) h l

pub length_rows : (zs : List Zone) → length (rows_of zs) ≡ row_size * length zs
unfolding rows_of
length_rows zs = flat_length row_of row_size (λ z. length_recut zone_widths (byte_widths row_size) (zone_fields z)) zs

rows_snoc : (zs : List Zone) (z : Zone) → rows_of (zs ++ (z ∷ [])) ≡ rows_of zs ++ row_of z
unfolding rows_of
rows_snoc zs z = flat_snoc row_of zs z

-- writing, after the rows of the zones `passed`: where there is room for all they stand at the front, and behind them what
-- stood there at the start
pub record Writing (all passed : List Zone) (old out : List ℕ) (row : ℕ) : Type 0 where
  pub count : row ≡ length passed
  pub same : length out ≡ length old
  pub bytes : length all ≤ length old / row_size → out ≡ rows_of passed ++ drop (row_size * row) old

pub none_written : (all : List Zone) (old : List ℕ) → Writing all [] old old 0
unfolding rows_of flat_map
none_written all old = record { count = refl; same = refl; bytes = λ room. refl }

pub all_written : {all passed : List Zone} {old out : List ℕ} {row : ℕ} → Writing all passed old out row → passed ≡ all → Wrote all old out row
all_written {all} {passed} {old} {out} {row} w e =
    let done : row ≡ length all = w.count ∙ ap length e in
    record { count = done; bytes = λ room. w.bytes room ∙ ap₂ (λ (zs : List Zone) (k : ℕ). rows_of zs ++ drop (row_size * k) old) e done }

module _ (all passed : List Zone) (old out : List ℕ) (row : ℕ) (w : Writing all passed old out row) (z : Zone) (inside : length passed < length all) where
  bytes_more : {new : List ℕ} (high low : ℕ) → row_of z ≡ row_bytes high low → new ≡ with_row out row (row_bytes high low)
      → length all ≤ length old / row_size → new ≡ rows_of (passed ++ (z ∷ [])) ++ drop (row_size * (row + 1)) old
  bytes_more high low is e room =
      let from = row_size * row in
      let behind = drop (row_size * (row + 1)) old in
      let P = rows_of passed in
      let D = drop from old in
      let front : length P ≡ from = length_rows passed ∙ ap (λ (k : ℕ). row_size * k) (sym w.count) in
      let before-it : take from out ≡ P = ap (take from) (w.bytes room) ∙ take_at P D from front in
      let place : from + row_size ≡ length P + row_size = omega arith in
      let next : from + row_size ≡ row_size * (row + 1) = omega arith in
      let past : drop (from + row_size) (P ++ D) ≡ drop row_size D = ap (λ (k : ℕ). drop k (P ++ D)) place ∙ drop-append-add P D row_size in
      let further : drop row_size D ≡ behind = drop-drop row_size from old ∙ ap (λ (k : ℕ). drop k old) next in
      let after-it : drop (from + row_size) out ≡ behind = ap (drop (from + row_size)) (w.bytes room) ∙ past ∙ further in
      let there : row < length out / row_size = subst (λ (k : ℕ). row < k / row_size) (sym w.same) (omega (arith, w.count)) in
      e
      ∙ row_in out (row_bytes high low) row there
      ∙ ap₂ (λ (a b : List ℕ). a ++ (row_bytes high low ++ b)) before-it after-it
      ∙ ap (λ (r : List ℕ). P ++ (r ++ behind)) (sym is)
      ∙ sym (append_assoc P (row_of z) behind)
      ∙ ap (λ (l : List ℕ). l ++ behind) (sym (rows_snoc passed z))

  pub one_written : {new : List ℕ} (high low : ℕ) → high ≡ high_word z → low ≡ low_word z → high < 2 ^ 64 → low < 2 ^ 64
      → length new ≡ length out → new ≡ with_row out row (row_bytes high low) → Writing all (passed ++ (z ∷ [])) old new (row + 1)
  one_written high low eh el h l size e =
      let is = row_of_zone z high low eh el h l in
      record { count = omega (arith, w.count, length-append passed (z ∷ [])); same = size ∙ w.same; bytes = λ room. bytes_more high low is e room }
