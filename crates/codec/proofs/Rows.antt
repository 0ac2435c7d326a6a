-- Rows of sixteen bytes: written as two words, and cut out of packed fields the same way.
-- Assumes nothing.
use mathlib.Core.Path.{◌≡◌, sym, ◌∙◌, ap, ap₂}
use mathlib.Core.List.{List, [], ◌∷◌, ◌++◌, append_assoc}
use Prim.Native.Nat.{ℕ, ◌+◌, ◌*◌, ◌/◌, ◌%◌, ◌^◌, ◌≤◌, ◌<◌}
use native.Mathlib.Nat.{add_comm, add-mul, mul_assoc, mod-eq_of_lt, mod-lt, suc_inj, suc-ne-zero}
use native.Mathlib.Omega.{arith}
use lib.Arith.{digits_lt}
use lib.Pow.{pow_pos, pow-add, high, low, shr-shr, field, mod-mod-pow}
use lib.ListN.{length, take, drop, length-append, length-drop}
use lib.Seq.{length-take-le, take_at, take-add, drop-drop, drop-append-add}
use borrow.Author.Tests.{lt-ltb, le-ltb}
use Rattle.model.specs.Model.{row_size}
use Rattle.codec.specs.Packing.{bits, pack, unpack, recut}
use Rattle.codec.specs.Layout.{byte_widths}
use Rattle.codec.specs.RowWords.{row_bytes, with_row, words_at}
use Rattle.codec.proofs.Packing.{length_unpack}

pub bits_append : (vs us : List ℕ) → bits (vs ++ us) ≡ bits vs + bits us
unfolding bits
bits_append [] us = omega arith
bits_append (v ∷ vs) us = omega (arith, bits_append vs us)

-- cutting by widths one after the other
abbrev Apart : List ℕ → List ℕ → ℕ → Type 0
Apart vs us x = unpack (vs ++ us) x ≡ unpack vs (x / 2 ^ bits us) ++ unpack us (x % 2 ^ bits us)

-- one width more in front, whose field has all that stands above the others
more_apart : (v : ℕ) (vs us : List ℕ) (x : ℕ) → Apart vs us (x % 2 ^ bits (vs ++ us)) → Apart (v ∷ vs) us x
unfolding unpack bits
more_apart v vs us x ih =
    let y = x % 2 ^ bits (vs ++ us) in
    let sum = bits_append vs us in
    let top : x / 2 ^ bits (vs ++ us) ≡ x / 2 ^ bits us / 2 ^ bits vs =
    ap (λ (n : ℕ). x / 2 ^ n) (sum ∙ add_comm (bits vs) (bits us)) ∙ sym (shr-shr x (bits us) (bits vs)) in
    let mid : y / 2 ^ bits us ≡ x / 2 ^ bits us % 2 ^ bits vs = ap (λ (n : ℕ). x % 2 ^ n / 2 ^ bits us) sum ∙ field x (bits vs) (bits us) in
    let end : y % 2 ^ bits us ≡ x % 2 ^ bits us = ap (λ (n : ℕ). x % 2 ^ n % 2 ^ bits us) sum ∙ mod-mod-pow x (bits vs) (bits us) in
    ap₂ ◌∷◌ top (ih ∙ ap₂ (λ (a b : ℕ). unpack vs a ++ unpack us b) mid end)

pub unpack_append : (vs us : List ℕ) (x : ℕ) → x < 2 ^ bits (vs ++ us) → unpack (vs ++ us) x ≡ unpack vs (x / 2 ^ bits us) ++ unpack us (x % 2 ^ bits us)
unfolding unpack bits
unpack_append [] us x h = ap (unpack us) (sym (mod-eq_of_lt h))
unpack_append (v ∷ vs) us x h = more_apart v vs us x (unpack_append vs us _ (mod-lt x (pow_pos (bits (vs ++ us)))))

-- the same of any number, where some width is first
pub unpack_append_first : (v : ℕ) (vs us : List ℕ) (x : ℕ) → unpack (v ∷ vs ++ us) x ≡ unpack (v ∷ vs) (x / 2 ^ bits us) ++ unpack us (x % 2 ^ bits us)
unpack_append_first v vs us x = more_apart v vs us x (unpack_append vs us _ (mod-lt x (pow_pos (bits (vs ++ us)))))

-- fields that pack to two words have those words' bytes
pub row_of_words : (ws fs : List ℕ) (h l : ℕ) → pack ws fs ≡ h * 2 ^ 64 + l → h < 2 ^ 64 → l < 2 ^ 64 → recut ws (byte_widths row_size) fs ≡ row_bytes h l
unfolding recut row_bytes bits
row_of_words ws fs h l e hh hl =
    let small : h * 2 ^ 64 + l < 2 ^ 64 * 2 ^ 64 = digits_lt hh hl in
    ap (unpack (byte_widths row_size)) e
    ∙ unpack_append (byte_widths 8) (byte_widths 8) (h * 2 ^ 64 + l) small
    ∙ ap₂ (λ (a b : ℕ). unpack (byte_widths 8) a ++ unpack (byte_widths 8) b) (high h 64 hl) (low h 64 hl)

-- one word and then the next
pub row_put : (old mid new : List ℕ) (k h l : ℕ) → k < length old / row_size → length mid ≡ length old
    → mid ≡ take (row_size * k) old ++ (unpack (byte_widths 8) h ++ drop (row_size * k + 8) old)
    → new ≡ take (row_size * k + 8) mid ++ (unpack (byte_widths 8) l ++ drop (row_size * k + 8 + 8) mid)
    → new ≡ with_row old k (row_bytes h l)
unfolding with_row row_bytes
row_put old mid new k h l room same first second =
    let at = row_size * k in
    let H = unpack (byte_widths 8) h in
    let L = unpack (byte_widths 8) l in
    let P = take at old in
    let D = drop (at + 8) old in
    let E = drop (at + row_size) old in
    let front : length P ≡ at = length-take-le at old (omega arith) in
    let size : length (P ++ H) ≡ at + 8 = length-append P H ∙ ap₂ ◌+◌ front (length_unpack (byte_widths 8) h) in
    let joined : mid ≡ P ++ H ++ D = first ∙ sym (append_assoc P H D) in
    let before-it : take (at + 8) mid ≡ P ++ H = ap (take (at + 8)) joined ∙ take_at (P ++ H) D (at + 8) size in
    let place : at + 8 + 8 ≡ length (P ++ H) + 8 = omega arith in
    let next : at + 8 + 8 ≡ at + row_size = omega arith in
    let after-it : drop (at + 8 + 8) mid ≡ E =
    ap (drop (at + 8 + 8)) joined
    ∙ ap (λ (n : ℕ). drop n (P ++ H ++ D)) place
    ∙ drop-append-add (P ++ H) D 8
    ∙ drop-drop 8 (at + 8) old
    ∙ ap (λ (n : ℕ). drop n old) next in
    let joins = append_assoc P H (L ++ E) ∙ ap (λ (m : List ℕ). P ++ m) (sym (append_assoc H L E)) in
    rw (lt-ltb k (length old / row_size) room) (second ∙ ap₂ (λ (a b : List ℕ). a ++ (L ++ b)) before-it after-it ∙ joins)

-- no such row
pub row_out : (old : List ℕ) (k h l : ℕ) → length old / row_size ≤ k → old ≡ with_row old k (row_bytes h l)
unfolding with_row
row_out old k h l room = rw (le-ltb k (length old / row_size) room)

-- the row within the buffer
pub row_in : (old row : List ℕ) (k : ℕ) → k < length old / row_size → with_row old k row ≡ take (row_size * k) old ++ (row ++ drop (row_size * k + row_size) old)
unfolding with_row
row_in old row k room = rw (lt-ltb k (length old / row_size) room)

-- fields one after the other
pack_append : (vs us fs gs : List ℕ) → length vs ≡ length fs → pack (vs ++ us) (fs ++ gs) ≡ pack vs fs * 2 ^ bits us + pack us gs
unfolding pack bits
pack_append [] us [] gs e = omega arith
pack_append [] us (f ∷ fs) gs e = absurd (suc-ne-zero (length fs) (sym e))
pack_append (v ∷ vs) us [] gs e = absurd (suc-ne-zero (length vs) e)
pack_append (v ∷ vs) us (f ∷ fs) gs e =
    let ih = pack_append vs us fs gs (suc_inj e) in
    let weight : 2 ^ bits (vs ++ us) ≡ 2 ^ bits vs * 2 ^ bits us = ap (λ (n : ℕ). 2 ^ n) (bits_append vs us) ∙ pow-add 2 (bits vs) (bits us) in
    rw (weight, ih) (omega (arith, add-mul (f * 2 ^ bits vs) (pack vs fs) (2 ^ bits us), mul_assoc f (2 ^ bits vs) (2 ^ bits us)))

-- a row's two words are its sixteen bytes as one number
pub row_words : (bytes : List ℕ) (k : ℕ) → k < length bytes / row_size
    → pack (byte_widths row_size) (take row_size (drop (row_size * k) bytes)) ≡ (words_at bytes k).high * 2 ^ 64 + (words_at bytes k).low
unfolding words_at bits
row_words bytes k h =
    let rest = drop (row_size * k) bytes in
    let size : length (take 8 rest) ≡ 8 = length-take-le 8 rest (omega (arith, length-drop (row_size * k) bytes)) in
    let low : List ℕ → ℕ = λ l. pack (byte_widths 8) (take 8 rest) * 2 ^ 64 + pack (byte_widths 8) (take 8 l) in
    let whole = ap (pack (byte_widths row_size)) (take-add 8 8 rest) in
    let split = pack_append (byte_widths 8) (byte_widths 8) (take 8 rest) (take 8 (drop 8 rest)) (sym size) in
    rw (lt-ltb k (length bytes / row_size) h) (whole ∙ split ∙ ap low (drop-drop 8 (row_size * k) bytes))
