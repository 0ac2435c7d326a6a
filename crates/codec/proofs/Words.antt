-- Eight bytes and one number: the library's words for them are packing by eight widths of eight bits.
-- Assumes nothing.
use mathlib.Core.Path.{◌≡◌, refl, sym, ◌∙◌, ap, ap₂}
use mathlib.Core.List.{List, ◌∷◌, ◌++◌}
use Prim.Native.Nat.{ℕ, zero, suc, ◌+◌, ◌*◌, ◌-◌, ◌/◌, ◌%◌, ◌^◌, ◌<◌}
use native.Mathlib.Nat.{div-one, mod-eq_of_lt}
use native.Mathlib.Omega.{arith}
use lib.Pow.{pow-add}
use lib.ListN.{length, take, drop, replicate}
use lib.Seq.{drop-drop}
use borrow.Rule.Slice.PartMut.{put_mid}
use Rattle.std.specs.Int.{w64, byte_at, bytes_high_first, to_be_bytes, from_be_bytes}
use Rattle.std.proofs.Math.Nat.{pow-suc}
use Rattle.model.specs.Model.{entries}
use Rattle.model.proofs.Entries.{entries_all}
use Rattle.codec.specs.Packing.{bits, pack, unpack}
use Rattle.codec.specs.Layout.{byte_widths}
use Rattle.codec.proofs.Packing.{unpack_low}

-- reading
each_byte : (bytes : List ℕ) → from_be_bytes w64 bytes ≡ pack (byte_widths 8) (entries 0 bytes 0 8)
unfolding pack bits entries
each_byte bytes = omega arith

pub number_of_bytes : (bytes : List ℕ) → length bytes ≡ 8 → from_be_bytes w64 bytes ≡ pack (byte_widths 8) bytes
number_of_bytes bytes size = each_byte bytes ∙ ap (pack (byte_widths 8)) (entries_all 0 bytes size)

-- writing
byte_weight : (k : ℕ) → 256 ^ k ≡ 2 ^ (8 * k)
byte_weight zero = refl
byte_weight (suc k) =
    let e : 8 * suc k ≡ 8 + 8 * k = omega arith in
    rw e (omega (arith, pow-suc 256 k, pow-add 2 8 (8 * k), byte_weight k))

byte_there : (k x : ℕ) → byte_at k x ≡ x / 2 ^ (8 * k) % 256
byte_there zero x = ap (λ (n : ℕ). n % 256) (sym (div-one x))
byte_there (suc k) x = ap (λ (n : ℕ). x / n % 256) (byte_weight (suc k))

low_bytes : (k x : ℕ) → bytes_high_first k x ≡ unpack (replicate k 8) (x % 2 ^ (8 * k))
unfolding unpack
low_bytes zero x = refl
low_bytes (suc k) x = ap₂ ◌∷◌ (byte_there k x) (low_bytes k x) ∙ sym (unpack_low k x)

bytes_of_number : (x : ℕ) → x < 2 ^ 64 → to_be_bytes w64 x ≡ unpack (byte_widths 8) x
bytes_of_number x h = low_bytes 8 x ∙ ap (unpack (byte_widths 8)) (mod-eq_of_lt h)

-- the part that is overwritten has the number's bytes
pub word_put : (old new : List ℕ) (at word : ℕ) → word < 2 ^ 64 → new ≡ to_be_bytes w64 word
    → put_mid at (at + 8 - at) old new ≡ take at old ++ (unpack (byte_widths 8) word ++ drop (at + 8) old)
word_put old new at word h e =
    let size : at + 8 - at ≡ 8 = omega arith in
    let rest = ap (λ (k : ℕ). drop k (drop at old)) size ∙ drop-drop 8 at old in
    ap₂ (λ (l r : List ℕ). take at old ++ (l ++ r)) (e ∙ bytes_of_number word h) rest
