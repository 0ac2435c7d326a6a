-- The laws of packing, over any widths: each field sits above the bits of those after it, so packing and cutting undo each other.
-- Assumes nothing.
use mathlib.Core.Path.{◌≡◌, refl, sym, ◌∙◌, ap, ap₂, subst}
use mathlib.Core.List.{List, [], ◌∷◌, ◌++◌}
use Prim.Native.Nat.{ℕ, zero, suc, ◌+◌, ◌*◌, ◌/◌, ◌%◌, ◌^◌, ◌<◌}
use native.Mathlib.Nat.{mod-lt, suc_inj, suc-ne-zero}
use native.Mathlib.Omega.{arith}
use lib.Arith.{digits_lt, lt-one}
use lib.Pow.{pow_pos, pow-add, shr_lt, split, high, low, field, mod-mod-pow}
use lib.ListN.{length, replicate}
use Rattle.codec.specs.Packing.{bits, pack, unpack, recut}
use Rattle.codec.specs.Fit.{Within}

pub pack_lt : (ws fs : List ℕ) → Within ws fs → pack ws fs < 2 ^ bits ws
unfolding pack bits
pack_lt [] [] h = omega arith
pack_lt [] (f ∷ fs) h = absurd h
pack_lt (w ∷ ws) [] h = absurd h
pack_lt (w ∷ ws) (f ∷ fs) h = rw (pow-add 2 w (bits ws)) (digits_lt h.0 (pack_lt ws fs h.1))

-- what is packed is read back
pub unpack_pack : (ws fs : List ℕ) → Within ws fs → unpack ws (pack ws fs) ≡ fs
unfolding pack unpack
unpack_pack [] [] h = refl
unpack_pack [] (f ∷ fs) h = absurd h
unpack_pack (w ∷ ws) [] h = absurd h
unpack_pack (w ∷ ws) (f ∷ fs) h =
    let small = pack_lt ws fs h.1 in
    ap₂ ◌∷◌ (high f (bits ws) small) (ap (unpack ws) (low f (bits ws) small) ∙ unpack_pack ws fs h.1)

-- what is read packs to the same bits
pub pack_unpack : (ws : List ℕ) (x : ℕ) → x < 2 ^ bits ws → pack ws (unpack ws x) ≡ x
unfolding pack unpack bits
pack_unpack [] x h = sym (lt-one h)
pack_unpack (w ∷ ws) x h =
    ap (λ (y : ℕ). x / 2 ^ bits ws * 2 ^ bits ws + y) (pack_unpack ws (x % 2 ^ bits ws) (mod-lt x (pow_pos (bits ws))))
    ∙ split x (bits ws)

-- what is read lies within the widths
pub unpack_within : (ws : List ℕ) (x : ℕ) → x < 2 ^ bits ws → Within ws (unpack ws x)
unfolding unpack bits
unpack_within [] x h = tt
unpack_within (w ∷ ws) x h = (shr_lt w (bits ws) h, unpack_within ws (x % 2 ^ bits ws) (mod-lt x (pow_pos (bits ws))))

-- the same bits, cut there and back, are the same fields
pub recut_back : (ws vs fs : List ℕ) → bits ws ≡ bits vs → Within ws fs → recut vs ws (recut ws vs fs) ≡ fs
unfolding recut
recut_back ws vs fs e h =
    let small : pack ws fs < 2 ^ bits vs = subst (λ (n : ℕ). pack ws fs < 2 ^ n) e (pack_lt ws fs h) in
    ap (unpack ws) (pack_unpack vs (pack ws fs) small) ∙ unpack_pack ws fs h

pub recut_within : (ws vs fs : List ℕ) → bits ws ≡ bits vs → Within ws fs → Within vs (recut ws vs fs)
unfolding recut
recut_within ws vs fs e h = unpack_within vs (pack ws fs) (subst (λ (n : ℕ). pack ws fs < 2 ^ n) e (pack_lt ws fs h))

pub length_unpack : (ws : List ℕ) (x : ℕ) → length (unpack ws x) ≡ length ws
unfolding unpack
length_unpack [] x = refl
length_unpack (w ∷ ws) x = ap suc (length_unpack ws (x % 2 ^ bits ws))

pub length_recut : (ws vs fs : List ℕ) → length (recut ws vs fs) ≡ length vs
unfolding recut
length_recut ws vs fs = length_unpack vs (pack ws fs)

-- one byte more, behind the others
pub pack_snoc : (k : ℕ) (bs : List ℕ) (b : ℕ) → length bs ≡ k → pack (replicate (suc k) 8) (bs ++ b ∷ []) ≡ pack (replicate k 8) bs * 256 + b
unfolding pack bits
pack_snoc zero [] b e = omega arith
pack_snoc zero (x ∷ bs) b e = absurd (suc-ne-zero (length bs) e)
pack_snoc (suc k) [] b e = absurd (suc-ne-zero k (sym e))
pack_snoc (suc k) (x ∷ bs) b e =
    let m = bits (replicate k 8) in
    let weight : 2 ^ (8 + m) ≡ 256 * 2 ^ m = pow-add 2 8 m in
    let rest = pack_snoc k bs b (suc_inj e) in
    rw weight (omega (arith, rest))

pub bits_bytes : (k : ℕ) → bits (replicate k 8) ≡ 8 * k
unfolding bits
bits_bytes zero = refl
bits_bytes (suc k) = omega (arith, bits_bytes k)

-- a number's k + 1 low bytes are the k + 1-th from the end and the k low ones
pub unpack_low : (k x : ℕ) → unpack (replicate (suc k) 8) (x % 2 ^ (8 * suc k)) ≡ x / 2 ^ (8 * k) % 256 ∷ unpack (replicate k 8) (x % 2 ^ (8 * k))
unfolding unpack
unpack_low k x =
    let e : 8 * suc k ≡ 8 + 8 * k = omega arith in
    rw (bits_bytes k, e) (ap₂ ◌∷◌ (field x 8 (8 * k)) (ap (unpack (replicate k 8)) (mod-mod-pow x 8 (8 * k))))
