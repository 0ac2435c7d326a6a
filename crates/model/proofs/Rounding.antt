-- A fraction rounded up is the least whole number that is not below it; everything else about it follows from that. Beside it, what
-- holds of multiples.
-- Assumes nothing.
use Prim.Native.Nat.{ℕ, zero, suc, ◌+◌, ◌*◌, ◌-◌, ◌/◌, ◌%◌, ◌≤◌, ◌<◌}
use mathlib.Core.Path.{◌≡◌, ◌∙◌, ap}
use mathlib.Core.Logic.{◌↔◌}
use native.Mathlib.Omega.{arith}
use native.Mathlib.Nat.{le_refl, le_antisymm, le-div_iff_mul-le, div-lt_iff_lt-mul, div-add-mod', add-mul, mul-zero, mod-eq_of_lt, mul-le-mul_right, le_of_mul-le-mul_right}
use Rattle.model.specs.Rounding.{round_up}

pub round_up_le : (a q : ℕ) {b : ℕ} → 1 ≤ b → (round_up a b ≤ q) ↔ (a ≤ q * b)
round_up_le a q {b} h = (down, up)
  where
    down : round_up a b ≤ q → a ≤ q * b
    down k =
        let s : round_up a b < suc q = omega arith in
        let m = (div-lt_iff_lt-mul h).0 s in
        omega arith

    up : a ≤ q * b → round_up a b ≤ q
    up k =
        let m : a + (b - 1) < suc q * b = omega arith in
        let s = (div-lt_iff_lt-mul {k = b} {x = a + (b - 1)} {y = suc q} h).1 m in
        omega arith

-- rounding up never goes below
pub round_up_above : (a : ℕ) {b : ℕ} → 1 ≤ b → a ≤ round_up a b * b
round_up_above a {b} h = (round_up_le a (round_up a b) h).0 (le_refl _)

-- a multiple is its quotient times its divisor
pub multiple_is : (t p : ℕ) → t % p ≡ 0 → t ≡ t / p * p
multiple_is t p e = let d = div-add-mod' t p in omega arith

-- a multiple that is not zero is not below
pub multiple_above : (t u : ℕ) → 1 ≤ u → u % t ≡ 0 → t ≤ u
multiple_above t u pos e = by_contra (λ (less : u < t). let s : u % t ≡ u = mod-eq_of_lt less in omega arith)
  where
    by_contra : (u < t → ⊥) → t ≤ u
    by_contra f = omega arith

-- neither factor of a number that is not zero is zero
pub factors : (a b : ℕ) {c : ℕ} → 1 ≤ c → c ≡ a * b → (1 ≤ a) × (1 ≤ b)
factors zero b h e = absurd (omega arith)
factors (suc a) zero h e = let z = mul-zero (suc a) in absurd (omega arith)
factors (suc a) (suc b) h e = (omega arith, omega arith)

pub split_product : {q y : ℕ} (p : ℕ) → q ≤ y → y * p ≡ q * p + (y - q) * p
split_product {q} {y} p h = let d : y ≡ q + (y - q) = omega arith in ap (λ (z : ℕ). z * p) d ∙ add-mul q (y - q) p

pub round_up_some : {a b : ℕ} → 1 ≤ a → 1 ≤ b → 1 ≤ round_up a b
round_up_some h k = (le-div_iff_mul-le k).1 (omega arith)

-- a fraction is rounded up alike in whatever terms
pub round_up_scaled : (a b k : ℕ) → 1 ≤ b → 1 ≤ k → round_up (a * k) (k * b) ≡ round_up a b
round_up_scaled a b k b-pos k-pos = le_antisymm below above
  where
    both_pos : 1 ≤ k * b
    both_pos = let m : 1 * b ≤ k * b = mul-le-mul_right b k-pos in omega arith

    below : round_up (a * k) (k * b) ≤ round_up a b
    below =
        let q = round_up a b in
        let m : a * k ≤ q * b * k = mul-le-mul_right k (round_up_above a b-pos) in
        (round_up_le (a * k) q both_pos).1 (omega arith)

    above : round_up a b ≤ round_up (a * k) (k * b)
    above =
        let q = round_up (a * k) (k * b) in
        let m : a * k ≤ q * (k * b) = round_up_above (a * k) both_pos in
        let s : a * k ≤ q * b * k = omega arith in
        (round_up_le a q b-pos).1 (le_of_mul-le-mul_right s k-pos)
