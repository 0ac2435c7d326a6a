-- Decimal digits: what `io::decimal` writes is `decimal`, and how many there are. The last digit goes off both ways alike, and a
-- number has one digit fewer once divided by ten. Assumes nothing.
use mathlib.Core.Path.{◌≡◌, refl, ◌∙◌, ap, ap₂}
use mathlib.Core.Bool.{Bool, true, false, cond}
use mathlib.Core.List.{List, [], ◌∷◌, ◌++◌}
use Prim.Native.Nat.{ℕ, zero, suc, ◌+◌, ◌-◌, ◌/◌, ◌%◌, ◌^◌, ◌≤◌, ◌<◌}
use native.Mathlib.Nat.{mod-eq_of_lt, mod-lt, pow-succ', pow-le-pow_right}
use native.Mathlib.Numerals.{unary_clauses}
use native.Mathlib.Omega.{arith}
use native.Mathlib.Decide.{dec_le}
use lib.ListN.{length, length-append}
use lib.Dec.{ltb}
use borrow.Author.Tests.{lt-ltb, le-ltb, ltb-false}
use Rattle.io.specs.Digits.{hex_digit_ascii, last_digits, IsDigitCount}
use Rattle.ladder_line.specs.Lines.{digits_of, decimal, spaced}
use Rattle.ladder_line.specs.Writing.{Puts}

glyph_is : (d : ℕ) → d < 10 → hex_digit_ascii d ≡ 48 + d
glyph_is d h = ap (λ (t : Bool). cond t (48 + d) (87 + d)) (lt-ltb d 10 h)

ten_to : (k : ℕ) → 10 ≤ 10 ^ suc k
ten_to k = omega (arith, pow-le-pow_right {n = 10} (omega arith) {i = 1} {j = suc k} (omega arith))

fewest_digits : (most r n : ℕ) → IsDigitCount 10 1 n r → r ≤ most → last_digits 10 r n ≡ digits_of most n
unfolding digits_of
fewest_digits most zero n h to = absurd (omega arith)
fewest_digits zero (suc r) n h to = absurd (omega arith)
fewest_digits (suc most) (suc zero) n h to =
    let small : n < 10 = h.1 in
    rw (lt-ltb n 10 small) (ap (λ (d : ℕ). d ∷ []) (ap hex_digit_ascii (mod-eq_of_lt small) ∙ glyph_is n small))
fewest_digits (suc most) (suc (suc r)) n h to =
    let one_less : suc (suc r) - 1 ≡ suc r = omega arith in
    let big : 10 ^ suc r ≤ n = rw one_less at (h.2 (omega arith)) in
    let least : 10 ≤ n = omega (arith, ten_to r) in
    let fewer : IsDigitCount 10 1 (n / 10) (suc r) =
    (omega arith, omega (arith, h.1, pow-succ' 10 (suc r)), λ _. simp unary_clauses (omega (arith, pow-succ' 10 r))) in
    let front = fewest_digits most (suc r) (n / 10) fewer (omega arith) in
    let last = glyph_is (n % 10) (mod-lt n (omega arith)) in
    rw (le-ltb n 10 least) (ap₂ (λ (ds : List ℕ) (d : ℕ). ds ++ (d ∷ [])) front last)

twenty : (r n : ℕ) → IsDigitCount 10 1 n r → n < 10 ^ 20 → r ≤ 20
twenty r n h small = go (dec_le r 20)
  where
    go : Dec (r ≤ 20) → r ≤ 20
    go (yes to) = to
    go (no more) = absurd (omega (arith, h.2 (omega arith), pow-le-pow_right {n = 10} (omega arith) {i = 20} {j = r - 1} (omega arith)))

-- what `io::decimal` writes
pub decimal_is : (r n : ℕ) → IsDigitCount 10 1 n r → n < 10 ^ 20 → last_digits 10 r n ≡ decimal n
unfolding decimal
decimal_is r n h small = fewest_digits 20 r n h (twenty r n h small)

-- a number below a power of ten has as many digits
digits_few : (most k n : ℕ) → n < 10 ^ suc k → length (digits_of most n) ≤ suc k
unfolding digits_of
digits_few zero k n h = omega arith
digits_few (suc most) k n h = go (ltb n 10) refl k h (λ j. digits_few most j (n / 10))
  where
    go : (t : Bool) → ltb n 10 ≡ t → (j : ℕ) → n < 10 ^ suc j →
        ((i : ℕ) → n / 10 < 10 ^ suc i → length (digits_of most (n / 10)) ≤ suc i) →
        length (cond t ((48 + n) ∷ []) (digits_of most (n / 10) ++ ((48 + n % 10) ∷ []))) ≤ suc j
    go true e j less fewer = omega arith
    go false e zero less fewer = absurd (omega (arith, ltb-false n 10 e))
    go false e (suc j) less fewer = omega (arith, length-append (digits_of most (n / 10)) ((48 + n % 10) ∷ []), fewer j (omega (arith, pow-succ' 10 (suc j))))

pub decimal_few : (k n : ℕ) → n < 10 ^ suc k → length (decimal n) ≤ suc k
unfolding decimal
decimal_few k n h = digits_few 20 k n h

pub spaced_few : (k n : ℕ) → n < 10 ^ suc k → length (spaced n) ≤ k + 2
unfolding spaced
spaced_few k n h = omega (arith, decimal_few k n h)

-- and no number has more than twenty
digits_most : (most n : ℕ) → length (digits_of most n) ≤ most
unfolding digits_of
digits_most zero n = omega arith
digits_most (suc most) n = go (ltb n 10) (digits_most most (n / 10))
  where
    go : (t : Bool) → length (digits_of most (n / 10)) ≤ most → length (cond t ((48 + n) ∷ []) (digits_of most (n / 10) ++ ((48 + n % 10) ∷ []))) ≤ suc most
    go true fewer = omega arith
    go false fewer = omega (arith, length-append (digits_of most (n / 10)) ((48 + n % 10) ∷ []))

pub spaced_most : (n : ℕ) → length (spaced n) ≤ 21
unfolding spaced decimal
spaced_most n = omega (arith, digits_most 20 n)

-- so twenty-one bytes are room enough for any, and take its place no further
pub room_for : (at n : ℕ) → at + 21 ≤ 80 → at + length (spaced n) ≤ 80
room_for at n h = omega (arith, spaced_most n)

pub number_put : {old new : List ℕ} {at r : ℕ} (n : ℕ) → Puts old at (spaced n) r new → r ≤ at + 21
number_put n p = omega (arith, p.place, spaced_most n)
