-- There are few enough zones to count: after a multiplier a, k more jobs have at most 2^k * (3600/a)^2 lists of multipliers, because
-- the squares of 3600/a over 1, 2, 3 .. add up to at most twice the first. Assumes nothing.
use mathlib.Core.Path.{◌≡◌, refl}
use mathlib.Core.Bool.{Bool, true, false}
use mathlib.Core.List.{List, [], ◌∷◌, ◌++◌, map, flat_map}
use Prim.Native.Nat.{ℕ, zero, suc, ◌+◌, ◌*◌, ◌-◌, ◌/◌, ◌^◌, ◌≤◌, ◌<◌}
use native.Mathlib.Omega.{arith}
use lib.Pow.{pow_mono}
use native.Mathlib.Nat.{div-zero, pow-succ', mul-le-mul, mul-le-mul_left, le_of_mul-le-mul_left, le-div_iff_mul-le, div-mul-le_self, mul-pos, mul_assoc}
use lib.ListN.{length, length-append}
use lib.Dec.{ltb}
use borrow.Author.Tests.{ltb-false}
use Rattle.model.specs.declared.Job.{Job}
use Rattle.model.specs.Rounding.{round_up}
use Rattle.model.specs.Climb.{in_turn, climb, climb_to}
use Rattle.model.specs.Valid.{ValidJobs}
use Rattle.model.proofs.Rounding.{round_up_some}
use Rattle.zone_walk.specs.Zone.{Zone}
use Rattle.zone_walk.specs.Listing.{interval_of, least_for, greatest_for, unless_empty, zones_below, zones_in, zones_for}

-- the terms from the j + 1-th on: each is at most C times a square, and the k-th root times k is at most M
halves : (j C M q x rest : ℕ) → suc j * q ≤ M → x ≤ C * (q * q) → suc j * rest ≤ C * (M * M) → j * (x + rest) ≤ C * (M * M)
halves j C M q x rest h x≤ k =
    let J = suc j in
    let P = C * (M * M) in
    let square : J * q * (J * q) ≤ M * M = mul-le-mul h h in
    let scaled : C * (J * q * (J * q)) ≤ P = mul-le-mul_left C square in
    let term : J * J * x ≤ J * J * (C * (q * q)) = mul-le-mul_left (J * J) x≤ in
    let same : J * J * (C * (q * q)) ≡ C * (J * q * (J * q)) = omega arith in
    let a : j * (J * J * x) ≤ j * P = mul-le-mul_left j (omega arith) in
    let b : j * J * (J * rest) ≤ j * J * P = mul-le-mul_left (j * J) k in
    let sum : J * J * (j * (x + rest)) ≡ j * (J * J * x) + j * J * (J * rest) = omega arith in
    let room : j * P + j * J * P ≤ J * J * P = omega arith in
    le_of_mul-le-mul_left {k = J * J} (omega arith) (mul-pos {m = J} {n = J} (omega arith) (omega arith))

module _ (f : ℕ → List Zone) (C : ℕ) (few : (m : ℕ) → length (f m) ≤ C * (3600 / m * (3600 / m))) (a : ℕ) (pos : 1 ≤ a) where
  root : (k : ℕ) → 1 ≤ k → k * (3600 / (k * a)) ≤ 3600 / a
  root k h =
      let q = 3600 / (k * a) in
      let under : q * (k * a) ≤ 3600 = div-mul-le_self 3600 (k * a) in
      let same : k * q * a ≡ q * (k * a) = omega arith in
      (le-div_iff_mul-le pos).1 (omega arith)

  tail_few : (j c : ℕ) → j * length (flat_map f (climb a (suc j * a) c)) ≤ C * (3600 / a * (3600 / a))
  unfolding in_turn flat_map
  tail_few j zero = omega arith
  tail_few j (suc c) =
      let next : suc j * a + a ≡ suc (suc j) * a = omega arith in
      let rest = length (flat_map f (climb a (suc j * a + a) c)) in
      let ih : suc j * rest ≤ C * (3600 / a * (3600 / a)) = rw next (tail_few (suc j) c) in
      rw (length-append (f (suc j * a)) (flat_map f (climb a (suc j * a + a) c))) (halves j C (3600 / a) (3600 / (suc j * a)) (length (f (suc j * a))) rest (root (suc j) (omega arith)) (few (suc j * a)) ih)

  all_few : (i c : ℕ) → 1 ≤ i → length (flat_map f (climb a (i * a) c)) ≤ 2 * (C * (3600 / a * (3600 / a)))
  unfolding in_turn flat_map
  all_few zero c h = absurd (omega arith)
  all_few (suc zero) zero h = omega arith
  all_few (suc zero) (suc c) h =
      let next : 1 * a + a ≡ 2 * a = omega arith in
      let rest = length (flat_map f (climb a (1 * a + a) c)) in
      let ih : 1 * rest ≤ C * (3600 / a * (3600 / a)) = rw next (tail_few 1 c) in
      let one : 1 * a ≡ a = omega arith in
      let first : length (f (1 * a)) ≤ C * (3600 / a * (3600 / a)) = rw one (few a) in
      rw (length-append (f (1 * a)) (flat_map f (climb a (1 * a + a) c))) (omega arith)
  all_few (suc (suc j)) c h =
      let t = tail_few (suc j) c in
      omega arith

-- a range that is not empty allows no multiplier above 3600
within : (hi m : ℕ) → hi ≤ 3600 → 1 ≤ hi / m → (1 ≤ m) × (m ≤ 3600)
within hi zero h k = absurd (omega (arith, div-zero hi))
within hi (suc m) h k = let d : 1 * suc m ≤ hi = (le-div_iff_mul-le {k = suc m} (omega arith)).0 k in (omega arith, omega arith)

open_few : (empty : Bool) (zs : List Zone) (b : ℕ) → (empty ≡ false → length zs ≤ b) → length (unless_empty empty zs) ≤ b
unfolding unless_empty
open_few true zs b h = omega arith
open_few false zs b h = h refl

below_few : (js : List Job) (chosen : List ℕ) (least greatest a : ℕ) → ValidJobs js → 1 ≤ least → least ≤ greatest → 1 ≤ a → a ≤ 3600
    → length (zones_below (map interval_of js) chosen least greatest a) ≤ 2 ^ length js * (3600 / a * (3600 / a))
unfolding zones_below climb_to
below_few [] chosen least greatest a v l g pos top =
    let some : 1 ≤ 3600 / a = (le-div_iff_mul-le pos).1 (omega arith) in
    let square : 1 * 1 ≤ 3600 / a * (3600 / a) = mul-le-mul some some in
    omega arith
below_few (j ∷ js) chosen least greatest a v l g pos top =
    let s = interval_of j in
    let q = round_up j.lo.0 (a * greatest) in
    let some : 1 ≤ q = round_up_some v.0.lo_from (mul-pos {n = greatest} pos (omega arith)) in
    rw (pow-succ' 2 (length js), mul_assoc 2 (2 ^ length js) (3600 / a * (3600 / a)))
    (all_few (λ m. unless_empty (ltb (greatest_for s greatest m) (least_for s least m)) (zones_below (map interval_of js) (chosen ++ (m ∷ [])) (least_for s least m) (greatest_for s greatest m) m)) (2 ^ length js)
    (λ m. open_few (ltb (greatest_for s greatest m) (least_for s least m)) _ _ (λ e.
    let k : least_for s least m ≤ greatest_for s greatest m = ltb-false _ _ e in
    let w = within j.hi.0 m v.0.hi_to (omega arith) in
    below_few js (chosen ++ (m ∷ [])) (least_for s least m) (greatest_for s greatest m) m v.1 (omega arith) k w.0 w.1))
    a pos q ((s.hi.0 / least + a - q * a) / a) some)

-- Eight valid jobs have fewer than 2^31 zones.
pub zones_few : (js : List Job) → length js ≤ 8 → ValidJobs js → length (zones_for js) < 2 ^ 31
unfolding zones_in
zones_few [] h v = omega arith
zones_few (j ∷ js) h v =
    let few = below_few js (1 ∷ []) j.lo.0 j.hi.0 1 v.1 v.0.lo_from v.0.lo_to (omega arith) (omega arith) in
    let size : 2 ^ length js ≤ 2 ^ 7 = pow_mono {j = 7} (omega arith) in
    omega arith
