-- Numbers that climb or descend by a step: which they are, the next of them, and that climbing ones rise. From a multiple of the step
-- on they are the multiples of it, as far as they go. Assumes nothing.
use mathlib.Core.Path.{◌≡◌, sym, ◌∙◌, ap}
use mathlib.Core.Logic.{⊎_elim}
use mathlib.Core.List.Memᴰ
use mathlib.Core.List.{List, [], ◌∷◌, Memᴰ}
use Prim.Native.Nat.{ℕ, zero, suc, ◌+◌, ◌*◌, ◌-◌, ◌/◌, ◌≤◌, ◌<◌}
use native.Mathlib.Omega.{arith}
use native.Mathlib.Nat.{le-div_iff_mul-le, add-div_right, div-eq_of_lt, div-zero, le_of_mul-le-mul_right}
use Rattle.model.specs.Model.{Rising}
use Rattle.model.specs.Climb.{in_turn, climb, descend, climb_to, descend_to}
use Rattle.model.proofs.Rounding.{split_product}

-- the numbers in turn, where the i-th after t is `place t i`
module _ (next : ℕ → ℕ) (place : ℕ → ℕ → ℕ) (none : (t : ℕ) → place t 0 ≡ t) (more : (t i : ℕ) → place (next t) i ≡ place t (suc i)) where
  turn_in : (t k : ℕ) {u : ℕ} → Memᴰ u (in_turn next t k) → (i : ℕ) × (i < k) × (u ≡ place t i)
  unfolding in_turn
  turn_in t zero m = absurd (Memᴰ.not-nil m)
  turn_in t (suc k) {u} m = ⊎_elim here (λ n. later (turn_in (next t) k n)) (Memᴰ.cases_cons m)
    where
      here : u ≡ t → (i : ℕ) × (i < suc k) × (u ≡ place t i)
      here e = (0, omega arith, e ∙ sym (none t))

      later : (i : ℕ) × (i < k) × (u ≡ place (next t) i) → (i : ℕ) × (i < suc k) × (u ≡ place t i)
      later r = (suc r.0, omega arith, r.2 ∙ more t r.0)

  turn_has : (t k i : ℕ) → i < k → Memᴰ (place t i) (in_turn next t k)
  unfolding in_turn
  turn_has t zero i h = absurd (omega arith)
  turn_has t (suc k) zero h = Memᴰ.head (none t)
  turn_has t (suc k) (suc i) h = Memᴰ.tail (Memᴰ.cast (sym (more t i)) (turn_has (next t) k i (omega arith)))

climbs_in : (step t k : ℕ) {u : ℕ} → Memᴰ u (climb step t k) → (i : ℕ) × (i < k) × (u ≡ t + i * step)
climbs_in step t k m = turn_in (λ u. u + step) (λ u i. u + i * step) (λ u. omega arith) (λ u i. omega arith) t k m

climbs_has : (step t k i : ℕ) → i < k → Memᴰ (t + i * step) (climb step t k)
climbs_has step t k i h = turn_has (λ u. u + step) (λ u i. u + i * step) (λ u. omega arith) (λ u i. omega arith) t k i h

descends_in : (step t k : ℕ) {u : ℕ} → Memᴰ u (descend step t k) → (i : ℕ) × (i < k) × (u ≡ t - i * step)
descends_in step t k m = turn_in (λ u. u - step) (λ u i. u - i * step) (λ u. omega arith) (λ u i. omega arith) t k m

descends_has : (step t k i : ℕ) → i < k → Memᴰ (t - i * step) (descend step t k)
descends_has step t k i h = turn_has (λ u. u - step) (λ u i. u - i * step) (λ u. omega arith) (λ u i. omega arith) t k i h

-- each number is below all that follow it
abbrev pub RisingNumbers : List ℕ → Type 0
RisingNumbers ms = Rising (λ (a b : ℕ). a < b) ms

climbs_rising : (step t k : ℕ) → 1 ≤ step → RisingNumbers (climb step t k)
unfolding in_turn
climbs_rising step t zero h = tt
climbs_rising step t (suc k) h = (λ u m. let r = climbs_in step (t + step) k m in omega arith, climbs_rising step (t + step) k h)

pub climb_rising : (step last t : ℕ) → RisingNumbers (climb_to step last t)
unfolding climb_to in_turn
climb_rising zero last t = rw (div-zero (last + 0 - t)) tt
climb_rising (suc step) last t = climbs_rising (suc step) t ((last + suc step - t) / suc step) (omega arith)

-- none is below the first
pub climb_from : (step last t : ℕ) {u : ℕ} → Memᴰ u (climb_to step last t) → t ≤ u
unfolding climb_to
climb_from step last t m = let r = climbs_in step t _ m in omega arith

-- one number more, or the end
module _ (step : ℕ) (pos : 1 ≤ step) where
  one_more : (left : ℕ) {more : ℕ} → more ≡ left + step → more / step ≡ suc (left / step)
  one_more left e = ap (λ (n : ℕ). n / step) e ∙ add-div_right left pos ∙ omega arith

  pub climb_step : (last t : ℕ) → t ≤ last → climb_to step last t ≡ t ∷ climb_to step last (t + step)
  unfolding climb_to in_turn
  climb_step last t h = ap (climb step t) (one_more (last + step - (t + step)) (omega arith))

  pub climb_end : (last t : ℕ) → last < t → climb_to step last t ≡ []
  unfolding climb_to in_turn
  climb_end last t h =
      let less : last + step - t < step = omega arith in
      ap (climb step t) (div-eq_of_lt less)

  pub descend_step : (first t : ℕ) → step ≤ t → first ≤ t → descend_to step first t ≡ t ∷ descend_to step first (t - step)
  unfolding descend_to in_turn
  descend_step first t room h = ap (descend step t) (one_more (t - step + step - first) (omega arith))

  pub descend_end : (first t : ℕ) → t < first → descend_to step first t ≡ []
  unfolding descend_to in_turn
  descend_end first t h =
      let less : t + step - first < step = omega arith in
      ap (descend step t) (div-eq_of_lt less)

-- a multiple of `step` from `first` to `last`
pub record MultipleIn (step first last u : ℕ) : Type 0 where
  pub times : ℕ
  pub is : u ≡ times * step
  pub from : first ≤ u
  pub to : u ≤ last

-- from a multiple up, and from a multiple down
module _ (step : ℕ) (pos : 1 ≤ step) {u : ℕ} where
  pub climb_in : (last q : ℕ) → Memᴰ u (climb_to step last (q * step)) → MultipleIn step (q * step) last u
  unfolding climb_to
  climb_in last q m =
      let r = climbs_in step (q * step) _ m in
      let i = r.0 in
      let fits : suc i * step ≤ last + step - q * step = (le-div_iff_mul-le pos).0 r.1 in
      record { times = q + i; is = omega arith; from = omega arith; to = omega arith }

  pub climb_has : (last q : ℕ) → MultipleIn step (q * step) last u → Memᴰ u (climb_to step last (q * step))
  unfolding climb_to
  climb_has last q m =
      let a = m.times in
      let le : q ≤ a = le_of_mul-le-mul_right {k = step} (omega arith) pos in
      let sum : a * step ≡ q * step + (a - q) * step = split_product step le in
      let fits : suc (a - q) * step ≤ last + step - q * step = omega arith in
      Memᴰ.cast (m.is ∙ sum) (climbs_has step (q * step) _ (a - q) ((le-div_iff_mul-le pos).1 fits))

  pub descend_in : (first q : ℕ) → Memᴰ u (descend_to step first (q * step)) → MultipleIn step first (q * step) u
  unfolding descend_to
  descend_in first q m =
      let r = descends_in step (q * step) _ m in
      let i = r.0 in
      let fits : suc i * step ≤ q * step + step - first = (le-div_iff_mul-le pos).0 r.1 in
      let le : i ≤ q = le_of_mul-le-mul_right {k = step} (omega arith) pos in
      let sum : q * step ≡ i * step + (q - i) * step = split_product step le in
      record { times = q - i; is = omega arith; from = omega arith; to = omega arith }

  pub descend_has : (first q : ℕ) → MultipleIn step first (q * step) u → Memᴰ u (descend_to step first (q * step))
  unfolding descend_to
  descend_has first q m =
      let a = m.times in
      let le : a ≤ q = le_of_mul-le-mul_right {k = step} (omega arith) pos in
      let sum : q * step ≡ a * step + (q - a) * step = split_product step le in
      let fits : suc (q - a) * step ≤ q * step + step - first = omega arith in
      let less : u ≡ q * step - (q - a) * step = omega arith in
      Memᴰ.cast less (descends_has step (q * step) _ (q - a) ((le-div_iff_mul-le pos).1 fits))
