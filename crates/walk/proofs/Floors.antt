-- Longer periods lose no less, and a job at a period needs no less than at its longest: so the floors hold for every
-- way to complete a plan.
-- Assumes nothing.
use mathlib.Core.Path.{◌≡◌, ap}
use mathlib.Core.Logic.{⊎_elim}
use mathlib.Core.List.Memᴰ
use mathlib.Core.List.{List, [], ◌∷◌, Memᴰ}
use Prim.Native.Nat.{ℕ, zero, suc, ◌+◌, ◌*◌, ◌-◌, ◌/◌, ◌%◌, ◌≤◌, ◌<◌, max}
use native.Mathlib.Omega.{arith}
use native.Mathlib.Nat.{le_refl, le_trans, add-le-add, mul-le-mul_left, mul-le-mul_right, pow-le-pow_left, div-mul-le_self, le-div_iff_mul-le, le_of_mul-le-mul_right, mod_self}
use Rattle.model.specs.declared.Seconds.{Seconds}
use Rattle.model.specs.declared.Job.{Job}
use Rattle.model.specs.Model.{cost, Allowed, PermittedAfter, last_of, rate, job_loss, loss}
use Rattle.model.specs.Rounding.{round_up}
use Rattle.model.specs.Valid.{ValidJob, ValidJobs}
use Rattle.step.specs.Step.{load, carried, pages_after, need_after}
use Rattle.walk.specs.Walk.{loss_floor, least_needs, need_floor}
use Rattle.model.proofs.Rounding.{round_up_le, round_up_above, multiple_is, multiple_above, split_product}
use Rattle.step.proofs.Fits.{need_at_is}
use Rattle.step.proofs.Pages.{multiple_trans}

pub quotient_falls : (a : ℕ) {t u : ℕ} → 1 ≤ t → t ≤ u → a / u ≤ a / t
quotient_falls a {t} {u} pos h = (le-div_iff_mul-le pos).1 (le_trans (mul-le-mul_left (a / u) h) (div-mul-le_self a u))

-- a longer period loses no less
pub job_loss_mono : (j : Job) {t u : Seconds} → 1 ≤ t.0 → t.0 ≤ u.0 → job_loss j t ≤ job_loss j u
unfolding job_loss rate
job_loss_mono j {t} {u} pos h =
    let r : 3600 * cost j / u.0 ≤ 3600 * cost j / t.0 = quotient_falls (3600 * cost j) pos h in
    let most = 3600 * cost j / j.lo.0 in
    let d : most - 3600 * cost j / t.0 ≤ most - 3600 * cost j / u.0 = omega arith in
    mul-le-mul_left j.stiffness (pow-le-pow_left d 2)

pub loss_floor_mono : (js : List Job) {t u : ℕ} → ValidJobs js → t ≤ u → loss_floor js t ≤ loss_floor js u
unfolding loss_floor
loss_floor_mono [] v h = le_refl 0
loss_floor_mono (j ∷ js) {t} {u} v h =
    let valid = v.0 in
    let wider : max j.lo.0 t ≤ max j.lo.0 u = omega arith in
    let pos : 1 ≤ max j.lo.0 t = omega arith in
    add-le-add (job_loss_mono j pos wider) (loss_floor_mono js v.1 h)

pub loss_floor_lem : (t : Seconds) (js : List Job) (ts : List Seconds) → ValidJobs js → PermittedAfter t js ts → loss_floor js t.0 ≤ loss js ts
unfolding loss_floor loss
loss_floor_lem t [] ts v h = le_refl 0
loss_floor_lem t (j ∷ js) [] v h = absurd h
loss_floor_lem t (j ∷ js) (u ∷ us) v h =
    let valid = v.0 in
    let allowed = h.0 in
    let on : t.0 ≤ u.0 = multiple_above t.0 u.0 (omega arith) allowed.multiple in
    let pos : 1 ≤ max j.lo.0 t.0 = omega arith in
    let here : max j.lo.0 t.0 ≤ u.0 = omega arith in
    add-le-add (job_loss_mono j pos here) (le_trans (loss_floor_mono js v.1 on) (loss_floor_lem u js us v.1 h.1))

-- s pages in t seconds, c more pages in u seconds, which are k times t: u seconds at the rate `most` have room for both
one_more : (s q most k : ℕ) {c t u : ℕ} → 1 ≤ t → 1 ≤ u → u ≡ k * t → q * u ≤ c → s * k + c ≤ most * u → round_up s t + q ≤ most
one_more s q most k {c} {t} {u} pos u-pos is small whole =
    let a : q * u ≡ q * (k * t) = ap (λ (x : ℕ). q * x) is in
    let b : most * u ≡ most * (k * t) = ap (λ (x : ℕ). most * x) is in
    let k-pos : 1 ≤ k = positive k (omega arith) in
    let scaled : (s + q * t) * k ≤ (most * t) * k = omega arith in
    let plain : s + q * t ≤ most * t = le_of_mul-le-mul_right scaled k-pos in
    let q≤ : q ≤ most = le_of_mul-le-mul_right {k = t} (omega arith) pos in
    let apart : most * t ≡ q * t + (most - q) * t = split_product t q≤ in
    let rest : round_up s t ≤ most - q = (round_up_le s (most - q) pos).1 (omega arith) in
    omega arith
  where
    positive : (x : ℕ) → 1 ≤ x * t → 1 ≤ x
    positive zero h = absurd (omega arith)
    positive (suc x) h = omega arith

-- one more job at a permitted period does not lower the floor
pub need_floor_step : (greatest pages : ℕ) (t u : Seconds) (j : Job) (js : List Job) → ValidJob j → 1 ≤ t.0 → Allowed j t u →
    need_floor greatest pages t (j ∷ js) ≤ need_floor (max greatest j.metadata) (carried pages t u (load greatest j)) u js
unfolding need_floor least_needs
need_floor_step g pages t u j js v pos a =
    let k = u.0 / t.0 in
    let more = 3600 * (pages * k + load g j) in
    let u-pos : 1 ≤ u.0 = omega arith in
    let is : u.0 ≡ k * t.0 = multiple_is u.0 t.0 a.multiple in
    let q = 3600 * load g j / j.hi.0 in
    let small : q * u.0 ≤ 3600 * load g j = le_trans (mul-le-mul_left q a.below) (div-mul-le_self (3600 * load g j) j.hi.0) in
    let whole : more ≤ round_up more u.0 * u.0 = round_up_above more u-pos in
    let parts : 3600 * pages * k + 3600 * load g j ≤ round_up more u.0 * u.0 = omega arith in
    let floor = one_more (3600 * pages) q (round_up more u.0) k pos u-pos is small parts in
    omega (arith, floor, need_at_is pages t pos, need_at_is (carried pages t u (load g j)) u u-pos)

pub need_floor_lem : (greatest pages : ℕ) (t : Seconds) (js : List Job) (ts : List Seconds) → ValidJobs js → 1 ≤ t.0 → PermittedAfter t js ts → need_floor greatest pages t js ≤ need_after greatest pages t js ts
unfolding need_floor least_needs need_after pages_after last_of
need_floor_lem g pages t [] [] v pos h = omega arith
need_floor_lem g pages t [] (u ∷ us) v pos h = absurd h
need_floor_lem g pages t (j ∷ js) [] v pos h = absurd h
need_floor_lem g pages t (j ∷ js) (u ∷ us) v pos h =
    let valid = v.0 in
    let allowed = h.0 in
    le_trans (need_floor_step g pages t u j js valid pos allowed) (need_floor_lem (max g j.metadata) (carried pages t u (load g j)) u js us v.1 (omega arith) h.1)

-- every interval holds a multiple of whatever divides the period before
reached : (before : Seconds) (d : ℕ) {j : Job} (js : List Job) (ts : List Seconds) → 1 ≤ d → before.0 % d ≡ 0 → Memᴰ j js → PermittedAfter before js ts → j.lo.0 ≤ j.hi.0 / d * d
reached before d [] ts pos e m h = absurd (Memᴰ.not-nil m)
reached before d (i ∷ js) [] pos e m h = absurd h
reached before d {j} (i ∷ js) (t ∷ ts) pos e m h = ⊎_elim here (λ n. reached t d js ts pos onward n h.1) (Memᴰ.cases_cons m)
  where
    onward : t.0 % d ≡ 0
    onward = multiple_trans _ _ _ e h.0.multiple

    at : i.lo.0 ≤ i.hi.0 / d * d
    at =
        let is : t.0 ≡ t.0 / d * d = multiple_is t.0 d onward in
        let q : t.0 / d ≤ i.hi.0 / d = (le-div_iff_mul-le pos).1 (rw (← is) h.0.below) in
        let w : t.0 / d * d ≤ i.hi.0 / d * d = mul-le-mul_right d q in
        let from = h.0.above in
        omega arith

    here : j ≡ i → j.lo.0 ≤ j.hi.0 / d * d
    here e = rw e at

-- an interval of a later job that holds no multiple of this period: nothing is permitted
pub out_of_reach : (t : Seconds) {j : Job} (js : List Job) (ts : List Seconds) → 1 ≤ t.0 → Memᴰ j js → j.hi.0 / t.0 * t.0 < j.lo.0 → PermittedAfter t js ts → ⊥
out_of_reach t js ts pos m far h = let r = reached t t.0 js ts pos (mod_self t.0) m h in omega arith
