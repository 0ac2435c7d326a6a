-- The multiples of a period in an interval are the periods allowed there; so the chains are the permitted lists, and
-- rising multiples make them sorted.
-- Assumes nothing.
use mathlib.Core.Path.{◌≡◌, refl, sym, ap, subst}
use mathlib.Core.List.Memᴰ
use mathlib.Core.List.{List, [], ◌∷◌, map, Memᴰ}
use Prim.Native.Nat.{◌+◌, ◌*◌, ◌/◌, ◌≤◌, ◌<◌}
use native.Mathlib.Omega.{arith}
use native.Mathlib.Nat.{le_trans, le-div_iff_mul-le, div-mul-le_self, mul-le-mul_right, mul-mod_left}
use Rattle.model.specs.declared.Seconds.{Seconds}
use Rattle.model.specs.declared.Job.{Job}
use Rattle.model.specs.Model.{seconds, Allowed, PermittedAfter}
use Rattle.model.specs.Rounding.{round_up}
use Rattle.model.specs.Climb.{climb_to}
use Rattle.model.specs.Valid.{ValidJobs}
use Rattle.model.proofs.Climb.{MultipleIn, climb_step, climb_end, climb_from, climb_rising, climb_in, climb_has}
use Rattle.model.proofs.Lists.{in_flat, flat_has, rising_map}
use Rattle.walk.specs.Chains.{first_try, last_try, rising_from, multiples, chains_by, chains}
use Rattle.model.proofs.Rounding.{round_up_le, round_up_above, multiple_is}
use Rattle.walk.specs.Laws.{RisingPeriods, Sorted, ListsAllowed}
use Rattle.walk.proofs.Sorted.{sorted_flat}

-- the loop over multiples: one more step, or the end
module _ (before last t : Seconds) (pos : 1 ≤ before.0) where
  pub rising_step : t.0 ≤ last.0 → rising_from before last t ≡ t ∷ rising_from before last (seconds (t.0 + before.0))
  unfolding rising_from
  rising_step h = ap (map seconds) (climb_step before.0 pos last.0 t.0 h)

  pub rising_end : last.0 < t.0 → rising_from before last t ≡ []
  unfolding rising_from
  rising_end h = ap (map seconds) (climb_end before.0 pos last.0 t.0 h)

-- what is still to come is no smaller
pub rising_from_lem : (before last t : Seconds) {u : Seconds} → Memᴰ u (rising_from before last t) → t.0 ≤ u.0
unfolding rising_from
rising_from_lem before last t m =
    let r = Memᴰ.of_map seconds (climb_to before.0 last.0 t.0) m in
    subst (λ (u : Seconds). t.0 ≤ u.0) r.2 (climb_from before.0 last.0 t.0 r.1)

-- the multiples from the first to the last period that may be tried are those that are allowed
pub tries_only : {before : Seconds} {j : Job} {t : Seconds} → 1 ≤ before.0 → MultipleIn before.0 (first_try before j).0 (last_try before j).0 t.0 → Allowed j before t
tries_only {before} {j} pos m =
    let from : j.lo.0 ≤ (first_try before j).0 = round_up_above j.lo.0 pos in
    let to : (last_try before j).0 ≤ j.hi.0 = div-mul-le_self j.hi.0 before.0 in
    record { above = le_trans from m.from; below = le_trans m.to to; multiple = rw (m.is, mul-mod_left) }

pub tries_all : {before : Seconds} {j : Job} {t : Seconds} → 1 ≤ before.0 → Allowed j before t → MultipleIn before.0 (first_try before j).0 (last_try before j).0 t.0
tries_all {before} {j} {t} pos a =
    let p = before.0 in
    let y = t.0 / p in
    let is : t.0 ≡ y * p = multiple_is t.0 p a.multiple in
    let least : round_up j.lo.0 p ≤ y = (round_up_le j.lo.0 y pos).1 (rw (← is) a.above) in
    let most : y ≤ j.hi.0 / p = (le-div_iff_mul-le pos).1 (rw (← is) a.below) in
    let from : (first_try before j).0 ≤ y * p = mul-le-mul_right p least in
    let to : y * p ≤ (last_try before j).0 = mul-le-mul_right p most in
    record { times = y; is = is; from = omega arith; to = omega arith }

multiples_only : {before : Seconds} {j : Job} {t : Seconds} → 1 ≤ before.0 → Memᴰ t (multiples before j) → Allowed j before t
unfolding multiples rising_from
multiples_only {before} {j} pos m =
    let r = Memᴰ.of_map seconds (climb_to before.0 (last_try before j).0 (first_try before j).0) m in
    subst (Allowed j before) r.2 (tries_only pos (climb_in before.0 pos (last_try before j).0 (round_up j.lo.0 before.0) r.1))

multiples_all : {before : Seconds} {j : Job} {t : Seconds} → 1 ≤ before.0 → Allowed j before t → Memᴰ t (multiples before j)
unfolding multiples rising_from
multiples_all {before} {j} pos a = Memᴰ.map seconds (climb_has before.0 pos (last_try before j).0 (round_up j.lo.0 before.0) (tries_all pos a))

pub multiples_lists : ListsAllowed multiples
multiples_lists = record { only = multiples_only; all = multiples_all }

module _ {periods : Seconds → Job → List Seconds} (law : ListsAllowed periods) where
  -- every chain is permitted
  pub chains_only : {before : Seconds} (js : List Job) (ts : List Seconds) → ValidJobs js → 1 ≤ before.0 → Memᴰ ts (chains_by periods before js) → PermittedAfter before js ts
  unfolding chains_by
  chains_only {before} [] ts v pos m = subst (λ (l : List Seconds). PermittedAfter before [] l) (sym (Memᴰ.eq_of_singleton m)) tt
  chains_only {before} (j ∷ js) ts v pos m =
      let r = in_flat (λ (u : Seconds). map (λ us. u ∷ us) (chains_by periods u js)) (periods before j) m in
      let t = r.0 in
      let b = Memᴰ.of_map (λ (us : List Seconds). t ∷ us) (chains_by periods t js) r.2 in
      let a : Allowed j before t = law.only pos r.1 in
      let next : 1 ≤ t.0 = omega arith in
      subst (λ (l : List Seconds). PermittedAfter before (j ∷ js) l) b.2 (a, chains_only {before = t} js b.0 v.1 next b.1)

  -- every permitted list is a chain
  pub chains_all : {before : Seconds} (js : List Job) (ts : List Seconds) → ValidJobs js → 1 ≤ before.0 → PermittedAfter before js ts → Memᴰ ts (chains_by periods before js)
  unfolding chains_by
  chains_all [] [] v pos h = Memᴰ.head refl
  chains_all [] (t ∷ ts) v pos h = absurd h
  chains_all (j ∷ js) [] v pos h = absurd h
  chains_all {before} (j ∷ js) (t ∷ ts) v pos h =
      let next : 1 ≤ t.0 = omega arith in
      flat_has (λ (u : Seconds). map (λ us. u ∷ us) (chains_by periods u js)) (periods before j) (law.all pos h.0) (Memᴰ.map (λ (us : List Seconds). t ∷ us) (chains_all {before = t} js ts v.1 next h.1))

pub multiples_rising : (before : Seconds) (j : Job) → RisingPeriods (multiples before j)
unfolding multiples rising_from
multiples_rising before j =
    let rising = climb_rising before.0 (last_try before j).0 (first_try before j).0 in
    rising_map (λ (t u : Seconds). t.0 < u.0) seconds (λ t u less. less) (climb_to before.0 (last_try before j).0 (first_try before j).0) rising

-- the chains stand in lexicographic order, each once
pub chains_sorted : (before : Seconds) (js : List Job) → Sorted (chains before js)
unfolding chains_by
chains_sorted before [] = (λ y m. absurd (Memᴰ.not-nil m), tt)
chains_sorted before (j ∷ js) = sorted_flat (λ t. chains t js) (λ t. chains_sorted t js) (multiples before j) (multiples_rising before j)
