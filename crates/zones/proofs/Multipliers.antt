-- A zone by permitted periods is a zone by multipliers: multipliers in their intervals give permitted periods, and permitted periods,
-- each over the first, are such multipliers.
-- Assumes nothing.
use mathlib.Core.Path.{◌≡◌, refl, sym, ◌∙◌, ap, ap₂, subst}
use mathlib.Core.Logic.{◌↔◌}
use mathlib.Core.List.{List, [], ◌∷◌, head-eq_of_cons-eq, tail-eq_of_cons-eq}
use Prim.Native.Nat.{ℕ, zero, suc, ◌*◌, ◌/◌, ◌≤◌}
use native.Mathlib.Omega.{arith}
use native.Mathlib.Nat.{le_refl, mul_assoc, mul-mod_left, mul-div_cancel, mod-one, suc-ne-zero}
use lib.ListN.{length, get_or}
use Rattle.model.specs.declared.Seconds.{Seconds}
use Rattle.model.specs.declared.Job.{Job}
use Rattle.model.specs.Model.{seconds, PermittedAfter, Permitted}
use Rattle.model.specs.Valid.{ValidJobs}
use Rattle.model.proofs.Rounding.{multiple_is}
use Rattle.zone_walk.specs.Zone.{Zone}
use Rattle.zones.specs.Zones.{periods_for, IsZone}
use Rattle.zones.specs.Multipliers.{MultiplesAfter, InIntervals, ByMultipliers}

pub as_many : (js : List Job) (more : List ℕ) (t : ℕ) → InIntervals js more t → length more ≡ length js
as_many [] [] t h = refl
as_many [] (a ∷ more) t h = absurd h
as_many (j ∷ js) [] t h = absurd h
as_many (j ∷ js) (a ∷ more) t h = ap suc (as_many js more t h.2)

-- multipliers in their intervals give permitted periods
multiplied : (js : List Job) (ms : List ℕ) (a t : ℕ) → MultiplesAfter a ms → InIntervals js ms t → PermittedAfter (seconds (a * t)) js (periods_for ms t)
multiplied [] [] a t c h = tt
multiplied [] (m ∷ ms) a t c h = absurd h
multiplied (j ∷ js) [] a t c h = absurd h
multiplied (j ∷ js) (m ∷ ms) a t c h =
    let is : m * t ≡ m / a * (a * t) = ap (λ (x : ℕ). x * t) (multiple_is m a c.1) ∙ mul_assoc (m / a) a t in
    (record { above = h.0; below = h.1; multiple = rw is (mul-mod_left (m / a) (a * t)) }, multiplied js ms m t c.2 h.2)

permits : (js : List Job) (ms : List ℕ) (t : ℕ) → MultiplesAfter 1 ms → InIntervals js ms t → Permitted js (periods_for ms t)
permits [] [] t c h = tt
permits [] (m ∷ ms) t c h = absurd h
permits (j ∷ js) [] t c h = absurd h
permits (j ∷ js) (m ∷ ms) t c h = (record { above = h.0; below = h.1; multiple = mod-one (m * t) }, multiplied js ms m t c.2 h.2)

-- permitted periods are in their intervals
in_intervals : (js : List Job) (ms : List ℕ) (before : Seconds) (t : ℕ) → PermittedAfter before js (periods_for ms t) → InIntervals js ms t
in_intervals [] [] before t p = tt
in_intervals [] (m ∷ ms) before t p = absurd p
in_intervals (j ∷ js) [] before t p = absurd p
in_intervals (j ∷ js) (m ∷ ms) before t p = (p.0.above, p.0.below, in_intervals js ms (seconds (m * t)) t p.1)

-- permitted periods after a * t are multipliers times t
pub divided : (js : List Job) (ts : List Seconds) (a t : ℕ) → ValidJobs js → 1 ≤ t → PermittedAfter (seconds (a * t)) js ts
    → (ms : List ℕ) × MultiplesAfter a ms × InIntervals js ms t × (ts ≡ periods_for ms t)
divided [] [] a t v pos p = ([], tt, tt, refl)
divided [] (u ∷ ts) a t v pos p = absurd p
divided (j ∷ js) [] a t v pos p = absurd p
divided (j ∷ js) (u ∷ ts) a t v pos p =
    let q = u.0 / (a * t) in
    let is : u.0 ≡ q * a * t = multiple_is u.0 (a * t) p.0.multiple ∙ sym (mul_assoc q a t) in
    let r = divided js ts (q * a) t v.1 pos (subst (λ (x : ℕ). PermittedAfter (seconds x) js ts) is p.1) in
    let some : 1 ≤ q * a = at_least_one (q * a) t (omega arith) in
    (q * a ∷ r.0, (some, mul-mod_left q a, r.1), (omega arith, omega arith, r.2), ap₂ ◌∷◌ (ap seconds is) r.3)
  where
    at_least_one : (m s : ℕ) → 1 ≤ m * s → 1 ≤ m
    at_least_one zero s h = absurd (omega arith)
    at_least_one (suc m) s h = omega arith

-- periods over a first period are the multipliers
pub same_multipliers : (xs ys : List ℕ) (t : ℕ) → 1 ≤ t → periods_for xs t ≡ periods_for ys t → xs ≡ ys
same_multipliers [] [] t pos e = refl
same_multipliers [] (y ∷ ys) t pos e = absurd (suc-ne-zero _ (sym (ap length e)))
same_multipliers (x ∷ xs) [] t pos e = absurd (suc-ne-zero _ (ap length e))
same_multipliers (x ∷ xs) (y ∷ ys) t pos e =
    let d : x * t ≡ y * t = ap (λ (s : Seconds). s.0) (head-eq_of_cons-eq e) in
    ap₂ ◌∷◌ (sym (mul-div_cancel x pos) ∙ ap (λ (n : ℕ). n / t) d ∙ mul-div_cancel y pos) (same_multipliers xs ys t pos (tail-eq_of_cons-eq e))

-- multipliers that give permitted periods once are multiples
multiples_of : (js : List Job) (ms : List ℕ) (t : ℕ) → ValidJobs js → get_or ms 0 0 ≡ 1 → Permitted js (periods_for ms t) → MultiplesAfter 1 ms
multiples_of js [] t v e p = tt
multiples_of [] (m ∷ ms) t v e p = absurd p
multiples_of (j ∷ js) (m ∷ ms) t v e p =
    let q : Permitted (j ∷ js) (periods_for (1 ∷ ms) t) = subst (λ (x : ℕ). Permitted (j ∷ js) (periods_for (x ∷ ms) t)) e p in
    let pos : 1 ≤ t = omega (arith, q.0.above, v.0.lo_from) in
    let d = divided js (periods_for ms t) 1 t v.1 pos q.1 in
    let rest : MultiplesAfter 1 ms = subst (MultiplesAfter 1) (sym (same_multipliers ms d.0 t pos d.3)) d.1 in
    subst (λ (x : ℕ). MultiplesAfter 1 (x ∷ ms)) (sym e) (le_refl 1, mod-one 1, rest)

-- A zone of valid jobs, said with permitted periods, is one said job by job.
pub zone_by_multipliers : (js : List Job) {z : Zone} → ValidJobs js → IsZone js z ↔ ByMultipliers js z
zone_by_multipliers js {z} v = (into, from)
  where
    into : IsZone js z → ByMultipliers js z
    into a =
        let p = (a.range z.least.0).0 (le_refl _, a.some) in
        let c = multiples_of js z.multipliers z.least.0 v a.first p in
        record {
          each = as_many js z.multipliers z.least.0 (in_intervals js z.multipliers (seconds 1) z.least.0 p);
          first = a.first;
          multiples = c;
          range = λ t. (λ r. in_intervals js z.multipliers (seconds 1) t ((a.range t).0 r), λ h. (a.range t).1 (permits js z.multipliers t c h));
          some = a.some;
        }

    from : ByMultipliers js z → IsZone js z
    from b = record {
      first = b.first;
      range = λ t. (λ r. permits js z.multipliers t b.multiples ((b.range t).0 r), λ p. (b.range t).1 (in_intervals js z.multipliers (seconds 1) t p));
      some = b.some;
    }
