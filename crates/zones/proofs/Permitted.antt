-- Zones and permitted periods: the periods of a permitted list, each over the first, are a zone's multipliers, and they say which zone.
-- Assumes nothing.
use mathlib.Core.Path.{◌≡◌, refl, sym, ◌∙◌, ap, ap₂, subst}
use mathlib.Core.Logic.{◌↔◌}
use mathlib.Core.List.{List, [], ◌∷◌, Memᴰ, head-eq_of_cons-eq}
use Prim.Native.Nat.{ℕ, ◌+◌, ◌*◌, ◌-◌, ◌≤◌}
use native.Mathlib.Omega.{arith}
use native.Mathlib.Nat.{le_refl, one-mul, suc-ne-zero}
use lib.ListN.{length}
use Rattle.model.specs.declared.Seconds.{Seconds}
use Rattle.model.specs.declared.Job.{Job}
use Rattle.model.specs.Model.{seconds, PermittedAfter, Permitted}
use Rattle.model.specs.Valid.{ValidJobs}
use Rattle.zone_walk.specs.Zone.{Zone}
use Rattle.zones.specs.Zones.{periods_for, IsZone}
use Rattle.zones.specs.Multipliers.{InIntervals}
use Rattle.zones.specs.Lies.{LiesIn}
use Rattle.zone_walk.specs.Listing.{zones_for}
use Rattle.zones.proofs.Multipliers.{divided, same_multipliers, zone_by_multipliers}
use Rattle.zones.proofs.Listing.{same_zone, front, zones_have, listing_is}

-- Every zone holds a permitted list, the one at its least first period.
pub zone_permits : (js : List Job) {z : Zone} → IsZone js z → (ts : List Seconds) × Permitted js ts × LiesIn ts z
zone_permits js {z} a =
    let t = z.least.0 in
    (periods_for z.multipliers t, (a.range t).0 (le_refl _, a.some), record { first = t; inside = (le_refl _, a.some); periods = refl })

-- Every permitted list lies in a zone of the list ..
pub permitted_lies : (js : List Job) (ts : List Seconds) → ValidJobs js → 1 ≤ length js → Permitted js ts → (z : Zone) × Memᴰ z (zones_for js) × LiesIn ts z
permitted_lies [] ts v h p = absurd (omega arith)
permitted_lies (j ∷ js) [] v h p = absurd p
permitted_lies (j ∷ js) (u ∷ ts) v h p =
    let t = u.0 in
    let pos : 1 ≤ t = omega arith in
    let r = divided js ts 1 t v.1 pos (subst (λ (x : ℕ). PermittedAfter (seconds x) js ts) (sym (one-mul t)) p.1) in
    let here : InIntervals (j ∷ js) (1 ∷ r.0) t = (omega arith, omega arith, r.2) in
    let z = zones_have (j ∷ js) v r.0 t r.1 here in
    let a = (listing_is (j ∷ js) h v).only z.0 z.1 in
    let e : u ∷ ts ≡ periods_for z.0.multipliers t = rw z.2 (ap₂ ◌∷◌ (ap seconds (sym (one-mul t))) r.3) in
    (z.0, z.1, record { first = t; inside = (a.range t).1 (subst (Permitted (j ∷ js)) e p); periods = e })

-- .. and in no other zone.
pub lies_in_one : (js : List Job) (ts : List Seconds) {y z : Zone} → 1 ≤ length js → ValidJobs js → IsZone js y → IsZone js z → LiesIn ts y → LiesIn ts z → y ≡ z
lies_in_one [] ts h v a b k l = absurd (omega arith)
lies_in_one (j ∷ js) ts {y} {z} h v a b k l =
    let c = (zone_by_multipliers (j ∷ js) v).0 a in
    let f = front (j ∷ js) y h c in
    let g = front (j ∷ js) z h ((zone_by_multipliers (j ∷ js) v).0 b) in
    let by-y : periods_for (1 ∷ f.0) k.first ≡ ts = ap (λ (ms : List ℕ). periods_for ms k.first) (sym f.1) ∙ sym k.periods in
    let by-z : ts ≡ periods_for (1 ∷ g.0) l.first = l.periods ∙ ap (λ (ms : List ℕ). periods_for ms l.first) g.1 in
    let e : periods_for (1 ∷ f.0) k.first ≡ periods_for (1 ∷ g.0) l.first = by-y ∙ by-z in
    let t : k.first ≡ l.first = (let d : 1 * k.first ≡ 1 * l.first = ap (λ (s : Seconds). s.0) (head-eq_of_cons-eq e) in omega arith) in
    let i : InIntervals (j ∷ js) (1 ∷ f.0) k.first = rw f.1 at ((c.range k.first).0 k.inside) in
    let pos : 1 ≤ k.first = omega arith in
    same_zone (j ∷ js) a b (f.1 ∙ same_multipliers (1 ∷ f.0) (1 ∷ g.0) k.first pos (e ∙ ap (periods_for (1 ∷ g.0)) (sym t)) ∙ sym g.1)

-- A zone's range is whole: one less and one more put some job outside its interval.
pub range_whole : (js : List Job) {z : Zone} → ValidJobs js → IsZone js z
    → (1 ≤ z.least.0 → InIntervals js z.multipliers (z.least.0 - 1) → ⊥) × (InIntervals js z.multipliers (z.greatest.0 + 1) → ⊥)
range_whole js {z} v a =
    let b = (zone_by_multipliers js v).0 a in
    (λ h i. less h ((b.range (z.least.0 - 1)).1 i).0, λ i. more ((b.range (z.greatest.0 + 1)).1 i).1)
  where
    less : 1 ≤ z.least.0 → z.least.0 ≤ z.least.0 - 1 → ⊥
    less h k = omega arith

    more : z.greatest.0 + 1 ≤ z.greatest.0 → ⊥
    more k = omega arith

-- There are no zones exactly when nothing is permitted (9).
pub none_permitted : (js : List Job) → 1 ≤ length js → ValidJobs js → (length (zones_for js) ≡ 0) ↔ ((ts : List Seconds) → Permitted js ts → ⊥)
none_permitted js h v = (λ e ts p. let r = permitted_lies js ts v h p in no_member (zones_for js) e r.1, λ never. go never (zones_for js) refl)
  where
    no_member : (zs : List Zone) {z : Zone} → length zs ≡ 0 → Memᴰ z zs → ⊥
    no_member [] e m = mathlib.Core.List.Memᴰ.not-nil m
    no_member (z ∷ zs) e m = suc-ne-zero _ e

    go : ((ts : List Seconds) → Permitted js ts → ⊥) → (zs : List Zone) → zones_for js ≡ zs → length (zones_for js) ≡ 0
    go never [] e = ap length e
    go never (z ∷ zs) e =
        let i : Memᴰ z (zones_for js) = rw e (mathlib.Core.List.Memᴰ.head refl) in
        let r = zone_permits js ((listing_is js h v).only z i) in
        absurd (never r.0 r.1)
