-- The listing holds the zones of valid jobs and no others, rising: at each job it goes through the multipliers that some first period of the range allows.
-- Assumes nothing.
use mathlib.Core.Path.{◌≡◌, refl, sym, ◌∙◌, ap, subst}
use mathlib.Core.Logic.{◌↔◌}
use mathlib.Core.Bool.{Bool, true, false}
use mathlib.Core.List.{List, [], ◌∷◌, ◌++◌, map, flat_map, append-nil}
use mathlib.Core.List.{Memᴰ}
use Prim.Native.Nat.{ℕ, suc, ◌*◌, ◌/◌, ◌%◌, ◌≤◌}
use native.Mathlib.Omega.{arith}
use native.Mathlib.Nat.{le_refl, le_trans, le-div_iff_mul-le, mul-mod_left, mod-one, div-add-mod', mul-pos, mul_assoc, mul-le-mul_left, mul-le-mul_right}
use lib.ListN.{length, get_or}
use lib.Seq.{append_snoc}
use lib.Dec.{ltb}
use borrow.Author.Tests.{le-ltb, ltb-false}
use Rattle.model.specs.declared.Job.{Job}
use Rattle.model.specs.Model.{seconds, Permitted}
use Rattle.model.specs.Rounding.{round_up}
use Rattle.model.specs.Climb.{climb_to}
use Rattle.model.specs.Valid.{ValidJobs}
use Rattle.model.proofs.Climb.{RisingNumbers, climb_rising, climb_in, climb_has}
use Rattle.model.proofs.Rounding.{round_up_le, round_up_some}
use Rattle.model.proofs.Lists.{in_flat, flat_has, rising_append}
use Rattle.zone_range.specs.declared.Interval.{Interval}
use Rattle.zone_walk.specs.Zone.{Zone}
use Rattle.zones.specs.Zones.{periods_for, IsZone, Before, ZonesOf}
use Rattle.zones.specs.Multipliers.{MultiplesAfter, InIntervals, ByMultipliers}
use Rattle.zone_walk.specs.Listing.{interval_of, first_multiplier, least_for, greatest_for, unless_empty, zones_below, zones_in, zones_for}
use Rattle.zones.specs.Lies.{InRange, ZonesRise}
use Rattle.zones.proofs.Multipliers.{as_many, zone_by_multipliers}
use Rattle.zones.proofs.Ranges.{narrowed, narrows, in_nonempty, in_open}
use Rattle.zones.proofs.Rising.{before_after}

-- a zone that begins with `chosen` and has its range within least .. greatest
pub record Below (js : List Job) (chosen : List ℕ) (least greatest a : ℕ) (z : Zone) : Type 0 where
  pub more : List ℕ
  pub multipliers : z.multipliers ≡ chosen ++ more
  pub multiples : MultiplesAfter a more
  pub range : (t : ℕ) → InRange z t ↔ ((least ≤ t) × (t ≤ greatest) × InIntervals js more t)
  pub some : z.least.0 ≤ z.greatest.0

-- the zones for one multiplier of the next job
abbrev under : List Interval → Interval → List ℕ → ℕ → ℕ → ℕ → List Zone
under ss s chosen least greatest m =
    let l = least_for s least m in
    let g = greatest_for s greatest m in
    unless_empty (ltb g l) (zones_below ss (chosen ++ (m ∷ [])) l g m)

here : (chosen : List ℕ) (least greatest a : ℕ) → least ≤ greatest
    → Below [] chosen least greatest a (record { least = seconds least; greatest = seconds greatest; multipliers = chosen })
here chosen least greatest a h = record {
  more = [];
  multipliers = sym (append-nil chosen);
  multiples = tt;
  range = λ t. (λ r. (r.0, r.1, tt), λ r. (r.0, r.1));
  some = h;
}

-- a zone of the jobs after this one is a zone of this one too
onward : (j : Job) (js : List Job) (chosen : List ℕ) (least greatest a m : ℕ) (z : Zone) → 1 ≤ m → m % a ≡ 0
    → Below js (chosen ++ (m ∷ [])) (least_for (interval_of j) least m) (greatest_for (interval_of j) greatest m) m z → Below (j ∷ js) chosen least greatest a z
onward j js chosen least greatest a m z pos e b = record {
  more = m ∷ b.more;
  multipliers = b.multipliers ∙ append_snoc chosen m b.more;
  multiples = (pos, e, b.multiples);
  range = λ t. (into t, from t);
  some = b.some;
}
  where
    into : (t : ℕ) → InRange z t → (least ≤ t) × (t ≤ greatest) × InIntervals (j ∷ js) (m ∷ b.more) t
    into t r =
        let k = (b.range t).0 r in
        let n = narrowed (interval_of j) least greatest m t pos k.0 k.1 in
        (n.from, n.to, (n.above, n.below, k.2))

    from : (t : ℕ) → (least ≤ t) × (t ≤ greatest) × InIntervals (j ∷ js) (m ∷ b.more) t → InRange z t
    from t r =
        let n = narrows (interval_of j) least greatest m t pos (record { from = r.0; to = r.1; above = r.2.0; below = r.2.1 }) in
        (b.range t).1 (n.0, n.1, r.2.2)

pub below_only : (js : List Job) (chosen : List ℕ) (least greatest a : ℕ) {z : Zone} → ValidJobs js → 1 ≤ least → least ≤ greatest → 1 ≤ a
    → Memᴰ z (zones_below (map interval_of js) chosen least greatest a) → Below js chosen least greatest a z
unfolding zones_below
below_only [] chosen least greatest a v l g pos i = subst (Below [] chosen least greatest a) (sym (mathlib.Core.List.Memᴰ.eq_of_singleton i)) (here chosen least greatest a g)
below_only (j ∷ js) chosen least greatest a {z} v l g pos i =
    let s = interval_of j in
    let r = in_flat (under (map interval_of js) s chosen least greatest) (climb_to a (s.hi.0 / least) (first_multiplier s greatest a)) i in
    let m = r.0 in
    let q = round_up j.lo.0 (a * greatest) in
    let u = climb_in a pos (s.hi.0 / least) q r.1 in
    let k = in_nonempty (ltb (greatest_for s greatest m) (least_for s least m)) r.2 in
    let some : 1 ≤ q = round_up_some v.0.lo_from (mul-pos pos (omega arith)) in
    let pos-m : 1 ≤ m = le_trans (mul-pos some pos) u.from in
    let step : m % a ≡ 0 = rw u.is (mul-mod_left u.times a) in
    let l' = least_for s least m in
    let g' = greatest_for s greatest m in
    onward j js chosen least greatest a m z pos-m step (below_only js (chosen ++ (m ∷ [])) l' g' m v.1 (omega arith) (ltb-false _ _ k.0) pos-m k.1)

-- a multiplier that some first period of the range allows is among those tried
multiplier_listed : (s : Interval) (least greatest a m t : ℕ) → 1 ≤ least → 1 ≤ a → m % a ≡ 0
    → least ≤ t → t ≤ greatest → s.lo.0 ≤ m * t → m * t ≤ s.hi.0
    → Memᴰ m (climb_to a (s.hi.0 / least) (first_multiplier s greatest a))
multiplier_listed s least greatest a m t l pos e from to above below =
    let q = round_up s.lo.0 (a * greatest) in
    let k = m / a in
    let is : m ≡ k * a = (let d = div-add-mod' m a in omega arith) in
    let up : m * t ≤ m * greatest = mul-le-mul_left m to in
    let down : m * least ≤ m * t = mul-le-mul_left m from in
    let group : m * greatest ≡ k * (a * greatest) = ap (λ (x : ℕ). x * greatest) is ∙ mul_assoc k a greatest in
    let first : q ≤ k = (round_up_le s.lo.0 k (mul-pos {n = greatest} pos (omega arith))).1 (omega arith) in
    let last : m ≤ s.hi.0 / least = (le-div_iff_mul-le l).1 (omega arith) in
    let from_first : q * a ≤ k * a = mul-le-mul_right a first in
    climb_has a pos (s.hi.0 / least) q (record { times = k; is = is; from = omega arith; to = last })

-- every list of multipliers that some first period of the range allows is there
pub below_all : (js : List Job) (chosen more : List ℕ) (least greatest a t : ℕ) → ValidJobs js → 1 ≤ least → 1 ≤ a → MultiplesAfter a more
    → least ≤ t → t ≤ greatest → InIntervals js more t
    → (z : Zone) × Memᴰ z (zones_below (map interval_of js) chosen least greatest a) × (z.multipliers ≡ chosen ++ more)
unfolding zones_below
below_all [] chosen [] least greatest a t v l pos c from to h = (_, mathlib.Core.List.Memᴰ.head refl, sym (append-nil chosen))
below_all [] chosen (m ∷ more) least greatest a t v l pos c from to h = absurd h
below_all (j ∷ js) chosen [] least greatest a t v l pos c from to h = absurd h
below_all (j ∷ js) chosen (m ∷ more) least greatest a t v l pos c from to h =
    let s = interval_of j in
    let n = narrows s least greatest m t c.0 (record { from = from; to = to; above = h.0; below = h.1 }) in
    let r = below_all js (chosen ++ (m ∷ [])) more (least_for s least m) (greatest_for s greatest m) m t v.1 (omega arith) c.0 c.2 n.0 n.1 h.2 in
    let some : ltb (greatest_for s greatest m) (least_for s least m) ≡ false = le-ltb _ _ (le_trans n.0 n.1) in
    let i : Memᴰ r.0 (under (map interval_of js) s chosen least greatest m) = in_open (ltb (greatest_for s greatest m) (least_for s least m)) some r.1 in
    let tried = climb_to a (s.hi.0 / least) (first_multiplier s greatest a) in
    let among : Memᴰ m tried = multiplier_listed s least greatest a m t l pos c.1 from to h.0 h.1 in
    (r.0, flat_has (under (map interval_of js) s chosen least greatest) tried among i, r.2 ∙ append_snoc chosen m more)

starts : (ss : List Interval) (chosen : List ℕ) (least greatest a : ℕ) {z : Zone} → Memᴰ z (zones_below ss chosen least greatest a)
    → (more : List ℕ) × (z.multipliers ≡ chosen ++ more)
unfolding zones_below
starts [] chosen least greatest a i = ([], ap (λ (z : Zone). z.multipliers) (mathlib.Core.List.Memᴰ.eq_of_singleton i) ∙ sym (append-nil chosen))
starts (s ∷ ss) chosen least greatest a i =
    let r = in_flat (under ss s chosen least greatest) (climb_to a (s.hi.0 / least) (first_multiplier s greatest a)) i in
    let m = r.0 in
    let l = least_for s least m in
    let g = greatest_for s greatest m in
    let b = starts ss (chosen ++ (m ∷ [])) l g m (in_nonempty (ltb g l) r.2).1 in
    (m ∷ b.0, b.1 ∙ append_snoc chosen m b.0)

under_starts : (ss : List Interval) (s : Interval) (chosen : List ℕ) (least greatest m : ℕ) {z : Zone} → Memᴰ z (under ss s chosen least greatest m)
    → (more : List ℕ) × (z.multipliers ≡ chosen ++ m ∷ more)
under_starts ss s chosen least greatest m i =
    let l = least_for s least m in
    let g = greatest_for s greatest m in
    let b = starts ss (chosen ++ (m ∷ [])) l g m (in_nonempty (ltb g l) i).1 in
    (b.0, b.1 ∙ append_snoc chosen m b.0)

-- parts for rising multipliers, each part rising, make a rising list
rising_parts : (ss : List Interval) (s : Interval) (chosen : List ℕ) (least greatest : ℕ) → ((m : ℕ) → ZonesRise (under ss s chosen least greatest m))
    → (ms : List ℕ) → RisingNumbers ms → ZonesRise (flat_map (under ss s chosen least greatest) ms)
unfolding flat_map
rising_parts ss s chosen least greatest each [] h = tt
rising_parts ss s chosen least greatest each (m ∷ ms) h =
    rising_append _ (under ss s chosen least greatest m) _ (each m) (rising_parts ss s chosen least greatest each ms h.1) across
  where
    across : (y z : Zone) → Memᴰ y (under ss s chosen least greatest m) → Memᴰ z (flat_map (under ss s chosen least greatest) ms)
        → Before y.multipliers z.multipliers
    across y z i k =
        let r = in_flat (under ss s chosen least greatest) ms k in
        let a = under_starts ss s chosen least greatest m i in
        let b = under_starts ss s chosen least greatest r.0 r.2 in
        rw (a.1, b.1) (before_after chosen a.0 b.0 (h.0 r.0 r.1))

rising_open : (empty : Bool) (zs : List Zone) → ZonesRise zs → ZonesRise (unless_empty empty zs)
unfolding unless_empty
rising_open true zs h = tt
rising_open false zs h = h

below_rising : (ss : List Interval) (chosen : List ℕ) (least greatest a : ℕ) → ZonesRise (zones_below ss chosen least greatest a)
unfolding zones_below
below_rising [] chosen least greatest a = (λ y i. absurd (mathlib.Core.List.Memᴰ.not-nil i), tt)
below_rising (s ∷ ss) chosen least greatest a =
    rising_parts ss s chosen least greatest (λ m. rising_open (ltb (greatest_for s greatest m) (least_for s least m)) _ (below_rising ss (chosen ++ (m ∷ [])) (least_for s least m) (greatest_for s greatest m) m))
    (climb_to a (s.hi.0 / least) (first_multiplier s greatest a)) (climb_rising a (s.hi.0 / least) (first_multiplier s greatest a))

-- two zones of the same jobs with the same multipliers are one
pub same_zone : (js : List Job) {y z : Zone} → IsZone js y → IsZone js z → y.multipliers ≡ z.multipliers → y ≡ z
same_zone js {y} {z} a b e =
    let l : y.least.0 ≡ z.least.0 = omega (arith, (into y z a b e y.least.0 (le_refl _) a.some).0, (into z y b a (sym e) z.least.0 (le_refl _) b.some).0) in
    let g : y.greatest.0 ≡ z.greatest.0 = omega (arith, (into y z a b e y.greatest.0 a.some (le_refl _)).1, (into z y b a (sym e) z.greatest.0 b.some (le_refl _)).1) in
    λ i. record { least = seconds (l i); greatest = seconds (g i); multipliers = e i }
  where
    into : (u w : Zone) → IsZone js u → IsZone js w → u.multipliers ≡ w.multipliers → (t : ℕ) → u.least.0 ≤ t → t ≤ u.greatest.0 → InRange w t
    into u w k h d t from to = (h.range t).1 (subst (λ (ms : List ℕ). Permitted js (periods_for ms t)) d ((k.range t).0 (from, to)))

-- the first job's multiplier is 1
whole : (j : Job) (js : List Job) (z : Zone) → Below js (1 ∷ []) j.lo.0 j.hi.0 1 z → ByMultipliers (j ∷ js) z
whole j js z b = record {
  each = ap length b.multipliers ∙ ap suc (as_many js b.more z.least.0 ((b.range z.least.0).0 (le_refl _, b.some)).2);
  first = ap (λ (ms : List ℕ). get_or ms 0 0) b.multipliers;
  multiples = rw b.multipliers (le_refl 1, mod-one 1, b.multiples);
  range = λ t. (into t, from t);
  some = b.some;
}
  where
    into : (t : ℕ) → InRange z t → InIntervals (j ∷ js) z.multipliers t
    into t r = let k = (b.range t).0 r in rw b.multipliers (omega arith, omega arith, k.2)

    from : (t : ℕ) → InIntervals (j ∷ js) z.multipliers t → InRange z t
    from t r =
        let k : InIntervals (j ∷ js) (1 ∷ b.more) t = rw b.multipliers at r in
        (b.range t).1 (omega arith, omega arith, k.2)

zones_only : (js : List Job) → ValidJobs js → (z : Zone) → Memᴰ z (zones_for js) → IsZone js z
unfolding zones_in
zones_only [] v z i = absurd (mathlib.Core.List.Memᴰ.not-nil i)
zones_only (j ∷ js) v z i = (zone_by_multipliers (j ∷ js) v).1 (whole j js z (below_only js (1 ∷ []) j.lo.0 j.hi.0 1 v.1 v.0.lo_from v.0.lo_to (le_refl 1) i))

-- multipliers that some first period allows are those of a zone in the list
pub zones_have : (js : List Job) → ValidJobs js → (more : List ℕ) (t : ℕ) → MultiplesAfter 1 more → InIntervals js (1 ∷ more) t → (z : Zone) × Memᴰ z (zones_for js) × (z.multipliers ≡ 1 ∷ more)
unfolding zones_in
zones_have [] v more t c h = absurd h
zones_have (j ∷ js) v more t c h = below_all js (1 ∷ []) more j.lo.0 j.hi.0 1 t v.1 v.0.lo_from (le_refl 1) c (omega arith) (omega arith) h.2

-- a zone's multipliers are 1 and those after it
pub front : (js : List Job) (z : Zone) → 1 ≤ length js → ByMultipliers js z → (more : List ℕ) × (z.multipliers ≡ 1 ∷ more) × MultiplesAfter 1 more
front js z h a = go z.multipliers refl
  where
    go : (ms : List ℕ) → z.multipliers ≡ ms → (more : List ℕ) × (z.multipliers ≡ 1 ∷ more) × MultiplesAfter 1 more
    go [] e = absurd (omega (arith, a.each, ap length e))
    go (m ∷ more) e =
        let one : m ≡ 1 = sym (ap (λ (ms : List ℕ). get_or ms 0 0) e) ∙ a.first in
        let c : MultiplesAfter 1 (m ∷ more) = rw e at a.multiples in
        (more, e ∙ ap (λ (x : ℕ). x ∷ more) one, subst (λ (x : ℕ). MultiplesAfter x more) one c.2)

zones_all : (js : List Job) → 1 ≤ length js → ValidJobs js → (z : Zone) → IsZone js z → Memᴰ z (zones_for js)
zones_all js h v z a =
    let b = (zone_by_multipliers js v).0 a in
    let f = front js z h b in
    let r = zones_have js v f.0 z.least.0 f.2 (rw f.1 at ((b.range z.least.0).0 (le_refl _, a.some))) in
    mathlib.Core.List.Memᴰ.cast (same_zone js a (zones_only js v r.0 r.1) (f.1 ∙ sym r.2)) r.1

zones_rising : (js : List Job) → ZonesRise (zones_for js)
unfolding zones_in
zones_rising [] = tt
zones_rising (j ∷ js) = below_rising (map interval_of js) (1 ∷ []) j.lo.0 j.hi.0 1

-- The listing of valid jobs is the list of their zones.
pub listing_is : (js : List Job) → 1 ≤ length js → ValidJobs js → ZonesOf js (zones_for js)
listing_is js h v = record { only = zones_only js v; all = zones_all js h v; rising = zones_rising js }
