-- The walk from zone to zone: what is still to come stays the same list at every step, and what is left to try falls.
-- Assumes nothing.
use mathlib.Core.Path.{◌≡◌, refl, sym, ◌∙◌, ap, ap₂, subst}
use mathlib.Core.Bool.{Bool, true, false}
use mathlib.Core.List.{List, [], ◌∷◌, ◌++◌, flat_map, append_assoc}
use Prim.Native.Nat.{ℕ, zero, suc, ◌+◌, ◌*◌, ◌-◌, ◌^◌, ◌≤◌, ◌<◌}
use native.Mathlib.Omega.{arith}
use native.Mathlib.Nat.{pow-succ', mul-le-mul, mul-le-mul_left, mul-le-mul_right, one-le-mul, div-le_self, eq-or-lt_of_le}
use native.Mathlib.Numerals.{add-one}
use lib.ListN.{length, get_or, set}
use lib.Seq.{get_or-set_same, get_or-set_other, take-set-le}
use borrow.Author.Tests.{lt-ltb, le-ltb}
use mathlib.Core.Logic.{⊎_elim}
use Rattle.std.proofs.lemmas.Bool.{false≢true}
use Rattle.std.proofs.lemmas.List.{map_more}
use Rattle.model.specs.Model.{entries}
use Rattle.model.specs.Rounding.{round_up}
use Rattle.model.specs.Climb.{climb_to}
use Rattle.model.proofs.Entries.{entries_step}
use Rattle.model.proofs.Climb.{climb_step, climb_end}
use Rattle.model.proofs.Rounding.{round_up_le, round_up_some}
use Rattle.zone_range.specs.declared.Interval.{Interval}
use Rattle.zone_walk.specs.declared.Place.{Place}
use Rattle.zone_walk.specs.declared.Walk.{Walk}
use Rattle.zone_walk.specs.Zone.{Zone}
use Rattle.zone_walk.specs.Listing.{unless_empty, zones_below, no_interval, interval_at, Bounded}
use Rattle.zone_walk.specs.Places.{no_place, multipliers_of, Clear}
use Rattle.zone_walk.specs.Walk.{place_at, chosen, last_chosen, least_left, greatest_left, intervals_left}
use Rattle.zone_walk.specs.Walk.{first_multiplier_at, last_multiplier_at, next_multiplier_at, least_at, greatest_at, under, tries, after, opened, coming}
use Rattle.zone_walk.specs.Walk.{Kept, Opens, TriesMultiplier, WentOn}

-- the weight of a multiplier at place i: more than all that can be tried at the places after it
place_weight : ℕ → ℕ
place_weight i = 33554432 ^ (8 - i)

-- the multipliers left to try at the first i places
weight : List Place → ℕ → ℕ
weight ps zero = 0
weight ps (suc j) = weight ps j + (2 ^ 24 - (get_or ps j no_place).multiplier) * place_weight j

pub open_left : List Place → ℕ → ℕ
open_left ps i = weight ps i + (33554432 * place_weight i - 1)

pub try_left : List Place → ℕ → ℕ → ℕ
try_left ps i m = weight ps i + (2 ^ 24 + 1 - m) * place_weight i

weight_pos : (i : ℕ) → 1 ≤ place_weight i
unfolding place_weight
weight_pos i = go (8 - i)
  where
    go : (k : ℕ) → 1 ≤ 33554432 ^ k
    go zero = omega arith
    go (suc k) = rw (pow-succ' 33554432 k) (omega (arith, go k))

weight_step : (i : ℕ) → i < 8 → place_weight i ≡ 33554432 * place_weight (i + 1)
unfolding place_weight
weight_step i h =
    let e : 8 - i ≡ suc (8 - (i + 1)) = omega arith in
    rw e (pow-succ' 33554432 (8 - (i + 1)))

weight_set : (ps : List Place) (i : ℕ) (p : Place) (j : ℕ) → j ≤ i → weight (set ps i p) j ≡ weight ps j
unfolding weight
weight_set ps i p zero h = refl
weight_set ps i p (suc j) h =
    ap₂ (λ (a : ℕ) (q : Place). a + (2 ^ 24 - q.multiplier) * place_weight j) (weight_set ps i p j (omega arith)) (get_or-set_other ps i j p no_place (λ e. omega arith))

-- opening a job leaves less to try
pub falls_opening : (ps : List Place) (i m : ℕ) → 1 ≤ m → try_left ps i m < open_left ps i
unfolding try_left open_left
falls_opening ps i m h =
    let less : (2 ^ 24 + 1 - m) * place_weight i ≤ 2 ^ 24 * place_weight i = mul-le-mul_right (place_weight i) (omega arith) in
    omega (arith, weight_pos i)

pub falls_next : (ps : List Place) (i m a : ℕ) → 1 ≤ a → m ≤ 2 ^ 24 → try_left ps i (m + a) < try_left ps i m
unfolding try_left
falls_next ps i m a pos h =
    let less : (2 ^ 24 + 1 - (m + a) + 1) * place_weight i ≤ (2 ^ 24 + 1 - m) * place_weight i = mul-le-mul_right (place_weight i) (omega arith) in
    omega (arith, weight_pos i)

pub falls_open : (ps : List Place) (i : ℕ) (p : Place) → i < 8 → i < length ps → p.multiplier ≤ 2 ^ 24 → open_left (set ps i p) (i + 1) < try_left ps i p.multiplier
unfolding try_left open_left weight
falls_open ps i p h size top =
    let one : weight (set ps i p) (i + 1) ≡ weight ps i + (2 ^ 24 - p.multiplier) * place_weight i =
    ap (weight (set ps i p)) (add-one i)
    ∙ ap₂ (λ (a : ℕ) (q : Place). a + (2 ^ 24 - q.multiplier) * place_weight i) (weight_set ps i p i (omega arith)) (get_or-set_same ps i p no_place size) in
    let more : 2 ^ 24 + 1 - p.multiplier ≡ (2 ^ 24 - p.multiplier) + 1 = omega arith in
    rw (one, more) (omega (arith, weight_pos i, weight_step i h))

pub falls_back : (ps : List Place) (i m prev b : ℕ) → i ≡ suc prev → m ≤ 2 ^ 24 → (get_or ps prev no_place).multiplier ≤ 2 ^ 24 → 1 ≤ b
    → try_left ps prev ((get_or ps prev no_place).multiplier + b) < try_left ps i m
unfolding try_left weight
falls_back ps i m prev b e h k pos =
    let a = (get_or ps prev no_place).multiplier in
    let less : (2 ^ 24 + 1 - (a + b)) * place_weight prev ≤ (2 ^ 24 - a) * place_weight prev = mul-le-mul_right (place_weight prev) (omega arith) in
    let some : 1 * 1 ≤ (2 ^ 24 + 1 - m) * place_weight i = mul-le-mul {n₁ = 1} {m₁ = 1} (omega arith) (weight_pos i) in
    rw (ap (weight ps) e) (omega arith)

under_none : (w : Walk) (i m : ℕ) → greatest_at w i m < least_at w i m → under w i m ≡ []
unfolding under unless_empty
under_none w i m e = rw (lt-ltb (greatest_at w i m) (least_at w i m) e)

module _ (w : Walk) (i m : ℕ) (pos : 1 ≤ last_chosen w i) where
  -- no multiplier is left for the job at place i
  pub past_last : last_multiplier_at w i < m → tries w i m ++ after w i ≡ after w i
  unfolding tries flat_map
  past_last h = ap (λ (l : List ℕ). flat_map (under w i) l ++ after w i) (climb_end (last_chosen w i) pos _ m h)

  one_tried : m ≤ last_multiplier_at w i → tries w i m ≡ under w i m ++ tries w i (m + last_chosen w i)
  unfolding tries flat_map
  one_tried h = ap (flat_map (under w i)) (climb_step (last_chosen w i) pos _ m h)

  -- m leaves no first period
  pub none_under : m ≤ last_multiplier_at w i → greatest_at w i m < least_at w i m → tries w i m ++ after w i ≡ tries w i (m + last_chosen w i) ++ after w i
  none_under h e =
      let rest = tries w i (m + last_chosen w i) in
      ap (λ (l : List Zone). l ++ after w i) (one_tried h ∙ ap (λ (l : List Zone). l ++ rest) (under_none w i m e))

-- back at the job before
pub go_back : (w : Walk) (i prev : ℕ) → i ≡ suc prev → (prev ≡ 0 → ⊥) → after w i ≡ tries w prev (next_multiplier_at w prev) ++ after w prev
unfolding after
go_back w i zero e h = absurd (h refl)
go_back w i (suc j) e h = ap (after w) e

pub at_first : (w : Walk) (i prev : ℕ) → i ≡ suc prev → prev ≡ 0 → after w i ≡ []
unfolding after
at_first w i prev e h = ap (after w) (e ∙ ap suc h)

-- the next job's smallest multiplier
pub job_opened : (w : Walk) (i : ℕ) → i < w.intervals.n → opened w i ≡ tries w i (first_multiplier_at w i)
unfolding opened tries under zones_below
job_opened w i h =
    ap (λ (ss : List Interval). zones_below ss (chosen w i) (least_left w i) (greatest_left w i) (last_chosen w i))
    (entries_step no_interval w.intervals.jobs i w.intervals.n h)

-- all jobs are open
pub all_opened : (w : Walk) → opened w w.intervals.n ++ after w w.intervals.n ≡ coming w true
unfolding opened entries zones_below
all_opened w =
    let n = w.intervals.n in
    let e : n - n ≡ 0 = omega arith in
    ap (λ (k : ℕ). zones_below (entries no_interval w.intervals.jobs n k) (chosen w n) (least_left w n) (greatest_left w n) (last_chosen w n) ++ after w n) e

after_next : (w : Walk) (i : ℕ) → 1 ≤ i → after w (i + 1) ≡ tries w i (next_multiplier_at w i) ++ after w i
unfolding after
after_next w zero h = absurd (omega arith)
after_next w (suc j) h = ap (after w) (add-one (suc j))

-- a multiplier that is not past the last is an interval's end at most
small_multiplier : (w : Walk) (i m : ℕ) → TriesMultiplier w i m → m ≤ last_multiplier_at w i → m ≤ 3600
small_multiplier w i m t last =
    let s = w.bounded.each i t.inside in
    let d = div-le_self (interval_at w.intervals i).hi.0 (least_left w i) in
    omega arith

-- one place more is set
module _ (w : Walk) (i : ℕ) (p : Place) (bounds : Bounded w.intervals) (size : length (set w.places i p) ≡ 8) (beyond : Clear w.intervals.n (set w.places i p)) where
  abbrev put : Walk
  put = record { intervals = w.intervals; places = set w.places i p; bounded = bounds; sized = size; clear = beyond }

  place_same : i < 8 → place_at put i ≡ p
  place_same h = get_or-set_same w.places i p no_place (omega (arith, w.sized))

  place_other : (j : ℕ) → (j ≡ i → ⊥) → place_at put j ≡ place_at w j
  place_other j h = get_or-set_other w.places i j p no_place h

  module _ (pos : 1 ≤ i) where
    under_put : (j v : ℕ) → j ≤ i → under put j v ≡ under w j v
    unfolding under
    under_put j v h =
        let same = place_other (j - 1) (λ e. omega arith) in
        rw (same, last_chosen, least_left, greatest_left, take-set-le j w.places i p h)

    tries_put : (j v : ℕ) → j ≤ i → tries put j v ≡ tries w j v
    unfolding tries
    tries_put j v h =
        let same = place_other (j - 1) (λ e. omega arith) in
        rw (same, last_chosen, least_left)
        (ap (λ (f : ℕ → List Zone). flat_map f (climb_to (last_chosen w j) (last_multiplier_at w j) v)) (λ d x. under_put j x h d))

    after_put : (j : ℕ) → j ≤ i → after put j ≡ after w j
    unfolding after
    after_put zero h = refl
    after_put (suc zero) h = refl
    after_put (suc (suc j)) h =
        let here = place_other (suc j) (λ e. omega arith) in
        let before = place_other (suc j - 1) (λ e. omega arith) in
        let next : next_multiplier_at put (suc j) ≡ next_multiplier_at w (suc j) = ap₂ (λ (a b : Place). a.multiplier + b.multiplier) here before in
        ap₂ ◌++◌ (tries_put (suc j) _ (omega arith) ∙ ap (tries w (suc j)) next) (after_put (suc j) (omega arith))

    under_is : i < 8 → p.range.least.0 ≡ least_at w i p.multiplier → p.range.greatest.0 ≡ greatest_at w i p.multiplier → p.range.least.0 ≤ p.range.greatest.0
        → under w i p.multiplier ≡ opened put (i + 1)
    unfolding under opened unless_empty
    under_is h el eg some =
        let same : place_at put (i + 1 - 1) ≡ p = ap (place_at put) (omega arith) ∙ place_same h in
        let taken : chosen put (i + 1) ≡ chosen w i ++ (p.multiplier ∷ []) =
        map_more (λ (q : Place). q.multiplier) put.places i no_place (omega (arith, size))
        ∙ ap₂ (λ (ps : List Place) (q : Place). multipliers_of ps ++ (q.multiplier ∷ [])) (take-set-le i w.places i p (omega arith)) (place_same h) in
        let below : List ℕ → Place → List Zone = λ c q. zones_below (intervals_left w (i + 1)) c q.range.least.0 q.range.greatest.0 q.multiplier in
        rw (← el, ← eg, le-ltb p.range.greatest.0 p.range.least.0 some) (sym (ap₂ below taken same))

    -- this place opens the job after
    pub pushed : Opens w i → i < w.intervals.n → p.range.least.0 ≡ least_at w i p.multiplier → p.range.greatest.0 ≡ greatest_at w i p.multiplier
        → p.multiplier ≤ last_multiplier_at w i → p.range.least.0 ≤ p.range.greatest.0
        → tries w i p.multiplier ++ after w i ≡ opened put (i + 1) ++ after put (i + 1)
    pushed o h el eg last some =
        let m = p.multiplier in
        let a = last_chosen w i in
        let one = one_tried w i m (o.each (i - 1) (omega arith)).multiplier_from last in
        let here = under_is (omega (arith, w.bounded.to)) el eg some in
        let own = place_same (omega (arith, w.bounded.to)) in
        let before = place_other (i - 1) (λ e. omega arith) in
        let next : next_multiplier_at put i ≡ m + a = ap₂ (λ (q b : Place). q.multiplier + b.multiplier) own before in
        let tried : tries put i (next_multiplier_at put i) ≡ tries w i (m + a) = tries_put i _ (omega arith) ∙ ap (tries w i) next in
        let rest : after put (i + 1) ≡ tries w i (m + a) ++ after w i = after_next put i pos ∙ ap₂ ◌++◌ tried (after_put i (omega arith)) in
        ap (λ (k : List Zone). k ++ after w i) one
        ∙ append_assoc (under w i m) (tries w i (m + a)) (after w i)
        ∙ ap₂ ◌++◌ here (sym rest)

    pub push_opens : TriesMultiplier w i p.multiplier → p.multiplier ≤ last_multiplier_at w i
        → p.range.least.0 ≡ least_at w i p.multiplier → p.range.greatest.0 ≡ greatest_at w i p.multiplier → p.range.least.0 ≤ p.range.greatest.0 → Opens put (i + 1)
    push_opens t last el eg some = record { from = omega arith; to = omega arith; each = λ j h. ⊎_elim (λ e. here j e) (λ e. earlier j e) (eq-or-lt_of_le (below j h)) }
      where
        below : (j : ℕ) → j < i + 1 → j ≤ i
        below j h = omega arith

        here : (j : ℕ) → j ≡ i → Kept (place_at put j)
        here j e =
            let k = t.opens.each (i - 1) (omega arith) in
            let small = small_multiplier w i p.multiplier t last in
            subst Kept (sym (ap (place_at put) e ∙ place_same (omega (arith, w.bounded.to, t.inside))))
            (record { multiplier_from = t.m_from; multiplier_to = small; least_from = omega arith; range = some; greatest_to = omega arith })

        earlier : (j : ℕ) → j < i → Kept (place_at put j)
        earlier j h = subst Kept (sym (place_other j (λ e. omega arith))) (t.opens.each j h)

-- what the numbers at the job before say
module _ (w : Walk) (i : ℕ) (o : Opens w i) (inside : i < w.intervals.n) where
  abbrev a : ℕ
  a = last_chosen w i

  abbrev g : ℕ
  g = greatest_left w i

  abbrev lo : ℕ
  lo = (interval_at w.intervals i).lo.0

  pub first_asked : (1 ≤ a * g) × (a * g ≤ 2 ^ 24) × (lo ≤ 3600) × (round_up lo (a * g) * a ≤ 2 ^ 24)
  first_asked =
      let k = o.each (i - 1) (omega arith) in
      let s = w.bounded.each i inside in
      let pos : 1 ≤ a * g = one-le-mul k.multiplier_from (omega arith) in
      let most : a * g ≤ 3600 * 3600 = mul-le-mul k.multiplier_to k.greatest_to in
      let wide : lo * 1 ≤ lo * (a * g) = mul-le-mul_left lo pos in
      let few : round_up lo (a * g) ≤ lo = (round_up_le lo lo pos).1 (omega arith) in
      let within : round_up lo (a * g) ≤ 3600 = omega arith in
      let small : round_up lo (a * g) * a ≤ 3600 * 3600 = mul-le-mul within k.multiplier_to in
      (pos, omega arith, s.short, omega arith)

pub first_tries : (w : Walk) (i m : ℕ) → Opens w i → i < w.intervals.n → m ≡ first_multiplier_at w i → TriesMultiplier w i m
first_tries w i m o inside e =
    let asked = first_asked w i o inside in
    let from = (o.each (i - 1) (omega arith)).multiplier_from in
    let some : 1 ≤ first_multiplier_at w i = one-le-mul (round_up_some (w.bounded.each i inside).from asked.0) from in
    record { opens = o; inside = inside; m_from = omega arith; m_to = omega (arith, asked) }

opens_fewer : (w : Walk) (i j : ℕ) → Opens w i → 1 ≤ j → j ≤ i → Opens w j
opens_fewer w i j o from to = record { from = from; to = omega arith; each = λ k h. o.each k (omega arith) }

pub back_tries : (w : Walk) (i prev : ℕ) → Opens w i → i ≡ suc prev → (prev ≡ 0 → ⊥) → TriesMultiplier w prev (next_multiplier_at w prev)
back_tries w i prev o e h =
    let k = o.each prev (omega arith) in
    let j = o.each (prev - 1) (omega arith) in
    record { opens = opens_fewer w i prev o (omega arith) (omega arith); inside = omega arith; m_from = omega arith; m_to = omega arith }

pub next_tries : (w : Walk) (i m : ℕ) → TriesMultiplier w i m → m ≤ last_multiplier_at w i → TriesMultiplier w i (m + last_chosen w i)
next_tries w i m t last =
    let k = t.opens.each (i - 1) (omega arith) in
    record { opens = t.opens; inside = t.inside; m_from = omega arith; m_to = omega (arith, small_multiplier w i m t last) }

-- the same zones are still to come
pub went_on : {rest next : List Zone} {w : Walk} {found : Bool} → rest ≡ next → WentOn next w found → WentOn rest w found
went_on e o = record { zones = e ∙ o.zones; opens = o.opens }

-- at a zone, and past the last
pub stands : (w : Walk) → Opens w w.intervals.n → WentOn (opened w w.intervals.n ++ after w w.intervals.n) w true
stands w o = record { zones = all_opened w; opens = λ e. o }

pub ended : (w : Walk) {rest : List Zone} → rest ≡ [] → WentOn rest w false
ended w e = record { zones = e; opens = λ h. absurd (false≢true h) }
