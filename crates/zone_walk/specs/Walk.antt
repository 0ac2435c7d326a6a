-- What the walk over the zones holds, and which zones are still to come. Contracts of inner functions cite this, and
-- those of no entry point. Assumes nothing.
use Rattle.std.specs.Prelude.{◌≡◌, Bool, true, cond, ℕ, zero, suc, ◌+◌, ◌-◌, ◌/◌, ◌^◌, ◌≤◌, ◌<◌, get_or, take, ltb}
use mathlib.Core.List.{List, [], ◌∷◌, ◌++◌, flat_map}
use Rattle.model.specs.Model.{entries}
use Rattle.model.specs.Climb.{climb_to}
use Rattle.zone_range.specs.declared.Interval.{Interval}
use Rattle.zone_walk.specs.declared.Place.{Place}
use Rattle.zone_walk.specs.declared.Stage.{Stage}
use Rattle.zone_walk.specs.declared.Stage.TheVariants.{Begun, AtZone, Ended}
use Rattle.zone_walk.specs.declared.Walk.{Walk}
use Rattle.zone_walk.specs.Zone.{Zone}
use Rattle.zone_walk.specs.Listing.{first_multiplier, least_for, greatest_for, unless_empty, zones_below, no_interval, interval_at}
use Rattle.zone_walk.specs.Places.{no_place, multipliers_of}

-- The intervals of the jobs from place i on.
abbrev pub intervals_left : Walk → ℕ → List Interval
intervals_left w i = entries no_interval w.intervals.jobs i (w.intervals.n - i)

-- What the walk keeps for the job at place i.
abbrev pub place_at : Walk → ℕ → Place
place_at w i = get_or w.places i no_place

-- Of the first i jobs: their multipliers, the last one of these, and the range that they leave.
abbrev pub chosen : Walk → ℕ → List ℕ
chosen w i = multipliers_of (take i w.places)

abbrev pub last_chosen : Walk → ℕ → ℕ
last_chosen w i = (place_at w (i - 1)).multiplier

abbrev pub least_left : Walk → ℕ → ℕ
least_left w i = (place_at w (i - 1)).range.least.0

abbrev pub greatest_left : Walk → ℕ → ℕ
greatest_left w i = (place_at w (i - 1)).range.greatest.0

-- For the job at place i: the first and the last multiplier to try, the one after that which it has, and the range that
-- m leaves.
abbrev pub first_multiplier_at : Walk → ℕ → ℕ
first_multiplier_at w i = first_multiplier (interval_at w.intervals i) (greatest_left w i) (last_chosen w i)

abbrev pub last_multiplier_at : Walk → ℕ → ℕ
last_multiplier_at w i = (interval_at w.intervals i).hi.0 / least_left w i

abbrev pub next_multiplier_at : Walk → ℕ → ℕ
next_multiplier_at w i = (place_at w i).multiplier + last_chosen w i

abbrev pub least_at : Walk → ℕ → ℕ → ℕ
least_at w i m = least_for (interval_at w.intervals i) (least_left w i) m

abbrev pub greatest_at : Walk → ℕ → ℕ → ℕ
greatest_at w i m = greatest_for (interval_at w.intervals i) (greatest_left w i) m

-- The zones with multiplier m for the job at place i.
unfoldable pub under : Walk → ℕ → ℕ → List Zone
under w i m =
    let l = least_at w i m in
    let g = greatest_at w i m in
    unless_empty (ltb g l) (zones_below (intervals_left w (i + 1)) (chosen w i ++ (m ∷ [])) l g m)

-- The zones with multiplier m, or a later one, for the job at place i.
unfoldable pub tries : Walk → ℕ → ℕ → List Zone
tries w i m = flat_map (under w i) (climb_to (last_chosen w i) (last_multiplier_at w i) m)

-- The zones after all those that begin with the first i multipliers.
unfoldable pub after : Walk → ℕ → List Zone
after w zero = []
after w (suc zero) = []
after w (suc (suc i)) = tries w (suc i) (next_multiplier_at w (suc i)) ++ after w (suc i)

-- The zones that begin with the first i multipliers.
unfoldable pub opened : Walk → ℕ → List Zone
opened w i = zones_below (intervals_left w i) (chosen w i) (least_left w i) (greatest_left w i) (last_chosen w i)

-- The zones still to come when the job at place i is to be opened, and when its multiplier m is to be tried.
abbrev pub to_open : Walk → ℕ → List Zone
to_open w i = opened w i ++ after w i

abbrev pub to_try : Walk → ℕ → ℕ → List Zone
to_try w i m = tries w i m ++ after w i

-- The zone that the walk stands at.
abbrev pub current : Walk → Zone
current w =
    let last = place_at w (w.intervals.n - 1) in
    record { least = last.range.least; greatest = last.range.greatest; multipliers = chosen w w.intervals.n }

-- The zones still to come where the walk stands at one, or at none.
abbrev pub coming : Walk → Bool → List Zone
coming w found = cond found (current w ∷ after w w.intervals.n) []

-- The zones still to come at each stage of the walk.
abbrev pub to_come : Walk → Stage → List Zone
to_come w Begun = to_open w 1
to_come w AtZone = after w w.intervals.n
to_come w Ended = []

-- The bounds of a job's multiplier and of the range that is left after it.
pub record Kept (place : Place) : Type 0 where
  pub multiplier_from : 1 ≤ place.multiplier
  pub multiplier_to : place.multiplier ≤ 3600
  pub least_from : 1 ≤ place.range.least.0
  pub range : place.range.least.0 ≤ place.range.greatest.0
  pub greatest_to : place.range.greatest.0 ≤ 3600

-- The walk has opened i jobs.
pub record Opens (w : Walk) (i : ℕ) : Type 0 where
  pub from : 1 ≤ i
  pub to : i ≤ w.intervals.n
  pub each : (j : ℕ) → j < i → Kept (place_at w j)

-- The jobs that a walk has opened at each stage.
abbrev pub IsAt : Walk → Stage → Type 0
IsAt w Begun = Opens w 1
IsAt w AtZone = Opens w w.intervals.n
IsAt w Ended = Unit {0}

-- The walk tries multiplier m for the job at place i.
pub record TriesMultiplier (w : Walk) (i m : ℕ) : Type 0 where
  pub opens : Opens w i
  pub inside : i < w.intervals.n
  pub m_from : 1 ≤ m
  pub m_to : m ≤ 2 ^ 24

-- The walk went on to the first zone of `rest`, or there was none.
pub record WentOn (rest : List Zone) (w : Walk) (found : Bool) : Type 0 where
  pub zones : rest ≡ coming w found
  pub opens : found ≡ true → Opens w w.intervals.n
