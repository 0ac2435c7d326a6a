-- The zones as a list that can be computed, job by job. Contracts of inner functions cite this, and those of no entry
-- point. Assumes nothing.
use Rattle.std.specs.Prelude.{◌≡◌, Bool, true, false, ℕ, ◌*◌, ◌/◌, ◌≤◌, ◌<◌, min, max, get_or, ltb}
use mathlib.Core.List.{List, [], ◌∷◌, ◌++◌, map, flat_map}
use Rattle.model.specs.declared.Job.{Job}
use Rattle.model.specs.declared.Profile.{Profile}
use Rattle.model.specs.Model.{seconds, no_job, entries}
use Rattle.model.specs.Rounding.{round_up}
use Rattle.model.specs.Climb.{climb_to}
use Rattle.zone_range.specs.declared.Interval.{Interval}
use Rattle.zone_walk.specs.declared.Intervals.{Intervals}
use Rattle.zone_walk.specs.Zone.{Zone}

abbrev pub interval_of : Job → Interval
interval_of j = record { lo = j.lo; hi = j.hi }

-- The smallest multiplier to try after `a`, where first periods are at most `greatest`.
abbrev pub first_multiplier : Interval → ℕ → ℕ → ℕ
first_multiplier s greatest a = round_up s.lo.0 (a * greatest) * a

-- What is left of a range when m times a first period must be in its interval too.
abbrev pub least_for : Interval → ℕ → ℕ → ℕ
least_for s least m = max least (round_up s.lo.0 m)

abbrev pub greatest_for : Interval → ℕ → ℕ → ℕ
greatest_for s greatest m = min greatest (s.hi.0 / m)

-- `zs` unless a range is empty.
unfoldable pub unless_empty : Bool → List Zone → List Zone
unless_empty empty zs = elim empty [ true ↦ [] | false ↦ zs ]

-- The zones that begin with the multipliers `chosen`, of which `a` is the last, and have a range within least ..
-- greatest.
unfoldable pub zones_below : List Interval → List ℕ → ℕ → ℕ → ℕ → List Zone
zones_below [] chosen least greatest a = record { least = seconds least; greatest = seconds greatest; multipliers = chosen } ∷ []
zones_below (s ∷ ss) chosen least greatest a =
    flat_map (λ m. unless_empty (ltb (greatest_for s greatest m) (least_for s least m)) (zones_below ss (chosen ++ (m ∷ [])) (least_for s least m) (greatest_for s greatest m) m))
    (climb_to a (s.hi.0 / least) (first_multiplier s greatest a))

-- All zones: the first job has the multiplier 1.
unfoldable pub zones_in : List Interval → List Zone
zones_in [] = []
zones_in (s ∷ ss) = zones_below ss (1 ∷ []) s.lo.0 s.hi.0 1

abbrev pub zones_for : List Job → List Zone
zones_for js = zones_in (map interval_of js)

-- What stands for an interval that a list lacks.
abbrev pub no_interval : Interval
no_interval = interval_of no_job

-- The interval of the job at place i.
abbrev pub interval_at : Intervals → ℕ → Interval
interval_at s i = get_or s.jobs i no_interval

-- The intervals of these jobs, as a list.
abbrev pub intervals_in : Intervals → List Interval
intervals_in s = entries no_interval s.jobs 0 s.n

-- The bounds of an interval.
pub record IntervalWithin (s : Interval) : Type 0 where
  pub from : 1 ≤ s.lo.0
  pub order : s.lo.0 ≤ s.hi.0
  pub short : s.lo.0 ≤ 3600
  pub long : s.hi.0 ≤ 3600

-- Intervals within their bounds, 1 to 8 of them.
pub record Bounded (s : Intervals) : Type 0 where
  pub from : 1 ≤ s.n
  pub to : s.n ≤ 8
  pub each : (j : ℕ) → j < s.n → IntervalWithin (interval_at s j)

-- The intervals of a profile's jobs.
pub record IntervalsOf (p : Profile) (s : Intervals) : Type 0 where
  pub n : s.n ≡ p.n
  pub each : (j : ℕ) → j < 8 → interval_at s j ≡ interval_of (get_or p.jobs j no_job)
