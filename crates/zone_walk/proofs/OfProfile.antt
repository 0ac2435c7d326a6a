-- The intervals of a profile's jobs, as a list; of valid jobs they are within their bounds.
-- Assumes nothing.
use mathlib.Core.Path.{◌≡◌, refl, ap₂}
use mathlib.Core.List.{List, ◌∷◌, map}
use Prim.Native.Nat.{ℕ, zero, suc, ◌+◌, ◌≤◌, ◌<◌}
use native.Mathlib.Omega.{arith}
use lib.ListN.{get_or}
use Rattle.model.specs.declared.Job.{Job}
use Rattle.model.specs.declared.Profile.{Profile}
use Rattle.model.specs.Model.{no_job, entries, jobs_of}
use Rattle.model.specs.Valid.{Valid}
use Rattle.model.proofs.Validity.{job_valid_at}
use Rattle.zone_range.specs.declared.Interval.{Interval}
use Rattle.zone_walk.specs.declared.Intervals.{Intervals}
use Rattle.zone_walk.specs.Listing.{interval_of, no_interval, intervals_in, IntervalsOf, IntervalWithin, Bounded}

entries_mapped : (jobs : List Job) (intervals : List Interval) (i k : ℕ) → ((j : ℕ) → j < i + k → get_or intervals j no_interval ≡ interval_of (get_or jobs j no_job))
    → entries no_interval intervals i k ≡ map interval_of (entries no_job jobs i k)
unfolding entries
entries_mapped jobs intervals i zero h = refl
entries_mapped jobs intervals i (suc k) h = ap₂ ◌∷◌ (h i (omega arith)) (entries_mapped jobs intervals (i + 1) k (λ j l. h j (omega arith)))

pub intervals_are : (p : Profile) (s : Intervals) → p.n ≤ 8 → IntervalsOf p s → intervals_in s ≡ map interval_of (jobs_of p)
intervals_are p s few h = rw h.n (entries_mapped p.jobs s.jobs 0 p.n (λ j l. h.each j (omega arith)))

pub intervals_within : (p : Profile) (s : Intervals) → Valid p → IntervalsOf p s → Bounded s
intervals_within p s v h = record { from = omega (arith, v.n_from, h.n); to = omega (arith, v.n_to, h.n); each = λ j l. rw (h.each j (omega (arith, v.n_to, h.n))) (within j (omega (arith, h.n))) }
  where
    within : (j : ℕ) → j < p.n → IntervalWithin (interval_of (get_or p.jobs j no_job))
    within j l =
        let k = job_valid_at p j v l in
        record { from = k.lo_from; order = k.lo_to; short = omega arith; long = k.hi_to }
