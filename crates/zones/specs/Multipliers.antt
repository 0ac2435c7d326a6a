-- A zone said job by job in the words of document 01, which proofs/Multipliers.antt shows to be a zone as the contracts have it.
-- No contract cites this. Assumes nothing.
use Rattle.std.specs.Prelude.{◌≡◌, ◌↔◌, List, [], ◌∷◌, ℕ, ◌*◌, ◌%◌, ◌≤◌, length, get_or}
use Rattle.model.specs.declared.Job.{Job}
use Rattle.zone_walk.specs.Zone.{Zone}

-- Multipliers from 1 up, each a whole multiple of the one before it (Zones).
abbrev pub MultiplesAfter : ℕ → List ℕ → Type 0
MultiplesAfter before [] = Unit {0}
MultiplesAfter before (a ∷ more) = (1 ≤ a) × (a % before ≡ 0) × MultiplesAfter a more

-- Every multiplier times the first period t is in its job's interval (Zones).
abbrev pub InIntervals : List Job → List ℕ → ℕ → Type 0
InIntervals [] [] t = Unit {0}
InIntervals [] (a ∷ more) t = ⊥
InIntervals (j ∷ js) [] t = ⊥
InIntervals (j ∷ js) (a ∷ more) t = (j.lo.0 ≤ a * t) × (a * t ≤ j.hi.0) × InIntervals js more t

-- One multiplier for each job, the first being 1; the range holds all and only what puts every job in its interval, and at least one (Zones).
pub record ByMultipliers (js : List Job) (z : Zone) : Type 0 where
  pub each : length z.multipliers ≡ length js
  pub first : get_or z.multipliers 0 0 ≡ 1
  pub multiples : MultiplesAfter 1 z.multipliers
  pub range : (t : ℕ) → ((z.least.0 ≤ t) × (t ≤ z.greatest.0)) ↔ InIntervals js z.multipliers t
  pub some : z.least.0 ≤ z.greatest.0
