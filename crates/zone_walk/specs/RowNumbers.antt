-- What every zone keeps that the walk comes to. Its numbers are told so that they fit a row of sixteen bytes. No public
-- contract cites this. Assumes nothing.
use Rattle.std.specs.Prelude.{◌≡◌, ℕ, ◌≤◌, get_or}
use Rattle.zone_walk.specs.declared.Zone.TheInside.{Inside}

-- Each number is small enough for its field, and the multipliers beyond n are zeros.
pub record RowNumbers (z : Inside) : Type 0 where
  pub least_to : z.least.0 ≤ 3600
  pub greatest_to : z.greatest.0 ≤ 3600
  pub each : (j : ℕ) → get_or z.multipliers j 0 ≤ 3600
  pub beyond : (j : ℕ) → z.n ≤ j → get_or z.multipliers j 0 ≡ 0
