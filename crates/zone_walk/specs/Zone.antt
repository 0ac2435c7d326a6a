-- A harmonic zone (document 01, Zones). Cited by public contracts through specs/Zones.antt of zones, which says which zones a
-- profile has. Assumes nothing.
use Rattle.std.specs.Prelude.{List, ℕ}
use Rattle.model.specs.declared.Seconds.{Seconds}

-- The range of first periods and the multipliers, one for each job; the first is 1 (Zones).
pub record Zone : Type 0 where
  pub least : Seconds
  pub greatest : Seconds
  pub multipliers : List ℕ
