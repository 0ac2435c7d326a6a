-- Which zone a list of periods lies in, and the order of zones by its own name: what the theorems in proofs/Permitted.antt and
-- Rising.antt are stated with. No contract cites this. Assumes nothing.
use Rattle.std.specs.Prelude.{◌≡◌, List, ℕ, ◌≤◌}
use Rattle.model.specs.declared.Seconds.{Seconds}
use Rattle.model.specs.Model.{Rising}
use Rattle.zone_walk.specs.Zone.{Zone}
use Rattle.zones.specs.Zones.{periods_for, Before}

-- A first period in a zone's range.
abbrev pub InRange : Zone → ℕ → Type 0
InRange z t = (z.least.0 ≤ t) × (t ≤ z.greatest.0)

-- A list of periods lies in a zone: its multipliers give the list at some first period of its range (Zones).
pub record LiesIn (ts : List Seconds) (z : Zone) : Type 0 where
  pub first : ℕ
  pub inside : InRange z first
  pub periods : ts ≡ periods_for z.multipliers first

-- Each zone stands before every later one.
abbrev pub ZonesRise : List Zone → Type 0
ZonesRise zs = Rising (λ (z y : Zone). Before z.multipliers y.multipliers) zs
