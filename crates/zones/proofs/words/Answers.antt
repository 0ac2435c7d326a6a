-- `zones::words` meets its contract: the array's numbers are those of the zone, and packed they are the two words.
-- Assumes nothing.
use native.Mathlib.Omega.{arith}
use Rattle.codec.specs.Packing.{bits, pack}
use Rattle.zone_walk.proofs.RowNumbers.{multiplier_at}
use Rattle.zones.proofs.words.Goals as goal

pub returns-clause-high : goal.returns-clause-high
unfolding pack bits
returns-clause-high c =
    let a = multiplier_at c.zone.inside c.zone.invariant in
    rw (c.pack_widths.ensures, ← c.zone.view_is, a 1, a 2, a 3, a 4) (omega arith)

pub returns-clause-low : goal.returns-clause-low
unfolding pack bits
returns-clause-low c =
    let a = multiplier_at c.zone.inside c.zone.invariant in
    rw (c.pack_widths-2.ensures, ← c.zone.view_is, a 4, a 5, a 6, a 7) (omega arith)
