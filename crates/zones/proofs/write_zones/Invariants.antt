-- `zones::write_zones` meets its contract: before each turn the rows of the zones passed stand at the front, if all have
-- room.
-- Assumes nothing.
use Rattle.zone_walk.specs.Listing.{zones_in, intervals_in}
use Rattle.zones.proofs.ZoneRows.{Writing}
use Rattle.zones.proofs.write_zones.Given as goal

abbrev pub invariant-loop-zone : goal.invariant-loop-zone
invariant-loop-zone l =
    Writing (zones_in (intervals_in l.intervals)) l.yielded l.initial.out l.out l.row
    × (goal.iterator-loop-zone).can_next l.zone-iterator
    × (goal.iterator-loop-zone).is_finite l.zone-iterator
