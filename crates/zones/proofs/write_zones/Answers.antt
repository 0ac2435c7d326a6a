-- `zones::write_zones` meets its contract: before each turn the rows of the zones passed stand at the front, if all have
-- room.
-- Assumes nothing.
use mathlib.Core.Path.{sym, ◌∙◌}
use mathlib.Core.List.{map-id}
use native.Mathlib.Omega.{arith}
use Rattle.std.proofs.lemmas.Iterator.Consumers.{YieldsList-from_first, YieldsList-turn, YieldsList-end}
use Rattle.zone_walk.specs.Listing.{zones_in, intervals_in}
use Rattle.zones.proofs.ZoneRows.{none_written, one_written, all_written}
use Rattle.zones.proofs.write_zones.Goals as goal

pub loop-zone-init : goal.loop-zone-init
loop-zone-init c = (none_written _ _, tt, tt)

pub loop-zone-preserved : goal.loop-zone-preserved
loop-zone-preserved c =
    let all = zones_in (intervals_in c.args.intervals.now) in
    let walk = YieldsList-from_first (λ z. z) (λ zones. zones) all (c.into_iter-zone-iterator.ensures.into_iter_gives ∙ c.zones-zone-items.ensures) in
    let turn = YieldsList-turn walk c.loop-zone.yielded _ c.loop-zone.yielded_by _ _ c.in-Some.zone c.in-Some.is c.next.ensures.steps in
    let written = one_written all c.loop-zone.yielded c.args.out.now c.loop-zone.out c.loop-zone.row c.loop-zone.invariant.0 c.in-Some.zone turn.0
    c.words.result.high c.words.result.low c.words.ensures.high c.words.ensures.low (omega arith) (omega arith) c.put_row.auto.out c.put_row.ensures in
    (written, tt, tt)

pub returns : goal.returns
returns c =
    let all = zones_in (intervals_in c.args.intervals.now) in
    let walk = YieldsList-from_first (λ z. z) (λ zones. zones) all (c.into_iter-zone-iterator.ensures.into_iter_gives ∙ c.zones-zone-items.ensures) in
    let end = YieldsList-end walk c.loop-zone.yielded _ c.loop-zone.yielded_by _ _ c.in-None.is c.next.ensures.steps in
    all_written c.loop-zone.invariant.0 (sym (map-id c.loop-zone.yielded) ∙ end.0)
