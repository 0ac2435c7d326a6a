-- `zone_walk::Intervals::zones` meets its contract: with the first job open, at multiplier 1 and its whole interval,
-- all zones are still to come.
-- Assumes nothing.
use mathlib.Core.Path.{◌≡◌, ◌∙◌, ap}
use mathlib.Core.List.{append-nil}
use Prim.Native.Nat.{ℕ, suc, ◌-◌}
use native.Mathlib.Omega.{arith}
use Rattle.model.specs.Model.{entries}
use Rattle.zone_walk.specs.Listing.{zones_in, no_interval}
use Rattle.zone_walk.specs.Walk.{opened, after}
use Rattle.zone_walk.proofs.Intervals.zones.Goals as goal

pub returns : goal.returns
unfolding opened after zones_in entries
returns c =
    let s = c.args.self in
    let some : suc (s.n - 1) ≡ s.n = omega (arith, c.requires.from) in
    append-nil _ ∙ ap (λ (n : ℕ). zones_in (entries no_interval s.jobs 0 n)) some
