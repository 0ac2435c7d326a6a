-- `zone_walk::Walk::multipliers` meets its contract: number by number.
-- Assumes nothing.
use mathlib.Core.Path.{◌≡◌, sym, ◌∙◌}
use Prim.Native.Nat.{ℕ, ◌<◌}
use native.Mathlib.Omega.{arith}
use lib.ListN.{length, get_or, get_or-map, length-map}
use Rattle.std.proofs.Common.{rules}
use Rattle.std.proofs.lemmas.List.{ext_get_or}
use Rattle.zone_walk.specs.declared.Place.{Place}
use Rattle.zone_walk.specs.Places.{no_place, multipliers_of}
use Rattle.zone_walk.specs.Walk.{place_at}
use Rattle.zone_walk.proofs.Walk.multipliers.Goals as goal

pub returns : goal.returns
returns c =
    let w = c.args.self.now in
    let ms = c.map.result in
    let size = c.map.ensures.items.long in
    let all : length (multipliers_of w.places) ≡ length w.places = length-map _ _ in
    let each : (j : ℕ) → j < 8 → get_or ms j 0 ≡ (place_at w j).multiplier = λ j h. let called = (c.map.ensures.items.at j no_place 0 h).2 in search rules in
    ext_get_or 0 ms (multipliers_of w.places) (omega (arith, w.sized)) (λ j h. each j (omega arith) ∙ sym (get_or-map (λ (p : Place). p.multiplier) w.places j no_place))
