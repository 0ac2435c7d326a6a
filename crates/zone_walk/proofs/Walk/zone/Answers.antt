-- `zone_walk::Walk::zone` meets its contract: every number of a zone is small enough for its field, and beyond the
-- n jobs are zeros.
-- Assumes nothing.
use mathlib.Core.Path.{◌≡◌, refl, ◌∙◌, ap}
use mathlib.Core.List.{List}
use Prim.Native.Nat.{ℕ, ◌-◌, ◌≤◌, ◌<◌}
use native.Mathlib.Omega.{arith}
use native.Mathlib.Decide.{dec_lt}
use lib.ListN.{get_or, get_or-map}
use Rattle.std.proofs.lemmas.List.{take-map}
use Rattle.zone_walk.specs.declared.Place.{Place}
use Rattle.zone_walk.specs.declared.Walk.{Walk}
use Rattle.zone_walk.specs.Places.{no_place}
use Rattle.zone_walk.specs.Walk.{place_at, Opens}
use Rattle.zone_walk.proofs.Walk.zone.Goals as goal

small : (w : Walk) → Opens w w.intervals.n → (j : ℕ) → (place_at w j).multiplier ≤ 3600
small w o j = go (dec_lt j w.intervals.n)
  where
    go : Dec (j < w.intervals.n) → (place_at w j).multiplier ≤ 3600
    go (yes h) = (o.each j h).multiplier_to
    go (no h) = omega (arith, w.clear j (omega arith))

pub invariant_of-result : goal.invariant_of-result
invariant_of-result c =
    let w = c.args.self.now in
    let last = c.requires.each (w.intervals.n - 1) (omega (arith, c.requires.from)) in
    record { least_to = omega arith; greatest_to = last.greatest_to; each = λ j. rw (at j) (small w c.requires j); beyond = λ j h. at j ∙ w.clear j h }
  where
    at : (j : ℕ) → get_or c.multipliers.result j 0 ≡ (place_at c.args.self.now j).multiplier
    at j = ap (λ (l : List ℕ). get_or l j 0) c.multipliers.ensures ∙ get_or-map (λ (p : Place). p.multiplier) c.args.self.now.places j no_place

pub returns : goal.returns
returns c =
    let w = c.args.self.now in
    let taken = take-map (λ (p : Place). p.multiplier) w.intervals.n w.places in
    rw c.multipliers.ensures (rw taken refl)
