-- A range narrowed by one job more holds the first periods of the range that put this job in its interval too.
-- Assumes nothing.
use mathlib.Core.Path.{◌≡◌, refl}
use mathlib.Core.Bool.{Bool, true, false}
use mathlib.Core.List.Memᴰ
use mathlib.Core.List.{List, Memᴰ}
use Prim.Native.Nat.{ℕ, ◌*◌, ◌/◌, ◌≤◌}
use native.Mathlib.Omega.{arith}
use native.Mathlib.Nat.{le-div_iff_mul-le}
use Rattle.model.specs.Rounding.{round_up}
use Rattle.model.proofs.Rounding.{round_up_le}
use Rattle.zone_range.specs.declared.Interval.{Interval}
use Rattle.zone_walk.specs.Zone.{Zone}
use Rattle.zone_walk.specs.Listing.{least_for, greatest_for, unless_empty}

pub record Narrowed (s : Interval) (least greatest m t : ℕ) : Type 0 where
  pub from : least ≤ t
  pub to : t ≤ greatest
  pub above : s.lo.0 ≤ m * t
  pub below : m * t ≤ s.hi.0

module _ (s : Interval) (least greatest m t : ℕ) (pos : 1 ≤ m) where
  pub narrowed : least_for s least m ≤ t → t ≤ greatest_for s greatest m → Narrowed s least greatest m t
  narrowed h k =
      let a : round_up s.lo.0 m ≤ t = omega arith in
      let b : t ≤ s.hi.0 / m = omega arith in
      let a' : s.lo.0 ≤ t * m = (round_up_le s.lo.0 t pos).0 a in
      let b' : t * m ≤ s.hi.0 = (le-div_iff_mul-le pos).0 b in
      omega arith

  pub narrows : Narrowed s least greatest m t → (least_for s least m ≤ t) × (t ≤ greatest_for s greatest m)
  narrows n =
      let a : round_up s.lo.0 m ≤ t = (round_up_le s.lo.0 t pos).1 (omega arith) in
      let b : t ≤ s.hi.0 / m = (le-div_iff_mul-le pos).1 (omega arith) in
      omega arith

-- the zones of a range that is not empty
pub in_nonempty : (empty : Bool) {z : Zone} {zs : List Zone} → Memᴰ z (unless_empty empty zs) → (empty ≡ false) × Memᴰ z zs
unfolding unless_empty
in_nonempty true m = absurd (Memᴰ.not-nil m)
in_nonempty false m = (refl, m)

pub in_open : (empty : Bool) {z : Zone} {zs : List Zone} → empty ≡ false → Memᴰ z zs → Memᴰ z (unless_empty empty zs)
unfolding unless_empty
in_open empty e m = rw e m
