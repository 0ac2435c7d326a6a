-- The order of multipliers is strict, so two rising lists with the same zones are the same list.
-- Assumes nothing.
use mathlib.Core.Path.{◌≡◌, sym}
use mathlib.Core.List.{List, [], ◌∷◌, ◌++◌, Memᴰ}
use Prim.Native.Nat.{ℕ, ◌<◌}
use native.Mathlib.Omega.{arith}
use native.Mathlib.Nat.{le_refl}
use Rattle.model.proofs.Lists.{Holds, rising_once, rising_one}
use Rattle.zone_walk.specs.Zone.{Zone}
use Rattle.zones.specs.Zones.{Before}
use Rattle.zones.specs.Lies.{ZonesRise}

pub before_asym : (xs ys : List ℕ) → Before xs ys → Before ys xs → ⊥
before_asym [] ys h k = h
before_asym (x ∷ xs) [] h k = h
before_asym (x ∷ xs) (y ∷ ys) h k =
    let e : x ≡ y = omega arith in
    before_asym xs ys (h.1 e) (k.1 (sym e))

-- after the same beginning the smaller next multiplier comes first
pub before_after : (xs : List ℕ) {a b : ℕ} (ys zs : List ℕ) → a < b → Before (xs ++ a ∷ ys) (xs ++ b ∷ zs)
before_after [] {a} {b} ys zs h = (omega arith, λ (e : a ≡ b). absurd (omega arith))
before_after (x ∷ xs) ys zs h = (le_refl x, λ e. before_after xs ys zs h)

-- no zone stands twice
pub not_again : (z : Zone) (zs : List Zone) → ZonesRise (z ∷ zs) → Memᴰ z zs → ⊥
not_again = rising_once _ (λ y z. before_asym y.multipliers z.multipliers)

pub zones_one_list : (ys zs : List Zone) → ZonesRise ys → ZonesRise zs → Holds ys zs → Holds zs ys → ys ≡ zs
zones_one_list = rising_one _ (λ y z. before_asym y.multipliers z.multipliers)
