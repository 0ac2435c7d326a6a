-- A zone's multipliers as clauses see them, and as the array has them: beyond the n jobs both read as zeros.
-- Assumes nothing.
use mathlib.Core.Path.{◌≡◌, sym, ◌∙◌}
use Prim.Native.Nat.{ℕ, ◌<◌}
use native.Mathlib.Omega.{arith}
use native.Mathlib.Decide.{dec_lt}
use lib.ListN.{get_or, take, length-take, get_or-eq_default}
use lib.Seq.{get_or-take}
use Rattle.zone_walk.specs.declared.Zone.TheInside.{Inside}
use Rattle.zone_walk.specs.RowNumbers.{RowNumbers}

pub multiplier_at : (z : Inside) → RowNumbers z → (j : ℕ) → get_or (take z.n z.multipliers) j 0 ≡ get_or z.multipliers j 0
multiplier_at z r j = go (dec_lt j z.n)
  where
    go : Dec (j < z.n) → get_or (take z.n z.multipliers) j 0 ≡ get_or z.multipliers j 0
    go (yes h) = get_or-take z.n z.multipliers j 0 h
    go (no h) = get_or-eq_default (take z.n z.multipliers) 0 (omega (arith, length-take z.n z.multipliers)) ∙ sym (r.beyond j (omega arith))
